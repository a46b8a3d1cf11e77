-- What is made of a table as a record: what is made of each of its fields, or the first error.
use Rattle.std.specs.Prelude.{◌≡◌, ℕ, List, [], ◌∷◌, Option, Result, Ok, Err, ⊤, ◌⊎◌, Box}
use Rattle.std.specs.Prelude.{String}
use Rattle.std.specs.declared.alloc.Global.{Global}
use Rattle.planus_read.specs.declared.table_reader.Table.{Table}
use Rattle.planus_read.specs.Plain.{Shape}
use Rattle.planus.specs.Accessors.{IsPlainRequired, IsTextField, IsTextRequired, IsTableField}
use Rattle.planus.specs.Accessors.{IsTableRequired}
use Rattle.planus.specs.ReadPlain.{IsPlainField, IsPlainFieldOr}
use Rattle.planus_owned.specs.declared.errors.OwnError.{OwnError}
use Rattle.planus_owned.specs.declared.errors.OwnError.TheVariants.{TooDeep}
use Rattle.planus_owned.specs.Made.{Accessor, IsMadeFrom, CopiesValue, CopiesText, CopiesIf}
use Rattle.planus_owned.specs.Made.{CopiesBox}

-- A field of records: which part of a record it is, and what is made of a table for it, by the
-- table's name in errors.
pub record OwnedField (R : Type 0) : Type 1 where
  pub Value : Type 0
  pub part : R → Value
  pub Made : List ℕ → Table → Result Value OwnError → Type 0

-- Each field of the record is what is made for it; or the error is that of a field.
abbrev pub HasFields :
    {R : Type 0} → List ℕ → List (OwnedField R) → Table → Result R OwnError → Type 0
HasFields type_ [] table (Ok x) = ⊤
HasFields type_ (field ∷ fields) table (Ok x) =
    field.Made type_ table (Ok (field.part x)) × HasFields type_ fields table (Ok x)
HasFields type_ [] table (Err e) = ⊥
HasFields type_ (field ∷ fields) table (Err e) =
    field.Made type_ table (Err e) ⊎ HasFields type_ fields table (Err e)

-- What records are made of: of nothing where no more tables may lie within each other, else of
-- these fields of a table of this name.
pub data Owning (R : Type 0) : Type 1 where
  too_deep : Owning R
  record_of : List ℕ → List (OwnedField R) → Owning R

-- what is made of a table
abbrev pub IsMade : {R : Type 0} → Owning R → Table → Result R OwnError → Type 0
IsMade too_deep table r = r ≡ Err TooDeep
IsMade (record_of type_ fields) table r = HasFields type_ fields table r

-- what is made of a view, by its table
pub record IsMadeOfView {R V : Type 0} (owned : Owning R) (table_of : V → Table) (view : V)
    (r : Result R OwnError)
    : Type 0 where
  pub made : IsMade owned (table_of view) r

module _ {R V : Type 0} (K : Type 0) (table_of : V → Table) (owned : Owning R) where
  -- what is made of the table that a field leads to, in memory of its own
  abbrev pub OwnsTable : Table → ℕ → List ℕ → List ℕ → Result (Box R Global) OwnError → Type 0
  OwnsTable = IsMadeFrom (IsTableRequired K table_of) (CopiesBox (IsMadeOfView owned table_of))

  -- the same of a field that may be absent
  abbrev pub OwnsTableIf :
      Table → ℕ → List ℕ → List ℕ → Result (Option (Box R Global)) OwnError → Type 0
  OwnsTableIf =
      IsMadeFrom (IsTableField K table_of) (CopiesIf (CopiesBox (IsMadeOfView owned table_of)))

module _ {R : Type 0} where
  -- the field that is made of what its accessor returns
  abbrev pub made_of :
      {T V : Type 0} → Accessor T → (T → Result V OwnError → Type 0) → ℕ → List ℕ → (R → V)
      → OwnedField R
  made_of {T} {V} Returns Copies slot method part = record {
    Value = V;
    part = part;
    Made = λ type_ table r. IsMadeFrom Returns Copies table slot type_ method r;
  }

  -- a string
  abbrev pub text : ℕ → List ℕ → (R → String Global) → OwnedField R
  text = made_of IsTextRequired CopiesText

  -- a string that may be absent
  abbrev pub text_if : ℕ → List ℕ → (R → Option (String Global)) → OwnedField R
  text_if = made_of IsTextField (CopiesIf CopiesText)

  module _ {T : Type 0} {size alignment : ℕ} (shape : Shape T size alignment) where
    -- a number, a bool, an enum, flags or a struct
    abbrev pub plain : ℕ → List ℕ → (R → T) → OwnedField R
    plain = made_of (IsPlainRequired shape) CopiesValue

    -- the same, which may be absent
    abbrev pub plain_if : ℕ → List ℕ → (R → Option T) → OwnedField R
    plain_if = made_of (IsPlainField shape) CopiesValue

    -- the same, with its default if absent
    abbrev pub plain_or : T → ℕ → List ℕ → (R → T) → OwnedField R
    plain_or default = made_of (IsPlainFieldOr shape default) CopiesValue

  module _ {T V : Type 0} (K : Type 0) (table_of : T → Table) (owned : Owning V) where
    -- a record in memory of its own, of the table that a field leads to
    abbrev pub table : ℕ → List ℕ → (R → Box V Global) → OwnedField R
    table = made_of (IsTableRequired K table_of) (CopiesBox (IsMadeOfView owned table_of))

    -- the same, which may be absent
    abbrev pub table_if : ℕ → List ℕ → (R → Option (Box V Global)) → OwnedField R
    table_if =
        made_of (IsTableField K table_of) (CopiesIf (CopiesBox (IsMadeOfView owned table_of)))
