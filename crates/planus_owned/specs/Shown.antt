-- By what it is shown that a record is made of a table, or which error.
use Rattle.std.specs.Prelude.{◌≡◌, ℕ, List, [], ◌∷◌, Ok, Err}
use Rattle.planus_read.specs.declared.table_reader.Table.{Table}
use Rattle.planus_owned.specs.declared.errors.OwnError.{OwnError}
use Rattle.planus_owned.specs.declared.errors.OwnError.TheVariants.{TooDeep}
use Rattle.planus_owned.specs.Records.{OwnedField, Owning}
use Rattle.planus_owned.specs.Records.Owning.{too_deep, record_of}

module _ {R : Type 0} (type_ : List ℕ) (table : Table) where
  -- where each field of the record is what is made for it
  abbrev pub GivenFields : R → List (OwnedField R) → Type 0 → Type 0
  GivenFields x [] Shown = Shown
  GivenFields x (field ∷ fields) Shown =
      field.Made type_ table (Ok (field.part x)) → GivenFields x fields Shown

  -- where it is enough to show it of the error of any one field
  abbrev pub GivenOne : OwnError → List (OwnedField R) → Type 0 → Type 0
  GivenOne e [] Shown = Shown
  GivenOne e (field ∷ fields) Shown =
      (field.Made type_ table (Err e) → Shown) → GivenOne e fields Shown

module _ {R : Type 0} where
  -- this is shown of the record where its fields are
  abbrev pub ShownOfRecord : Owning R → Table → R → Type 0 → Type 0
  ShownOfRecord too_deep table x Shown = ⊥ → Shown
  ShownOfRecord (record_of type_ fields) table x Shown = GivenFields type_ table x fields Shown

  -- this is shown of the error where it is that of a field
  abbrev pub ShownOfError : Owning R → Table → OwnError → Type 0 → Type 0
  ShownOfError too_deep table e Shown = e ≡ TooDeep → Shown
  ShownOfError (record_of type_ fields) table e Shown =
      GivenOne type_ table e fields Shown → Shown
