-- What is made of a table is shown by what is made for its fields.
use Rattle.std.proofs.Common.{◌≡◌, ℕ, List, [], ◌∷◌, Result, Ok, Err, refl, sym, ap, subst, inl, inr}
use Rattle.std.specs.Prelude.{suc, IsErrAnd}
use Rattle.planus_read.specs.declared.table_reader.Table.{Table}
use Rattle.planus_owned.specs.declared.errors.OwnError.{OwnError}
use Rattle.planus_owned.specs.declared.errors.OwnError.TheVariants.{TooDeep}
use Rattle.planus_owned.specs.Records.{OwnedField, HasFields, Owning, IsMade}
use Rattle.planus_owned.specs.Records.Owning.{too_deep, record_of}
use Rattle.planus_owned.specs.Shown.{GivenFields, GivenOne, ShownOfRecord, ShownOfError}

module _ {R : Type 0} (type_ : List ℕ) (table : Table) where
  fields_given :
      (x : R) (fields : List (OwnedField R)) (Shown : Type 0)
      → (HasFields type_ fields table (Ok x) → Shown) → GivenFields type_ table x fields Shown
  fields_given x [] Shown shows = shows tt
  fields_given x (field ∷ fields) Shown shows =
      λ made. fields_given x fields Shown (λ others. shows (made, others))

  one_given :
      (e : OwnError) (fields : List (OwnedField R)) (Shown : Type 0)
      → (HasFields type_ fields table (Err e) → Shown)
      → GivenOne type_ table e fields Shown → Shown
  one_given e [] Shown leads given = given
  one_given e (field ∷ fields) Shown leads given =
      one_given e fields Shown (λ others. leads (inr others)) (given (λ made. leads (inl made)))

module _ {R : Type 0} where
  shown_of_record : (owned : Owning R) (table : Table) (x : R)
      → ShownOfRecord owned table x (IsMade owned table (Ok x))
  shown_of_record too_deep table x = λ never. elim never [ ]
  shown_of_record (record_of type_ fields) table x =
      fields_given type_ table x fields (HasFields type_ fields table (Ok x)) (λ has. has)

  shown_of_error : (owned : Owning R) (table : Table) (e : OwnError)
      → ShownOfError owned table e (IsMade owned table (Err e))
  shown_of_error too_deep table e = λ same. ap (λ e. Err e) same
  shown_of_error (record_of type_ fields) table e =
      one_given type_ table e fields (HasFields type_ fields table (Err e)) (λ has. has)

  module _ (owned : ℕ → Owning R) (depth n : ℕ) (is : depth ≡ suc n) (table : Table) where
    pub record_at : (x : R) → ShownOfRecord (owned (suc n)) table x (IsMade (owned depth) table (Ok x))
    record_at x =
        subst (λ k. ShownOfRecord (owned (suc n)) table x (IsMade (owned k) table (Ok x))) (sym is)
        (shown_of_record (owned (suc n)) table x)

    pub error_at : (r : Result R OwnError) (e : OwnError) → IsErrAnd r (λ x. x ≡ e)
        → ShownOfError (owned (suc n)) table e (IsMade (owned depth) table r)
    error_at (Ok x) e fails = elim fails [ ]
    error_at (Err x) e fails =
        subst (λ x. ShownOfError (owned (suc n)) table e (IsMade (owned depth) table (Err x)))
        (sym fails)
        (subst (λ k. ShownOfError (owned (suc n)) table e (IsMade (owned k) table (Err e)))
        (sym is) (shown_of_error (owned (suc n)) table e))

  pub none_at : (owned : ℕ → Owning R) → owned 0 ≡ too_deep → (depth : ℕ) → depth ≡ 0
      → (table : Table) → IsMade (owned depth) table (Err TooDeep)
  none_at owned spent depth none table =
      subst (λ k. IsMade (owned k) table (Err TooDeep)) (sym none)
      (subst (λ o. IsMade o table (Err TooDeep)) (sym spent) refl)
