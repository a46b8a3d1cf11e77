-- Fields of a fixed layout whose read may fail.
use Rattle.std.proofs.Common.{◌≡◌, ℕ, ◌+◌, ◌≤◌, List, length, subst, sym, Some, None, Result, Ok, Err, inl, inr}
use Rattle.planus_read.specs.declared.errors.ErrorKind.{ErrorKind}
use Rattle.planus_read.specs.declared.located.Error.{Error}
use Rattle.planus_read.specs.declared.table_reader.Table.{Table}
use Rattle.planus_read.specs.Clauses.{Answer}
use Rattle.planus_read.specs.Located.{Located, Required}
use Rattle.planus_read.specs.Plain.{Shape, own_reading, plain_reading}
use Rattle.planus_read.specs.Tables.{Reads, FieldAnswer, table_start, slot_of}
use Rattle.planus.specs.ReadPlain.{reads_plain, IsPlainFieldOr}
use Rattle.planus.proofs.ReadPlain.{field_or_read}
use Rattle.planus_views.specs.Fields.{IsPlace}
use Rattle.planus_views.proofs.Fields.{field_answered}
use Rattle.planus_views.specs.Members.{some_if}

-- where all bytes are there
pub own_plain :
    {T : Type 0} {size alignment : ℕ} (shape : Shape T size alignment) (S : List ℕ) (f : ℕ)
    (answer : Result T ErrorKind) → f + size ≤ length S → Answer (own_reading shape S f) answer
    → Answer (plain_reading shape S f) answer
own_plain shape S f (Ok x) inside h = h
own_plain shape S f (Err e) inside h = inr (inside, h)

pub judged :
    {T : Type 0} (reads : Reads T) (table : Table) (slot : ℕ) (B : List ℕ) (start offset : ℕ)
    (answer : Result T ErrorKind) → IsPlace table slot B start offset → reads B start offset answer
    → FieldAnswer reads table slot (some_if answer)
judged reads table slot B start offset (Ok x) place h =
    field_answered reads table slot B start offset x place h
judged reads table slot B start offset (Err e) place h = (
  place.present,
  subst (λ l. reads l (table_start table) (slot_of table slot) (Err e)) place.bytes
      (subst (λ s. reads B s (slot_of table slot) (Err e)) place.begin
      (subst (λ k. reads B start k (Err e)) place.at h)),
)

pub judged_present :
    {T : Type 0} (reads : Reads T) (table : Table) (slot : ℕ) (answer : Result T ErrorKind)
    → FieldAnswer reads table slot (some_if answer)
    → Required (FieldAnswer reads table slot) answer
judged_present reads table slot (Ok x) h = h
judged_present reads table slot (Err e) h = inl h

module _ {T : Type 0} {size alignment : ℕ} (shape : Shape T size alignment) (default : T)
    (table : Table) (slot : ℕ) (type_ method : List ℕ) where
  pub judged_or :
      (answer : Result T ErrorKind) (r : Result T Error)
      → FieldAnswer (reads_plain shape) table slot (some_if answer)
      → Located (λ found. found ≡ answer) type_ method (table_start table) r
      → IsPlainFieldOr shape default table slot type_ method r
  judged_or answer (Ok x) given h =
      field_or_read shape default table slot type_ method (Ok (Some x))
      (subst (λ (a : Result T ErrorKind). FieldAnswer (reads_plain shape) table slot (some_if a)) (sym h) given)
  judged_or answer (Err e) given h =
      field_or_read shape default table slot type_ method (Err e) (
        subst (λ (a : Result T ErrorKind). FieldAnswer (reads_plain shape) table slot (some_if a)) (sym h.0) given,
        h.1,
      )

  pub absent_or :
      (r : Result T Error) → slot_of table slot ≡ 0
      → Located (λ found. found ≡ Ok default) type_ method (table_start table) r
      → IsPlainFieldOr shape default table slot type_ method r
  absent_or (Ok x) none h =
      subst (λ (x : T). IsPlainFieldOr shape default table slot type_ method (Ok x))
      (let same : default ≡ x = cc in same)
      (field_or_read shape default table slot type_ method (Ok None) none)
  absent_or (Err e) none h = absurd (let same = h.0 in cc)
