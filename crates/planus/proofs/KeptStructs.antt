-- A struct that is written by itself is stored.
use Rattle.std.proofs.Common.{ℕ, ◌≤◌, [], ◌∷◌, length, refl, sym, subst, Result, Ok, Err}
use Rattle.std.specs.Prelude.{IfOk}
use Rattle.planus_read.specs.Plain.{IsLayout, Shape}
use Rattle.planus_read.specs.Values.{Plain, apart}
use Rattle.planus_write.specs.Contents.{named_at}
use Rattle.planus_write.specs.History.{History}
use Rattle.planus_write.specs.Parts.{apart_entry, position_in}
use Rattle.planus_write.specs.Preparing.{WritesApart}
use Rattle.planus_write.specs.State.{State, IsHistoryOf, Grows}
use Rattle.planus_write.specs.declared.errors.BuildError.{BuildError}
use Rattle.planus_write.specs.declared.offset.Offset.{Offset}
use Rattle.planus_write.specs.lemmas.ContentLaws.{value_added}
use Rattle.planus_write.specs.lemmas.Laws.{entry_is_lawful}
use Rattle.planus_write.specs.lemmas.Staying.{kept_stays}
use Rattle.planus_read.specs.Stands.{Stands}
use Rattle.planus.specs.KeptValues.{KeepsValue, StandsFromEnd, StructStandsIn}

module _ {T : Type 0} (item : Plain) (layout : IsLayout (length item.bytes) item.alignment)
    (old new : State) where
  pub keeps : (r : Result (Offset T) BuildError) → WritesApart item old r new
      → IfOk r (λ offset. KeepsValue (apart item) old offset.distance new)
  keeps (Ok offset) done = λ history is.
      let added = value_added (apart item) old (offset.distance ∷ []) new history
      (offset.distance, new, done, (refl, refl)) is layout refl in (
        added.0,
        added.1,
        added.2,
        ((λ one named. kept_stays history added.0 one named added.2), added.3),
      )
  keeps (Err error) done = tt

  pub stands : (history : History) → IsHistoryOf old history → (r : Result (Offset T) BuildError)
      → WritesApart item old r new
      → IfOk r (λ offset. StandsFromEnd new.bytes (apart item) offset.distance)
  stands history is (Ok offset) done =
      let after = keeps (Ok offset) done history is in
      subst (λ B. Stands B (position_in B (named_at offset.distance)) (apart item)) after.1.bytes
      after.3.1.stands
  stands history is (Err error) done = tt

  pub stands_in : (r : Result (Offset T) BuildError)
      → IfOk r (λ offset. StandsFromEnd new.bytes (apart item) offset.distance)
      → IfOk r (λ offset. offset.distance ≤ length new.bytes)
      → IfOk r (λ offset. StructStandsIn new item.bytes offset.distance)
  stands_in (Ok offset) stands reached = record { reached = reached; stands = stands }
  stands_in (Err error) stands reached = tt

  pub grows : (r : Result (Offset T) BuildError) → WritesApart item old r new → Grows old new
  grows r done = (entry_is_lawful {X = Plain} {T = T} apart_entry).grows item old r new tt done

-- the bytes of a value are as many as its size
pub sized_layout : {A : Type 0} {size alignment : ℕ} (shape : Shape A size alignment) (x : A)
    → IsLayout (length (shape.encoded x)) alignment
sized_layout {alignment = alignment} shape x =
    subst (λ size. IsLayout size alignment) (sym (shape.sized x)) shape.layout
