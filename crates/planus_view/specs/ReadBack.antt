-- What a reader of vectors returns.
use Rattle.std.specs.Prelude.{◌≡◌, ℕ, ◌+◌, ◌*◌, List, length, drop, slice_get, Some}
use Rattle.std.specs.Prelude.{Result, IsOkAnd}
use Rattle.planus_read.specs.declared.errors.ErrorKind.{ErrorKind}
use Rattle.planus_read.specs.declared.plain.Plain.{Ghosts as PlainGhosts}
use Rattle.planus_read.specs.Clauses.{Answer, shown}
use Rattle.planus_read.specs.Reading.{Leads, vector_reading}
use Rattle.planus_read.specs.ReadsBack.{PlainReads, ReferenceReads}
use Rattle.planus_read.specs.Stands.{Stands, at}
use Rattle.planus_read.specs.Values.{Value, plain_list, reference_list}
use Rattle.planus_view.specs.declared.vector.SliceView.{SliceView}
use Rattle.planus_view.specs.declared.vector_of.VectorOf.{VectorOf}
use Rattle.planus_view.specs.VectorView.{view_of, ShowsVector}

module _ {T S : Type 0} (kind : PlainGhosts S) where
  pub record IsVectorOf
      {X : Type 0} (ItemReads : ℕ → ℕ → X → Type 0) (B : List ℕ) (k : ℕ) (items : List X)
      (v : VectorOf (SliceView T S kind)) : Type 0 where
    pub view :
        view_of v ≡ record { bytes = drop (k + 4) B; start = k + 4; count = length items }
    pub each :
        (i : ℕ) (item : X) → slice_get items i ≡ Some item
        → ItemReads (k + 4) (i * kind.SIZE) item

module _ (T : Type 0) {S : Type 0} (kind : PlainGhosts S) where
  abbrev pub IsReturnedAsVector :
      {X : Type 0} → (List ℕ → ℕ → ℕ → X → Type 0) → (List X → Value) → Type 0
  IsReturnedAsVector {X} ItemReads list =
      (B : List ℕ) (k start f : ℕ) (items : List X) → Stands B (at k) (list items)
      → Leads B (start + f) k
      → (r : Result (VectorOf (SliceView T S kind)) ErrorKind)
      → Answer
      (shown (ShowsVector (drop start B) start) (vector_reading (drop start B) f kind.SIZE)) r
      → IsOkAnd r (IsVectorOf kind (ItemReads B) B k items)

  -- A vector of plain items of the element's size reads back.
  abbrev pub PlainListsReadBack : Type 0
  PlainListsReadBack =
      (alignment : ℕ)
      → IsReturnedAsVector (λ B start f item. PlainReads (drop start B) f item)
      (plain_list kind.SIZE alignment)

  -- So does one of references, for elements of that size.
  abbrev pub ReferenceListsReadBack : Type 0
  ReferenceListsReadBack = kind.SIZE ≡ 4 → IsReturnedAsVector ReferenceReads reference_list
