-- What a reader of union vectors returns for an encoded one.
use Rattle.std.specs.Prelude.{◌≡◌, ℕ, ◌+◌, ◌*◌, List, length, drop, slice_get, slice_index, Some}
use Rattle.std.specs.Prelude.{Result, IsOkAnd}
use Rattle.planus_read.specs.declared.errors.ErrorKind.{ErrorKind}
use Rattle.planus_read.specs.Clauses.{Answer, shown}
use Rattle.planus_read.specs.Reading.{Leads, union_vector_reading}
use Rattle.planus_read.specs.ReadsBack.{ReferenceReads}
use Rattle.planus_read.specs.Stands.{Stands, at_both}
use Rattle.planus_read.specs.Values.{union_vector}
use Rattle.planus_view.specs.declared.union_vector.UnionSliceView.{UnionSliceView}
use Rattle.planus_view.specs.declared.vector_of.VectorOf.{VectorOf}
use Rattle.planus_view.specs.UnionVectorView.{view_of, ShowsUnionVector}

module _ (T E : Type 0) where
  -- these unions at kt and kv of B: their tags, and references from which reading goes on
  pub record IsUnionVectorOf
      (B : List ℕ) (kt kv : ℕ) (items : List (ℕ × ℕ)) (v : VectorOf (UnionSliceView T E)) : Type 0
    where
      pub view :
          view_of v ≡ record {
            tags = drop (kt + 4) B;
            references = drop (kv + 4) B;
            start = kv + 4;
            count = length items;
          }
      pub tags :
          (i : ℕ) (item : ℕ × ℕ) → slice_get items i ≡ Some item
          → slice_index (drop (kt + 4) B) i ≡ item.0
      pub references :
          (i : ℕ) (item : ℕ × ℕ) → slice_get items i ≡ Some item
          → ReferenceReads B (kv + 4) (i * 4) item.1

  -- A union vector is returned by any two references to it, in each slice with both.
  abbrev pub UnionVectorsReadBack : Type 0
  UnionVectorsReadBack =
      (B : List ℕ) (kt kv start f g : ℕ) (items : List (ℕ × ℕ))
      → Stands B (at_both kt kv) (union_vector items) → Leads B (start + f) kt
      → Leads B (start + g) kv → (r : Result (VectorOf (UnionSliceView T E)) ErrorKind)
      → Answer
      (shown (ShowsUnionVector (drop start B) start) (union_vector_reading (drop start B) f g)) r
      → IsOkAnd r (IsUnionVectorOf B kt kv items)
