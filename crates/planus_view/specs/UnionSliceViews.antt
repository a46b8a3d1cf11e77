-- Views of unions in two slices.
use Rattle.std.specs.Prelude.{ℕ, ◌*◌, List, slice_index, Result}
use Rattle.planus_read.specs.Converted.{Converted}
use Rattle.planus_read.specs.Located.{Located}
use Rattle.planus_read.specs.Slices.{slice_bytes, slice_start}
use Rattle.planus_read.specs.declared.errors.ErrorKind.{ErrorKind}
use Rattle.planus_read.specs.declared.located.Error.{Error}
use Rattle.planus_view.specs.UnionViews.{UnionView, IsSubView}
use Rattle.planus_view.specs.declared.union_vector.UnionSliceView.{UnionSliceView}

-- the view of both slices
abbrev pub union_view : {T E : _} → UnionSliceView T E → UnionView
union_view v =
    record {
      tags = slice_bytes v.tags;
      references = slice_bytes v.values;
      start = slice_start v.values;
      count = v.count;
    }

abbrev pub union_count : {T E : _} → UnionSliceView T E → ℕ
union_count v = (union_view v).count

-- the sub-view at these positions
abbrev pub IsSubUnions : {T E : _} → UnionSliceView T E → ℕ → ℕ → UnionSliceView T E → Type 0
IsSubUnions v lo hi u = IsSubView (union_view v) lo hi (union_view u)

-- an error is at the start of the references
abbrev pub IsUnionOf :
    {T E : _} {A B : Type 0} → (List ℕ → ℕ → ℕ → ℕ → Result A ErrorKind → Type 0) → List ℕ
    → List ℕ → (Error → B → Type 0) → UnionSliceView T E → ℕ → Result A B → Type 0
IsUnionOf reads name method keeps v i r =
    let view = union_view v in
    Converted
    (Located (reads view.references view.start (slice_index view.tags i) (i * 4)) name method
    view.start)
    keeps r
