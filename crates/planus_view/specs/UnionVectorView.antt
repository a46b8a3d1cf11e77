-- Union vectors as views.
use Rattle.std.specs.Prelude.{◌≡◌, ℕ, ◌+◌, List, drop}
use Rattle.planus_read.specs.Reading.{UnionItems}
use Rattle.planus_view.specs.UnionSliceViews.{union_view}
use Rattle.planus_view.specs.UnionViews.{UnionView}
use Rattle.planus_view.specs.declared.union_vector.UnionSliceView.{UnionSliceView}
use Rattle.planus_view.specs.declared.vector_of.VectorOf.{VectorOf}

-- the view of a union vector
abbrev pub view_of : {T E : _} → VectorOf (UnionSliceView T E) → UnionView
view_of v = union_view v.view

abbrev pub count_of : {T E : _} → VectorOf (UnionSliceView T E) → ℕ
count_of v = (view_of v).count

-- of these items of the slice S
abbrev pub ShowsUnionVector :
    {T E : _} → List ℕ → ℕ → UnionItems → VectorOf (UnionSliceView T E) → Type 0
ShowsUnionVector S start items v =
    view_of v ≡ record {
      tags = drop items.tags S;
      references = drop items.references S;
      start = start + items.references;
      count = items.count;
    }
