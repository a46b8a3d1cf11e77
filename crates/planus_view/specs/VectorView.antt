-- Vectors as views.
use Rattle.std.specs.Prelude.{◌≡◌, ℕ, ◌+◌, List, drop}
use Rattle.planus_read.specs.Reading.{Items}
use Rattle.planus_view.specs.SliceViews.{slice_view}
use Rattle.planus_view.specs.Views.{View}
use Rattle.planus_view.specs.declared.vector.SliceView.{SliceView}
use Rattle.planus_view.specs.declared.vector_of.VectorOf.{VectorOf}

-- the view of a vector
abbrev pub view_of : {T S : _} {kind : _} → VectorOf (SliceView T S kind) → View
view_of v = slice_view v.view

abbrev pub count_of : {T S : _} {kind : _} → VectorOf (SliceView T S kind) → ℕ
count_of v = (view_of v).count

-- of these items of the slice S
abbrev pub ShowsVector :
    {T S : _} {kind : _} → List ℕ → ℕ → Items → VectorOf (SliceView T S kind) → Type 0
ShowsVector S start items v =
    view_of v ≡ record {
      bytes = drop items.position S;
      start = start + items.position;
      count = items.count;
    }
