-- Views of items in a slice.
use Rattle.std.specs.Prelude.{ℕ, ◌*◌, List}
use Rattle.planus_read.specs.Slices.{slice_bytes, slice_start}
use Rattle.planus_view.specs.Views.{View, IsSubView}
use Rattle.planus_view.specs.declared.vector.SliceView.{SliceView}

-- the view of a slice
abbrev pub slice_view : {T S : _} {kind : _} → SliceView T S kind → View
slice_view v =
    record { bytes = slice_bytes v.buffer; start = slice_start v.buffer; count = v.count }

abbrev pub slice_count : {T S : _} {kind : _} → SliceView T S kind → ℕ
slice_count v = (slice_view v).count

-- the sub-view at these positions
abbrev pub IsSubSlice :
    {T S : _} {kind : _} → ℕ → SliceView T S kind → ℕ → ℕ → SliceView T S kind → Type 0
IsSubSlice size v lo hi u = IsSubView size (slice_view v) lo hi (slice_view u)

-- a possible item at the position
abbrev pub IsItemOfSlice :
    {T S : _} {kind : _} {A : Type 0} → ℕ → (List ℕ → ℕ → ℕ → A → Type 0) → SliceView T S kind
    → ℕ → A → Type 0
IsItemOfSlice size gives v i x = gives (slice_view v).bytes (slice_view v).start (i * size) x
