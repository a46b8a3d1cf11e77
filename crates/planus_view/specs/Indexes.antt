-- What an index returns.
use Rattle.std.specs.Prelude.{ℕ, ◌+◌, ◌<◌, ◌≤◌, ◌⊎◌, Option, Some, None}
use Rattle.std.specs.declared.ops.Bound.{Bound}
use Rattle.std.specs.declared.ops.Bound.TheVariants.{Included, Excluded, Unbounded}

-- where a range with these bounds begins
abbrev pub start_of : Bound ℕ → ℕ
start_of (Included n) = n
start_of (Excluded n) = n + 1
start_of Unbounded = 0

abbrev pub end_of : ℕ → Bound ℕ → ℕ
end_of count (Included n) = n + 1
end_of count (Excluded n) = n
end_of count Unbounded = count

module _ {V : Type 0} (count : V → ℕ) (is_sub_view : V → ℕ → ℕ → V → Type 0) where
  -- the sub-view from lo up to hi, or none
  abbrev pub GetsSubView : V → ℕ → ℕ → Option V → Type 0
  GetsSubView v lo hi None = (hi < lo) ⊎ (count v < hi)
  GetsSubView v lo hi (Some u) = (lo ≤ hi) × (hi ≤ count v) × is_sub_view v lo hi u

module _ {V A : Type 0} (count : V → ℕ) (is_item : V → ℕ → A → Type 0) where
  -- the item at a position, or none
  abbrev pub GetsItem : V → ℕ → Option A → Type 0
  GetsItem v i None = count v ≤ i
  GetsItem v i (Some x) = (i < count v) × is_item v i x
