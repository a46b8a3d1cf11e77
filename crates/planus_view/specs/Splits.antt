-- What a view is split into.
use Rattle.std.specs.Prelude.{◌≡◌, ℕ, ◌-◌, ◌<◌, ◌≤◌, Option, Some, None}

module _ {V : Type 0} (count : V → ℕ) (is_sub_view : V → ℕ → ℕ → V → Type 0) where
  -- the sub-views before a position and from it on
  pub record SplitAt (v : V) (mid : ℕ) (halves : V × V) : Type 0 where
    pub front : is_sub_view v 0 mid halves.0
    pub back : is_sub_view v mid (count v) halves.1

  -- none where there are fewer positions
  abbrev pub SplitsAt : V → ℕ → Option (V × V) → Type 0
  SplitsAt v mid None = count v < mid
  SplitsAt v mid (Some halves) = (mid ≤ count v) × SplitAt v mid halves

  module _ {A : Type 0} (is_item : V → ℕ → A → Type 0) where
    -- the first item and the others, or none
    abbrev pub FirstAndRest : V → Option (A × V) → Type 0
    FirstAndRest v None = count v ≡ 0
    FirstAndRest v (Some split) =
        (0 < count v) × is_item v 0 split.0 × is_sub_view v 1 (count v) split.1

    -- the last item and the others
    abbrev pub LastAndRest : V → Option (A × V) → Type 0
    LastAndRest v None = count v ≡ 0
    LastAndRest v (Some split) =
        (0 < count v) × is_item v (count v - 1) split.0 × is_sub_view v 0 (count v - 1) split.1

module _ {V A : Type 0} (count : V → ℕ) (is_item : V → ℕ → A → Type 0) where
  -- the last item
  abbrev pub LastItem : V → Option A → Type 0
  LastItem v None = count v ≡ 0
  LastItem v (Some x) = (0 < count v) × is_item v (count v - 1) x
