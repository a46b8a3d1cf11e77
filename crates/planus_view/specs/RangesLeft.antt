-- The state of an iterator over sub-views.
use Rattle.std.specs.Prelude.{◌≡◌, ℕ, ◌-◌, List, [], ◌∷◌, ◌++◌, length, take, drop}
use Rattle.std.specs.Prelude.{Option, Some, None}
use Rattle.planus_view.specs.declared.cuts.Cut.{Ghosts as CutGhosts}
use Rattle.planus_view.specs.declared.sub_views.SubViews.{SubViews}
use Rattle.planus_view.specs.declared.view.View.{Ghosts as ViewGhosts}

module _ {V C : Type 0} {view : ViewGhosts V} {cut : CutGhosts C} where
  -- the view that is cut
  abbrev pub whole_of : SubViews V C view cut → V
  whole_of s = s.whole

  abbrev pub size_of : SubViews V C view cut → ℕ
  size_of s = s.size

  -- all ranges of the view
  abbrev pub ranges_of : SubViews V C view cut → List (ℕ × ℕ)
  ranges_of s = cut.ranges (view.count s.whole) s.size

  -- the ranges that are left
  abbrev pub left_of : SubViews V C view cut → List (ℕ × ℕ)
  left_of s = take (s.back - s.front) (drop s.front (ranges_of s))

  -- over v, cut for this size, with these ranges left
  pub record IsOverRanges
      (v : V) (size : ℕ) (left : List (ℕ × ℕ)) (s : SubViews V C view cut) : Type 0 where
    pub whole : whole_of s ≡ v
    pub size_is : size_of s ≡ size
    pub left_is : left_of s ≡ left

  pub record IsSameCut (s t : SubViews V C view cut) : Type 0 where
    pub whole : whole_of t ≡ whole_of s
    pub size : size_of t ≡ size_of s

  -- Takes the sub-view at the first range left, if any.
  abbrev pub TakesFirst : SubViews V C view cut → Option V → SubViews V C view cut → Type 0
  TakesFirst s None t = (left_of s ≡ []) × (t ≡ s)
  TakesFirst s (Some u) t =
      (range : ℕ × ℕ) × (left_of s ≡ range ∷ left_of t)
      × view.is_sub_view (whole_of s) range.0 range.1 u × IsSameCut s t

  -- Takes the sub-view at the last range left.
  abbrev pub TakesLast : SubViews V C view cut → Option V → SubViews V C view cut → Type 0
  TakesLast s None t = (left_of s ≡ []) × (t ≡ s)
  TakesLast s (Some u) t =
      (range : ℕ × ℕ) × (left_of s ≡ left_of t ++ range ∷ [])
      × view.is_sub_view (whole_of s) range.0 range.1 u × IsSameCut s t

  -- up to this number of ranges are skipped
  pub record SkipsFront (skipped : ℕ) (s t : SubViews V C view cut) : Type 0 where
    pub left : left_of t ≡ drop skipped (left_of s)
    pub same : IsSameCut s t

  -- up to this number of ranges are skipped
  pub record SkipsBack (skipped : ℕ) (s t : SubViews V C view cut) : Type 0 where
    pub left : left_of t ≡ take (length (left_of s) - skipped) (left_of s)
    pub same : IsSameCut s t

  -- the same view, with the same ranges left
  pub record IsCopy (s t : SubViews V C view cut) : Type 0 where
    pub same : IsSameCut s t
    pub left : left_of t ≡ left_of s
