-- The state of an iterator over a verified vector.
use Rattle.std.specs.Prelude.{◌≡◌, ℕ, ◌+◌, ◌-◌, ◌<◌, Option, Some, None}
use Rattle.planus_views.specs.declared.verified_items.VerifiedItems.{VerifiedItems}
use Rattle.planus_views.specs.declared.verified_items.VerifiedVector.{Ghosts as VectorGhosts}

module _ {V : Type 0} {kind : VectorGhosts V} where
  abbrev pub vector_of : VerifiedItems V kind → V
  vector_of s = s.whole

  -- the first index that is left
  abbrev pub front_of : VerifiedItems V kind → ℕ
  front_of s = s.front

  abbrev pub back_of : VerifiedItems V kind → ℕ
  back_of s = s.back

  -- the number of items left
  abbrev pub count_left : VerifiedItems V kind → ℕ
  count_left s = back_of s - front_of s

  -- over v, with all its items left
  pub record IsOverAll (v : V) (s : VerifiedItems V kind) : Type 0 where
    pub whole : vector_of s ≡ v
    pub front_is : front_of s ≡ 0
    pub back_is : back_of s ≡ kind.count v

  -- over the vector of s, with these indexes left
  pub record IsLeft (s : VerifiedItems V kind) (front back : ℕ) (t : VerifiedItems V kind)
      : Type 0 where
    pub same : vector_of t ≡ vector_of s
    pub front_is : front_of t ≡ front
    pub back_is : back_of t ≡ back

  module _ {A : Type 0} (is_item : V → ℕ → A → Type 0) where
    -- Takes the first item left; with none left nothing changes.
    abbrev pub TakesFirst : VerifiedItems V kind → Option A → VerifiedItems V kind → Type 0
    TakesFirst s None t = (front_of s ≡ back_of s) × (t ≡ s)
    TakesFirst s (Some x) t =
        (front_of s < back_of s) × is_item (vector_of s) (front_of s) x
        × IsLeft s (front_of s + 1) (back_of s) t

    -- Takes the last item left.
    abbrev pub TakesLast : VerifiedItems V kind → Option A → VerifiedItems V kind → Type 0
    TakesLast s None t = (front_of s ≡ back_of s) × (t ≡ s)
    TakesLast s (Some x) t =
        (front_of s < back_of s) × is_item (vector_of s) (back_of s - 1) x
        × IsLeft s (front_of s) (back_of s - 1) t
