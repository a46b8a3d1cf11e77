-- The state of an iterator over items.
use Rattle.std.specs.Prelude.{◌≡◌, ℕ, ◌+◌, ◌-◌, ◌<◌, Option, Some, None}
use Rattle.planus_view.specs.declared.items.Items.{Items}
use Rattle.planus_view.specs.declared.view.View.{Ghosts as ViewGhosts}

module _ {V : Type 0} {view : ViewGhosts V} where
  abbrev pub items_of : Items V view → V
  items_of s = s.whole

  -- the first position that is left
  abbrev pub front_of : Items V view → ℕ
  front_of s = s.front

  abbrev pub back_of : Items V view → ℕ
  back_of s = s.back

  -- the number of items left
  abbrev pub count_left : Items V view → ℕ
  count_left s = back_of s - front_of s

  -- over v, with all its items left
  pub record IsOverAll (v : V) (s : Items V view) : Type 0 where
    pub whole : items_of s ≡ v
    pub front_is : front_of s ≡ 0
    pub back_is : back_of s ≡ view.count v

  -- over the view of s, with these positions left
  pub record IsLeft (s : Items V view) (front back : ℕ) (t : Items V view) : Type 0 where
    pub same : items_of t ≡ items_of s
    pub front_is : front_of t ≡ front
    pub back_is : back_of t ≡ back

  module _ {A : Type 0} (is_item : V → ℕ → A → Type 0) where
    abbrev pub ItemOfLeft : Items V view → ℕ → A → Type 0
    ItemOfLeft s i x =
        (left : V) × view.is_sub_view (items_of s) (front_of s) (back_of s) left × is_item left i x

    -- Takes the first item left; with none left nothing changes.
    abbrev pub ReadsFirst : Items V view → Option A → Items V view → Type 0
    ReadsFirst s None t = (front_of s ≡ back_of s) × (t ≡ s)
    ReadsFirst s (Some x) t =
        (front_of s < back_of s) × ItemOfLeft s 0 x × IsLeft s (front_of s + 1) (back_of s) t

    -- Takes the last item left.
    abbrev pub ReadsLast : Items V view → Option A → Items V view → Type 0
    ReadsLast s None t = (front_of s ≡ back_of s) × (t ≡ s)
    ReadsLast s (Some x) t =
        (front_of s < back_of s) × ItemOfLeft s (count_left s - 1) x
        × IsLeft s (front_of s) (back_of s - 1) t
