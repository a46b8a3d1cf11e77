-- Vectors by their views.
use Rattle.std.specs.Prelude.{ℕ}
use Rattle.planus_view.specs.declared.vector_of.VectorOf.{VectorOf}

module _ {V : Type 0} where
  -- the count
  abbrev pub count_in : (V → ℕ) → VectorOf V → ℕ
  count_in count v = count v.view

  -- the sub-vector at these positions
  abbrev pub IsSubVector : (V → ℕ → ℕ → V → Type 0) → VectorOf V → ℕ → ℕ → VectorOf V → Type 0
  IsSubVector is_sub_view v lo hi u = is_sub_view v.view lo hi u.view

  -- a possible item at the position
  abbrev pub IsItemIn : {A : Type 0} → (V → ℕ → A → Type 0) → VectorOf V → ℕ → A → Type 0
  IsItemIn is_item v i x = is_item v.view i x
