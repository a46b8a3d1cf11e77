-- Names that are used once.
use Rattle.std.specs.Prelude.{ℕ, Bool, List, [], ◌∷◌, map}
use Rattle.std.specs.Global.{Vec}
use Rattle.std.specs.List.{IsDistinct, list_any}
use Rattle.std.specs.Str.{bytes_eq}

abbrev pub items_of : List (Vec ℕ) → List (List ℕ)
items_of words = map (λ w. w.items) words

abbrev pub is_in : List (List ℕ) → List ℕ → Bool
is_in names name = list_any (λ w. bytes_eq w name) names

abbrev pub AreDistinct : List (List ℕ) → Type 0
AreDistinct names = IsDistinct bytes_eq names

abbrev pub Each2 : {A B : Type 0} → (A → B → Type 0) → List A → List B → Type 0
Each2 R [] [] = Unit {0}
Each2 R [] (y ∷ ys) = ⊥
Each2 R (x ∷ xs) [] = ⊥
Each2 R (x ∷ xs) (y ∷ ys) = R x y × Each2 R xs ys
