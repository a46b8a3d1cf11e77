-- The names of included files.
use Rattle.std.proofs.Common.{◌≡◌, ℕ, List, [], ◌∷◌, ◌++◌, map, refl, ap}
use Rattle.std.specs.Borrow.{Bor}
use Rattle.std.specs.List.{join_by, flat_map}

rest_texts : (separator : List ℕ) (texts : List (Bor (List ℕ)))
    → flat_map (λ t. separator ++ t.now) texts ≡ flat_map (λ t. separator ++ t) (map (λ t. t.now) texts)
rest_texts separator [] = refl
rest_texts separator (t ∷ ts) = ap (λ rest. (separator ++ t.now) ++ rest) (rest_texts separator ts)

pub joined_texts : (separator : List ℕ) (texts : List (Bor (List ℕ)))
    → join_by (λ t. t.now) separator texts ≡ join_by (λ t. t) separator (map (λ t. t.now) texts)
joined_texts separator [] = refl
joined_texts separator (t ∷ ts) = ap (λ rest. t.now ++ rest) (rest_texts separator ts)
