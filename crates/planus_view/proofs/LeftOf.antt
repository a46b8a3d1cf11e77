-- The rest of a list from position a to b.
use Rattle.std.proofs.Common.{◌≡◌, ℕ, ◌+◌, ◌-◌, ◌<◌, ◌≤◌, List, [], ◌∷◌, ◌++◌, length, take, drop}
use Rattle.std.proofs.Common.{min, get_or, Some, refl, ap, ◌∙◌, arith, slice_get, add-one}
use Rattle.std.proofs.lemmas.List.{take_all, drop_more, take_more, length-drop, length-take-le}
use Rattle.std.proofs.lemmas.List.{get_or-drop, drop-drop, drop-take, take-take, drop_min}
use Rattle.std.proofs.lemmas.Option.{slice_get_within, get_or_from_slice_get}

pub left_first :
    {X : Type 0} (R : List X) (a b : ℕ) (x : X) → a < b → slice_get R a ≡ Some x
    → take (b - a) (drop a R) ≡ x ∷ take (b - (a + 1)) (drop (a + 1) R)
left_first R a b x h e =
    let inside : a < length R = slice_get_within R a x e in
    let this : get_or R a x ≡ x = get_or_from_slice_get R a x x e in
    let n : b - a ≡ (b - (a + 1)) + 1 = omega arith in
    rw (drop_more R a x inside, this, n, add-one) refl

pub left_last :
    {X : Type 0} (R : List X) (a b k : ℕ) (x : X) → a ≤ k → b ≡ k + 1 → slice_get R k ≡ Some x
    → take (b - a) (drop a R) ≡ take (k - a) (drop a R) ++ x ∷ []
left_last R a b k x h e i =
    let inside : k < length R = slice_get_within R k x i in
    let this : get_or R k x ≡ x = get_or_from_slice_get R k x x i in
    let n : b - a ≡ (k - a) + 1 = omega arith in
    let more : take ((k - a) + 1) (drop a R) ≡ take (k - a) (drop a R) ++ get_or (drop a R) (k - a)
    x ∷ [] =
    take_more (drop a R) (k - a) x (omega (arith, length-drop a R)) in
    let same : get_or (drop a R) (k - a) x ≡ get_or R k x =
    get_or-drop a R (k - a) x ∙ ap (λ (j : ℕ). get_or R j x) (omega arith) in
    rw (n, more, same, this) refl

pub left_length :
    {X : Type 0} (R : List X) (a b : ℕ) → b ≤ length R → length (take (b - a) (drop a R)) ≡ b - a
left_length R a b h = length-take-le (b - a) (drop a R) (omega (arith, length-drop a R))

behind :
    {X : Type 0} (R : List X) (a n m r : ℕ) → n ≡ m + r
    → take r (drop (a + m) R) ≡ drop m (take n (drop a R))
behind R a n m r e = rw (e, drop-take m r (drop a R), drop-drop m a R) refl

pub front_skipped :
    {X : Type 0} (R : List X) (a b k : ℕ) → a ≤ b → b ≤ length R
    → take (b - (a + min k (b - a))) (drop (a + min k (b - a)) R) ≡ drop k (take (b - a) (drop a R))
front_skipped R a b k h i =
    let m = min k (b - a) in
    let n : b - a ≡ m + (b - (a + m)) = omega arith in
    let some : take (b - (a + m)) (drop (a + m) R) ≡ drop m (take (b - a) (drop a R)) =
    behind R a (b - a) m (b - (a + m)) n in
    let all : drop (min k (length (take (b - a) (drop a R)))) (take (b - a) (drop a R)) ≡ drop k
    (take (b - a) (drop a R)) =
    drop_min k (take (b - a) (drop a R)) in
    some ∙ (rw (left_length R a b i) at all)

pub back_skipped :
    {X : Type 0} (R : List X) (a b k : ℕ) → a ≤ b → b ≤ length R
    → take (b - min k (b - a) - a) (drop a R) ≡ take (length (take (b - a) (drop a R)) - k) (take
    (b - a) (drop a R))
back_skipped R a b k h i =
    let n : length (take (b - a) (drop a R)) - k ≡ b - min k (b - a) - a =
    omega (arith, left_length R a b i) in
    rw (n, take-take (b - min k (b - a) - a) (b - a) (drop a R) (omega arith)) refl

pub all_left : {X : Type 0} (R : List X) (b : ℕ) → b ≡ length R → take (b - 0) (drop 0 R) ≡ R
all_left R b e = take_all (b - 0) R (omega arith)
