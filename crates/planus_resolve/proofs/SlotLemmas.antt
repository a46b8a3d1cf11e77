-- Slots that are marked one after the other.
use Rattle.std.proofs.Common.{◌≡◌, ℕ, ◌+◌, ◌<◌, ◌≤◌, ◌≢◌, set, Bool, true, false, List, [], ◌∷◌, ◌++◌, length, take, drop, get_or, refl, sym, ap, subst, ◌∙◌, arith}
use Rattle.std.specs.Prelude.{nat_eq, nat_lt, not, ◌&&◌, ◌||◌}
use Rattle.std.specs.List.{list_any, list_all}
use Rattle.std.proofs.lemmas.List.{take-append-drop}
use Rattle.std.proofs.lemmas.List.Folds.{list_any-append, list_all_at, list_all_more, list_any_more}
use Rattle.std.proofs.lemmas.List.{get_or-set_other}
use Rattle.std.proofs.lemmas.Grind.{common_steps, get_or-set_at}
use Rattle.std.proofs.lemmas.Bool.Decides.{nat_tests}
use Rattle.planus_schema.specs.Slots.{are_apart, are_whole}

same : (a b : ℕ) → nat_eq a b ≡ nat_eq b a
same a b = grind arith

shuffled : (a e b c : Bool) → (not (a || (e || false)) && (not b && c)) ≡ (not (e || b) && (not a && c))
shuffled true true b c = refl
shuffled true false true c = refl
shuffled true false false c = refl
shuffled false true b c = refl
shuffled false false true c = refl
shuffled false false false c = refl

pub apart_push : (xs : List ℕ) (y : ℕ) → are_apart (xs ++ y ∷ []) ≡ (not (list_any (nat_eq y) xs) && are_apart xs)
apart_push [] y = refl
apart_push (x ∷ xs) y =
    rw (list_any-append (nat_eq x) xs (y ∷ []), apart_push xs y, same x y)
    (shuffled (list_any (nat_eq x) xs) (nat_eq y x) (list_any (nat_eq y) xs) (are_apart xs))

none : (a b c d : Bool) → (not a && c) ≡ false → (c ≡ false → d ≡ false) → (not (a || b) && d) ≡ false
none true b c d h f = refl
none false b true d h f = absurd cc
none false true false d h f = refl
none false false false d h f = f refl

pub apart_front : (xs ys : List ℕ) → are_apart xs ≡ false → are_apart (xs ++ ys) ≡ false
apart_front [] ys h = absurd cc
apart_front (x ∷ xs) ys h =
    rw (list_any-append (nat_eq x) xs ys) (none (list_any (nat_eq x) xs) (list_any (nat_eq x) ys) (are_apart xs) (are_apart (xs ++ ys)) h (apart_front xs ys))

and_false : (b : Bool) → (b && false) ≡ false
and_false true = refl
and_false false = refl

taken_next : (xs : List ℕ) (i : ℕ) → i < length xs → take (i + 1) xs ≡ take i xs ++ get_or xs i 0 ∷ []
taken_next xs i h = grind (arith, common_steps)

pub twice : (xs : List ℕ) (i : ℕ) → i < length xs → list_any (nat_eq (get_or xs i 0)) (take i xs) ≡ true → are_whole xs ≡ false
twice xs i l h =
    let y = get_or xs i 0 in
    let e : are_apart (take (i + 1) xs) ≡ false = rw (taken_next xs i l, apart_push (take i xs) y, h) refl in
    let w : are_apart xs ≡ false = subst (λ ys. are_apart ys ≡ false) (take-append-drop (i + 1) xs) (apart_front (take (i + 1) xs) (drop (i + 1) xs) e) in
    rw w (and_false (list_all (λ n. nat_lt n (length xs)) xs))

pub beyond : (xs : List ℕ) (i : ℕ) → i < length xs → length xs ≤ get_or xs i 0 → are_whole xs ≡ false
beyond xs i l h =
    let no : nat_lt (get_or xs i 0) (length xs) ≡ false = grind (arith, nat_tests, h) in
    rw (list_all_at (λ n. nat_lt n (length xs)) xs i 0 l no) refl

pub more_apart : (xs : List ℕ) (i : ℕ) → i < length xs → list_any (nat_eq (get_or xs i 0)) (take i xs) ≡ false → are_apart (take i xs) ≡ true → are_apart (take (i + 1) xs) ≡ true
more_apart xs i l n a = rw (taken_next xs i l, apart_push (take i xs) (get_or xs i 0), n, a) refl

pub more_below : (xs : List ℕ) (i : ℕ) → i < length xs → get_or xs i 0 < length xs → list_all (λ n. nat_lt n (length xs)) (take i xs) ≡ true → list_all (λ n. nat_lt n (length xs)) (take (i + 1) xs) ≡ true
more_below xs i l h a =
    let y : nat_lt (get_or xs i 0) (length xs) ≡ true = grind (arith, nat_tests, h) in
    list_all_more (λ n. nat_lt n (length xs)) xs i 0 l ∙ rw (a, y) refl

or_true : (b : Bool) → true ≡ (b || true)
or_true true = refl
or_true false = refl

or_false : (a b : Bool) → a ≡ b → a ≡ (b || false)
or_false true true e = refl
or_false false false e = refl
or_false true false e = absurd cc
or_false false true e = absurd cc

pub marked_next : (taken : List Bool) (xs : List ℕ) (i k : ℕ) → i < length xs → length taken ≡ length xs → get_or xs i 0 < length xs → k < length xs → get_or taken k false ≡ list_any (nat_eq k) (take i xs) → get_or (set taken (get_or xs i 0) true) k false ≡ list_any (nat_eq k) (take (i + 1) xs)
marked_next taken xs i k l many y lt h = here (nat_eq k (get_or xs i 0)) refl
  where
    here : (b : Bool) → nat_eq k (get_or xs i 0) ≡ b → get_or (set taken (get_or xs i 0) true) k false ≡ list_any (nat_eq k) (take (i + 1) xs)
    here true e =
        let is : k ≡ get_or xs i 0 = grind (arith, nat_tests, e) in
        let m : list_any (nat_eq k) (take (i + 1) xs) ≡ (list_any (nat_eq k) (take i xs) || true) = list_any_more (nat_eq k) xs i 0 l ∙ ap (λ b. list_any (nat_eq k) (take i xs) || b) e in
        get_or-set_at taken (get_or xs i 0) k true false is (omega (arith, many, y)) ∙ or_true (list_any (nat_eq k) (take i xs)) ∙ sym m
    here false e =
        let other : k ≢ get_or xs i 0 = grind (arith, nat_tests, e) in
        let m : list_any (nat_eq k) (take (i + 1) xs) ≡ (list_any (nat_eq k) (take i xs) || false) = list_any_more (nat_eq k) xs i 0 l ∙ ap (λ b. list_any (nat_eq k) (take i xs) || b) e in
        get_or-set_other taken (get_or xs i 0) k true false other ∙ or_false (get_or taken k false) (list_any (nat_eq k) (take i xs)) h ∙ sym m
