-- Steps from both ends of a list.
use Rattle.std.proofs.Common.{◌≡◌, ℕ, ◌+◌, ◌-◌, ◌<◌, ◌≤◌, List, [], ◌∷◌, ◌++◌, length, take, drop}
use Rattle.std.proofs.Common.{get_or, slice_get, Some, refl, sym, ap, ◌∙◌, arith, ⊎_elim}
use Rattle.std.proofs.Math.Seq.{take-append_seam}
use Rattle.std.proofs.lemmas.Bool.{cases_lt}
use Rattle.std.proofs.lemmas.List.{length-drop, length-take-le, drop-drop, drop-take, take-take}
use Rattle.std.proofs.lemmas.List.{take_all, get_or_push, length_push}
use Rattle.std.proofs.lemmas.Option.{slice_get-get_or}
use Rattle.planus_view.proofs.LeftOf.{left_first, left_last}
use Rattle.planus_view.specs.Laws.{EndsAddUp, EndsStep}
use Rattle.planus_view.specs.Ranges.{ends}

inner :
    {X : Type 0} (R : List X) (a n c m : ℕ) → c ≤ n → m ≤ n - c
    → take m (drop c (take n (drop a R))) ≡ take m (drop (a + c) R)
inner R a n c m h i =
    let e : n ≡ c + (n - c) = omega arith in
    rw (
      e,
      drop-take c (n - c) (drop a R),
      take-take m (n - c) (drop c (drop a R)) i,
      drop-drop c a R,
    ) refl

inner_or_none :
    {X : Type 0} (R : List X) (a n c m : ℕ) → m ≤ n - c
    → take m (drop c (take n (drop a R))) ≡ take m (drop (a + c) R)
inner_or_none R a n c m i =
    ⊎_elim (λ (h : n < c). let z : m ≡ 0 = omega arith in rw z refl)
    (λ (h : c ≤ n). inner R a n c m h i) (cases_lt n c)

count_left : {X : Type 0} (R : List X) (a b : ℕ) → length (ends R a b) ≡ length R - (a + b)
count_left R a b = length-take-le (length R - (a + b)) (drop a R) (omega (arith, length-drop a R))

pub ends_add_up : EndsAddUp
ends_add_up R a b c d =
    let m : length (ends R a b) - (c + d) ≡ length R - (a + c + (b + d)) =
    omega (arith, count_left R a b) in
    rw m
    (inner_or_none R a (length R - (a + b)) c (length R - (a + c + (b + d))) (omega arith))

drops_front : {X : Type 0} (L : List X) (k : ℕ) → ends L k 0 ≡ drop k L
drops_front L k = take_all (length L - (k + 0)) (drop k L) (omega (arith, length-drop k L))

drops_back : {X : Type 0} (L : List X) (k : ℕ) → ends L 0 k ≡ take (length L - k) L
drops_back L k = let e : length L - (0 + k) ≡ length L - k = omega arith in rw e refl

dropped_front : (R : List (ℕ × ℕ)) (a b k : ℕ) → drop k (ends R a b) ≡ ends R (a + k) b
dropped_front R a b k =
    let e : b + 0 ≡ b = omega arith in
    sym (drops_front (ends R a b) k) ∙ ends_add_up R a b k 0 ∙ ap (ends R (a + k)) e

dropped_back :
    (R : List (ℕ × ℕ)) (a b k : ℕ)
    → take (length (ends R a b) - k) (ends R a b) ≡ ends R a (b + k)
dropped_back R a b k =
    let e : a + 0 ≡ a = omega arith in
    sym (drops_back (ends R a b) k) ∙ ends_add_up R a b 0 k ∙ ap (λ n. ends R n (b + k)) e

first_taken :
    (R : List (ℕ × ℕ)) (a b : ℕ) (range : ℕ × ℕ) (left : List (ℕ × ℕ))
    → ends R a b ≡ range ∷ left → slice_get R a ≡ Some range
first_taken R a b range left e =
    let n : length R - (a + b) ≡ length (range ∷ left) = sym (count_left R a b) ∙ ap length e in
    let inside : a < length R = omega (arith, n) in
    let this : slice_get R a ≡ Some (get_or R a range) = slice_get-get_or R a range inside in
    let same : length R - b - a ≡ length R - (a + b) = omega arith in
    let shown = left_first R a (length R - b) (get_or R a range) (omega (arith, n)) this in
    let got : get_or (ends R a b) 0 range ≡ get_or R a range =
    ap (λ k. get_or (take k (drop a R)) 0 range) (sym same) ∙ ap (λ l. get_or l 0 range) shown in
    this ∙ ap Some (sym got ∙ ap (λ l. get_or l 0 range) e)

last_taken :
    (R : List (ℕ × ℕ)) (a b : ℕ) (range : ℕ × ℕ) (left : List (ℕ × ℕ))
    → ends R a b ≡ left ++ range ∷ [] → slice_get R (length R - (b + 1)) ≡ Some range
last_taken R a b range left e =
    let n : length R - (a + b) ≡ length left + 1 =
    sym (count_left R a b) ∙ ap length e ∙ length_push left range in
    let k = length R - (b + 1) in
    let x = get_or R k range in
    let this : slice_get R k ≡ Some x = slice_get-get_or R k range (omega (arith, n)) in
    let same : length R - b - a ≡ length R - (a + b) = omega arith in
    let shown = left_last R a (length R - b) k x (omega (arith, n)) (omega (arith, n)) this in
    let ys = take (k - a) (drop a R) in
    let count : length ys ≡ length left =
    length-take-le (k - a) (drop a R) (omega (arith, length-drop a R)) ∙ omega (arith, n) in
    let whole : left ++ range ∷ [] ≡ ys ++ x ∷ [] =
    sym e ∙ ap (λ m. take m (drop a R)) (sym same) ∙ shown in
    let got : range ≡ x =
    sym (get_or_push left range range (length left) refl)
    ∙ ap (λ l. get_or l (length left) range) whole
    ∙ get_or_push ys x range (length left) count in
    this ∙ ap Some (sym got)

pub ends_step : EndsStep
ends_step R a b = record {
  all = take_all (length R - 0) R (omega arith);
  first =
      λ range left e. (first_taken R a b range left e, sym (ap (drop 1) e) ∙ dropped_front R a b 1);
  last = λ range left e. (
    last_taken R a b range left e,
    let one : length (left ++ range ∷ []) - 1 ≡ length left =
        omega (arith, length_push left range) in
        sym (take-append_seam left (range ∷ [])) ∙ ap (λ n. take n (left ++ range ∷ [])) (sym one)
        ∙ sym (ap (λ l. take (length l - 1) l) e) ∙ dropped_back R a b 1,
  );
  dropped_front = dropped_front R a b;
  dropped_back = dropped_back R a b;
}
