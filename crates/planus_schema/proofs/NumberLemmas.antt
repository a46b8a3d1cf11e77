-- Numbers that are too large.
use Rattle.std.proofs.Common.{◌≡◌, ℕ, ◌+◌, ◌*◌, ◌<◌, ◌≤◌, Bool, true, false, cond, List, [], ◌∷◌, length, take, drop, get_or, refl, sym, ap, subst, ◌∙◌, arith}
use Rattle.std.specs.Prelude.{fold, Some, None}
use Rattle.std.specs.List.{list_all}
use Rattle.std.proofs.lemmas.List.{take-append-drop}
use Rattle.std.proofs.lemmas.List.Sums.{fold-append, fold_more}
use Rattle.planus_schema.specs.Numbers.{is_digit, base, value_in, digit_value, held, digits_said}

grows : (h : Bool) (t : ℕ) (ds : List ℕ) → t ≤ fold (λ total b. total * base h + digit_value b) t ds
grows h t [] = omega arith
grows true t (d ∷ ds) = let r = grows true (t * 16 + digit_value d) ds in omega (arith, r)
grows false t (d ∷ ds) = let r = grows false (t * 10 + digit_value d) ds in omega (arith, r)

value_grows : (h : Bool) (ds : List ℕ) (i : ℕ) → value_in (base h) (take i ds) ≤ value_in (base h) ds
value_grows h ds i =
    let e : fold (λ total b. total * base h + digit_value b) 0 ds ≡ fold (λ total b. total * base h + digit_value b) (value_in (base h) (take i ds)) (drop i ds) =
    ap (fold (λ total b. total * base h + digit_value b) 0) (sym (take-append-drop i ds)) ∙ fold-append (λ total b. total * base h + digit_value b) 0 (take i ds) (drop i ds) in
    subst (λ n. value_in (base h) (take i ds) ≤ n) (sym e) (grows h (value_in (base h) (take i ds)) (drop i ds))

not_held : (n : ℕ) → held n ≡ None → 18446744073709551616 ≤ n
not_held n h = grind (arith, h)

held_none : (n : ℕ) → 18446744073709551616 ≤ n → held n ≡ None
held_none n h = grind (arith, h)

either_none : (b : Bool) (n : ℕ) → 18446744073709551616 ≤ n → cond b (held n) None ≡ None
either_none true n h = held_none n h
either_none false n h = refl

pub too_large : (h : Bool) (ds : List ℕ) (i t : ℕ) → i < length ds → t ≡ value_in (base h) (take i ds) → held (t * base h + digit_value (get_or ds i 0)) ≡ None → digits_said h ds ≡ None
too_large h ds i t l v n =
    let m : value_in (base h) (take (i + 1) ds) ≡ t * base h + digit_value (get_or ds i 0) = fold_more (λ total b. total * base h + digit_value b) 0 ds i 0 l ∙ ap (λ x. x * base h + digit_value (get_or ds i 0)) (sym v) in
    let w : 18446744073709551616 ≤ value_in (base h) ds = omega (arith, not_held (t * base h + digit_value (get_or ds i 0)) n, value_grows h ds (i + 1), m) in
    either_none (list_all (is_digit h) ds) (value_in (base h) ds) w

pub all_digits : (h : Bool) (ds : List ℕ) (t : ℕ) → list_all (is_digit h) ds ≡ true → t ≡ value_in (base h) ds → t < 18446744073709551616 → Some t ≡ digits_said h ds
all_digits h ds t a v l = rw (a, ← v) (held_some t l)
  where
    held_some : (t : ℕ) → t < 18446744073709551616 → Some t ≡ held t
    held_some t l = grind (arith, l)
