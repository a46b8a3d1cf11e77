-- Divisors with their multiple named, and powers of two.
use Rattle.std.proofs.Common.{◌≡◌, ℕ, ◌+◌, ◌-◌, ◌*◌, ◌/◌, ◌%◌, ◌^◌, ◌<◌, ◌≤◌, inl, inr, arith, ap, sym, subst, ◌∙◌}
use Rattle.std.specs.Int.{◌∣◌}
use Rattle.std.proofs.lemmas.Nat.{pow-add}
use Rattle.std.proofs.lemmas.Bool.{cases_lt}
use Rattle.std.proofs.Math.Nat.{add-mul-mod_self_right, mod-le, mod-eq_of_lt, div-mul_cancel, dvd-mul_left, mul-le-mul_right}

pub divides_multiple : (a k n : ℕ) → n ≡ k * a → a ∣ n
divides_multiple a k n e = subst (λ x. a ∣ x) (sym e) (dvd-mul_left a k)

pub multiple_of_divides : (a n : ℕ) → a ∣ n → n ≡ n / a * a
multiple_of_divides a n h = sym (div-mul_cancel a h)

pub rest_is_least : (a p r x y : ℕ) → p < a → p + x * a ≡ r + y * a → p ≤ r
rest_is_least a p r x y small e =
    let h1 : p % a ≡ p = mod-eq_of_lt small in
    let h2 : (p + x * a) % a ≡ p % a = add-mul-mod_self_right p x a in
    let h3 : (r + y * a) % a ≡ r % a = add-mul-mod_self_right r y a in
    let h4 : (p + x * a) % a ≡ (r + y * a) % a = ap (λ z. z % a) e in
    let h5 : r % a ≤ r = mod-le r a in
    omega (arith, h1, h2, h3, h4, h5)

pub times_le : (x y m : ℕ) → x ≤ y → x * m ≤ y * m
times_le x y m h = mul-le-mul_right m h

pub multiples_in_order : (x y m r : ℕ) → r < m → x * m ≤ y * m + r → x ≤ y
multiples_in_order x y m r small h =
    elim (cases_lt y x) as (λ _. x ≤ y) [
      | inl more ↦
          let t : (y + 1) * m ≤ x * m = times_le (y + 1) x m (omega (arith, more)) in
          let f : (y + 1) * m ≡ y * m + m = omega arith in
          absurd (omega (arith, t, f, small, h))
      | inr le ↦ le
    ]

pub smaller_power_divides : (i j : ℕ) → i ≤ j → 2 ^ j ≡ 2 ^ (j - i) * 2 ^ i
smaller_power_divides i j h =
    let e : j ≡ (j - i) + i = omega (arith, h) in
    ap (λ x. 2 ^ x) e ∙ pow-add 2 (j - i) i
