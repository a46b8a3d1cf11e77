-- Arithmetic of described lengths.
use Rattle.std.proofs.Common.{◌≡◌, ℕ, ◌+◌, ◌-◌, ◌*◌, ◌/◌, ◌^◌, ◌<◌, ◌≤◌, max, inl, inr, arith, ap, sym, subst, refl, ◌∙◌}
use Rattle.std.proofs.lemmas.Bool.{cases_lt}
use Rattle.std.proofs.Math.Nat.{mul_assoc}
use Rattle.planus_back.specs.Promises.{IsPowerOfTwo, Keeps}
use Rattle.planus_back.specs.Padding.{promise_of, IsLeast}
use Rattle.planus_back.specs.Requests.{Delay, LeavesSome, DescribesThose}
use Rattle.std.proofs.lemmas.Nat.{pow_pos}
use Rattle.planus_back.proofs.Multiples.{rest_is_least, multiples_in_order, times_le, smaller_power_divides, multiple_of_divides, divides_multiple}

pub record Computed (delayed m size a e p : ℕ) : Type 0 where
  pub below : e < m
  pub turns : ℕ
  pub turned : e + size ≡ delayed + turns * m
  pub quotient : ℕ
  pub divided : e ≡ quotient * a + p
  pub small : p < a

pub turns_of : (d m s e q c : ℕ) → d < m → e + s + q * m ≡ d + c * m → e + s ≡ d + (c - q) * m
turns_of d m s e q c small h =
    let le : q ≤ c = multiples_in_order q c m d small (omega (arith, h)) in
    let f : (c - q) * m + q * m ≡ c * m = let g : (c - q) + q ≡ c = omega (arith, le) in (let t : (c - q) * m + q * m ≡ ((c - q) + q) * m = omega arith in t ∙ ap (λ x. x * m) g) in
    omega (arith, h, f)

pub least_low : (d m s a e p c : ℕ) → Computed d m s a e p → m ≡ c * a → (k j r : ℕ) → d + k * m ≡ r + s + j * a → p ≤ r
least_low d m s a e p c h f k j r g =
    let n1 : k * m ≡ k * c * a = ap (λ x. k * x) f ∙ sym (mul_assoc k c a) in
    let n2 : h.turns * m ≡ h.turns * c * a = ap (λ x. h.turns * x) f ∙ sym (mul_assoc h.turns c a) in
    let e1 : e + s ≡ d + h.turns * m = h.turned in
    let e2 : e ≡ h.quotient * a + p = h.divided in
    let t : p + (h.quotient + k * c) * a ≡ r + (j + h.turns * c) * a = omega (arith, n1, n2, e1, e2, g) in
    rest_is_least a p r (h.quotient + k * c) (j + h.turns * c) h.small t

pub least_high : (d m s a e p c : ℕ) → Computed d m s a e p → a ≡ c * m → (k j r : ℕ) → d + k * m ≡ r + s + j * a → p ≤ r
least_high d m s a e p c h f k j r g =
    let n1 : j * a ≡ j * c * m = ap (λ x. j * x) f ∙ sym (mul_assoc j c m) in
    let e1 : e + s ≡ d + h.turns * m = h.turned in
    let e2 : e ≡ h.quotient * a + p = h.divided in
    let t : e + k * m ≡ r + (j * c + h.turns) * m = omega (arith, n1, e1, g) in
    let le : e ≤ r = rest_is_least m e r k (j * c + h.turns) h.below t in
    omega (arith, le, e2)

pub record Combined (len d m s a e p n : ℕ) : Type 0 where
  pub least : (k j r : ℕ) → d + k * m ≡ r + s + j * a → p ≤ r
  pub after : (k j l : ℕ) → l ≡ len + d + k * m → l ≡ (len + p + s) + j * a → (i : ℕ) × (l ≡ (len + p + s) + (e - p) + i * n)
  pub before : (i l : ℕ) → l ≡ (len + p + s) + (e - p) + i * n → (k : ℕ) × (l ≡ len + d + k * m)
  pub aligned : (i l : ℕ) → l ≡ (len + p + s) + (e - p) + i * n → (j : ℕ) × (l ≡ (len + p + s) + j * a)

after_low : (len d m s a e p : ℕ) → Computed d m s a e p → (k j l : ℕ) → l ≡ len + d + k * m → l ≡ (len + p + s) + j * a
    → (i : ℕ) × (l ≡ (len + p + s) + (e - p) + i * m)
after_low len d m s a e p h k j l f g =
    let e1 : e + s ≡ d + h.turns * m = h.turned in
    let e2 : e ≡ h.quotient * a + p = h.divided in
    let le : h.turns ≤ k = multiples_in_order h.turns k m e h.below (omega (arith, e1, f, g)) in
    let t : (k - h.turns) + h.turns ≡ k = omega (arith, le) in
    let u : (k - h.turns) * m + h.turns * m ≡ ((k - h.turns) + h.turns) * m = omega arith in
    let v : (k - h.turns) * m + h.turns * m ≡ k * m = u ∙ ap (λ x. x * m) t in
    (k - h.turns, omega (arith, v, e1, e2, f))

before_low : (len d m s a e p : ℕ) → Computed d m s a e p → (i l : ℕ) → l ≡ (len + p + s) + (e - p) + i * m → (k : ℕ) × (l ≡ len + d + k * m)
before_low len d m s a e p h i l f =
    let e1 : e + s ≡ d + h.turns * m = h.turned in
    let e2 : e ≡ h.quotient * a + p = h.divided in
    (i + h.turns, omega (arith, e1, e2, f))

aligned_low : (len d m s a e p c : ℕ) → Computed d m s a e p → m ≡ c * a → (i l : ℕ) → l ≡ (len + p + s) + (e - p) + i * m
    → (j : ℕ) × (l ≡ (len + p + s) + j * a)
aligned_low len d m s a e p c h eq i l f =
    let n1 : i * m ≡ i * c * a = ap (λ x. i * x) eq ∙ sym (mul_assoc i c a) in
    let e2 : e ≡ h.quotient * a + p = h.divided in
    (h.quotient + i * c, omega (arith, n1, e2, f))

pub combined_low : (len d m s a e p c : ℕ) → Computed d m s a e p → m ≡ c * a → Combined len d m s a e p m
combined_low len d m s a e p c h f = record {
  least = least_low d m s a e p c h f;
  after = after_low len d m s a e p h;
  before = before_low len d m s a e p h;
  aligned = aligned_low len d m s a e p c h f;
}

whole_high : (d m s a e p c : ℕ) → Computed d m s a e p → a ≡ c * m → e ≡ p
whole_high d m s a e p c h f =
    let e2 : e ≡ h.quotient * a + p = h.divided in
    let some : 0 < c = elim (cases_lt 0 c) as (λ _. 0 < c) [ inl more ↦ more | inr le ↦ let z : c * m ≤ 0 * m = times_le c 0 m le in absurd (omega (arith, z, f, h.small)) ] in
    let t : 1 * m ≤ c * m = times_le 1 c m some in
    let q : h.quotient ≤ 0 = multiples_in_order h.quotient 0 a e (omega (arith, t, f, h.below)) (omega (arith, e2)) in
    let z : h.quotient * a ≤ 0 * a = times_le h.quotient 0 a q in
    omega (arith, e2, z)

pub combined_high : (len d m s a e p c : ℕ) → Computed d m s a e p → a ≡ c * m → Combined len d m s a e p a
combined_high len d m s a e p c h f =
    let whole : e ≡ p = whole_high d m s a e p c h f in
    let e1 : e + s ≡ d + h.turns * m = h.turned in
    record {
      least = least_high d m s a e p c h f;
      after = λ k j l u v. (j, omega (arith, whole, v));
      before = λ i l u. (let n1 : i * a ≡ i * c * m = ap (λ x. i * x) f ∙ sym (mul_assoc i c m) in (h.turns + i * c, omega (arith, n1, e1, whole, u)));
      aligned = λ i l u. (i, omega (arith, whole, u));
    }

pub combined : (len d s mask asked e p : ℕ) → Computed d (mask + 1) s (asked + 1) e p → IsPowerOfTwo (mask + 1) → IsPowerOfTwo (asked + 1)
    → Combined len d (mask + 1) s (asked + 1) e p (max mask asked + 1)
combined len d s mask asked e p h (i, u) (j, v) =
    elim (cases_lt i j) as (λ _. Combined len d (mask + 1) s (asked + 1) e p (max mask asked + 1)) [
      | inl lt ↦
          let f : 2 ^ j ≡ 2 ^ (j - i) * 2 ^ i = smaller_power_divides i j (omega (arith, lt)) in
          let g : asked + 1 ≡ 2 ^ (j - i) * (mask + 1) = v ∙ f ∙ ap (λ x. 2 ^ (j - i) * x) (sym u) in
          let t : 1 * (mask + 1) ≤ 2 ^ (j - i) * (mask + 1) = times_le 1 (2 ^ (j - i)) (mask + 1) (pow_pos (j - i)) in
          let w : asked + 1 ≡ max mask asked + 1 = omega (arith, t, g) in
          subst (λ n. Combined len d (mask + 1) s (asked + 1) e p n) w (combined_high len d (mask + 1) s (asked + 1) e p (2 ^ (j - i)) h g)
      | inr le ↦
          let f : 2 ^ i ≡ 2 ^ (i - j) * 2 ^ j = smaller_power_divides j i le in
          let g : mask + 1 ≡ 2 ^ (i - j) * (asked + 1) = u ∙ f ∙ ap (λ x. 2 ^ (i - j) * x) (sym v) in
          let t : 1 * (asked + 1) ≤ 2 ^ (i - j) * (asked + 1) = times_le 1 (2 ^ (i - j)) (asked + 1) (pow_pos (i - j)) in
          let w : mask + 1 ≡ max mask asked + 1 = omega (arith, t, g) in
          subst (λ n. Combined len d (mask + 1) s (asked + 1) e p n) w (combined_low len d (mask + 1) s (asked + 1) e p (2 ^ (i - j)) h g)
    ]

pub multiples_to : (place alignment finished : ℕ) → Keeps finished (promise_of place alignment) → finished ≡ place + (finished - place) / alignment * alignment
multiples_to place alignment finished h =
    let t : finished - place ≡ (finished - place) / alignment * alignment = multiple_of_divides alignment (finished - place) h.aligns in
    let r : place ≤ finished = h.reaches in
    omega (arith, t, r)

pub kept_by_multiples : (place alignment j finished : ℕ) → finished ≡ place + j * alignment → Keeps finished (promise_of place alignment)
kept_by_multiples place alignment j finished e = record {
  reaches = omega (arith, e);
  aligns = divides_multiple alignment j (finished - place) (omega (arith, e));
}

pub least_of_request : (delay : Delay) (len s asked e p : ℕ) → Combined len delay.delayed (delay.mask + 1) s (asked + 1) e p (max delay.mask asked + 1)
    → IsLeast (LeavesSome delay len s (asked + 1)) p
least_of_request delay len s asked e p h = record {
  holds =
      let x : ℕ = len + p + s in
      let l : ℕ = x + (e - p) + 0 * (max delay.mask asked + 1) in
      let b = h.before 0 l refl in
      let a = h.aligned 0 l refl in
      (l, b, kept_by_multiples x (asked + 1) a.0 l a.1);
  least = λ r f.
      let t = multiples_to (len + r + s) (asked + 1) f.0 f.2 in
      let k = f.1 in
      let q = k.1 in
      h.least k.0 ((f.0 - (len + r + s)) / (asked + 1)) r (omega (arith, t, q));
}

pub those_of_request : (delay : Delay) (len s asked e p : ℕ) → Combined len delay.delayed (delay.mask + 1) s (asked + 1) e p (max delay.mask asked + 1)
    → DescribesThose delay len (record { delayed = e - p; mask = max delay.mask asked }) (len + p + s) (asked + 1)
those_of_request delay len s asked e p h = λ finished. (
  λ f. (h.before f.0 finished f.1, (let a = h.aligned f.0 finished f.1 in kept_by_multiples (len + p + s) (asked + 1) a.0 finished a.1)),
  λ f. (let t = multiples_to (len + p + s) (asked + 1) finished f.1 in let k = f.0 in h.after k.0 ((finished - (len + p + s)) / (asked + 1)) finished k.1 t),
)
