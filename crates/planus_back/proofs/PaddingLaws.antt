-- The laws of padding.
use Rattle.std.proofs.Common.{◌≡◌, ℕ, ◌+◌, ◌-◌, ◌*◌, ◌/◌, ◌%◌, ◌^◌, ◌<◌, ◌≤◌, max, inl, inr, arith, sym, subst, List, ◌∷◌}
use Rattle.std.specs.Int.{◌∣◌}
use Rattle.std.specs.List.{AllByRecursion}
use Rattle.std.proofs.lemmas.Bool.{cases_lt}
use Rattle.std.proofs.lemmas.Nat.{pow_pos, div-add-mod'}
use Rattle.std.proofs.lemmas.Nat.Gcd.{dvd_refl, dvd-zero}
use Rattle.std.proofs.Math.Nat.{dvd-add, mod-lt}
use Rattle.planus_back.specs.Promises.{Promise, IsPowerOfTwo, Keeps, Keep, greatest_alignment}
use Rattle.planus_back.specs.Padding.{promise_of, IsLeast, IsLeastPadding}
use Rattle.planus_back.specs.Descriptions.{Describes}
use Rattle.planus_back.specs.Requests.{Delay, LeavesSome, DescribesAll}
use Rattle.planus_back.proofs.Lengths.{Computed, combined, turns_of, least_of_request, those_of_request}
use Rattle.planus_back.proofs.Lists.{mask_is_greatest, greatest_is_power, delayed_is_below, least_padding_of, kept_before, reached_later, described_after}

pub below_alignment : (length : ℕ) (promises : List Promise) (size alignment padding : ℕ) → 0 < alignment
    → IsLeastPadding length promises size alignment padding → padding < alignment
below_alignment length promises size alignment padding positive h =
    elim (cases_lt padding alignment) as (λ _. padding < alignment) [
      | inl lt ↦ lt
      | inr le ↦
          let f = h.holds in
          let k = f.1.0 in
          let l : ℕ = f.0 in
          let reach : length + padding + size ≤ l = k.reaches in
          let r : ℕ = padding - alignment in
          let e : (l - (length + padding + size)) + alignment ≡ l - (length + r + size) = omega (arith, reach, le) in
          let again : Keeps l (promise_of (length + r + size) alignment) = record {
            reaches = omega (arith, reach);
            aligns = subst (λ x. alignment ∣ x) e (dvd-add alignment k.aligns (dvd_refl alignment));
          } in
          let t : padding ≤ r = h.least r (l, (again, f.1.1)) in
          absurd (omega (arith, t, le, positive))
    ]

pub is_unique : (length : ℕ) (promises : List Promise) (size alignment a b : ℕ) → IsLeastPadding length promises size alignment a
    → IsLeastPadding length promises size alignment b → a ≡ b
is_unique length promises size alignment a b h k = omega (arith, h.least b k.holds, k.least a h.holds)

pub computed : (d m s a e q c : ℕ) → d < m → 0 < a → e < m → e + s + q * m ≡ d + c * m → Computed d m s a e (e % a)
computed d m s a e q c small positive below f = record {
  below = below;
  turns = c - q;
  turned = turns_of d m s e q c small f;
  quotient = e / a;
  divided = sym (div-add-mod' e a);
  small = mod-lt e positive;
}

pub exists_described : (length delayed mask : ℕ) (promises : List Promise) (size alignment : ℕ) → Describes length delayed mask promises
    → IsPowerOfTwo alignment → (padding : ℕ) × IsLeastPadding length promises size alignment padding
    × ((later : Delay) × DescribesAll later (length + padding + size) (promise_of (length + padding + size) alignment ∷ promises))
exists_described length delayed mask promises size alignment h power =
    let m : ℕ = mask + 1 in
    let same : greatest_alignment 1 promises ≡ m = mask_is_greatest length delayed mask promises h in
    let turns : IsPowerOfTwo m = subst (λ x. IsPowerOfTwo x) same (greatest_is_power promises h.powers) in
    let positive : 0 < alignment = (let t : 0 < 2 ^ power.0 = pow_pos power.0 in let e : alignment ≡ 2 ^ power.0 = power.1 in omega (arith, t, e)) in
    let asked : ℕ = alignment - 1 in
    let back : alignment ≡ asked + 1 = omega (arith, positive) in
    let small : delayed < m = delayed_is_below length delayed mask promises h in
    let whole : ℕ = delayed + size * mask in
    let parts : whole / m * m + whole % m ≡ whole = div-add-mod' whole m in
    let e : ℕ = whole % m in
    let p : ℕ = e % (asked + 1) in
    let f : e + size + whole / m * m ≡ delayed + size * m = omega (arith, parts) in
    let delay : Delay = record { delayed = delayed; mask = mask } in
    let done = combined length delayed size mask asked e p (computed delayed m size (asked + 1) e (whole / m) size small (omega arith) (mod-lt whole (omega arith)) f) turns (subst (λ x. IsPowerOfTwo x) back power) in
    let least : IsLeast (LeavesSome delay length size (asked + 1)) p = least_of_request delay length size asked e p done in
    let result : IsLeastPadding length promises size (asked + 1) p = least_padding_of delay length size (asked + 1) p promises h least in
    let later : Delay = record { delayed = e - p; mask = max mask asked } in
    let described : DescribesAll later (length + p + size) (promise_of (length + p + size) (asked + 1) ∷ promises)
    = described_after delay later length (length + p + size) (asked + 1) promises (omega arith) (subst (λ x. IsPowerOfTwo x) back power) (those_of_request delay length size asked e p done) h in (
      p,
      subst (λ x. IsLeastPadding length promises size x p) (sym back) result,
      (later, subst (λ x. DescribesAll later (length + p + size) (promise_of (length + p + size) x ∷ promises)) (sym back) described),
    )

pub exists : (length delayed mask : ℕ) (promises : List Promise) (size alignment : ℕ) → Describes length delayed mask promises
    → IsPowerOfTwo alignment → (padding : ℕ) × IsLeastPadding length promises size alignment padding
exists length delayed mask promises size alignment h power =
    let found = exists_described length delayed mask promises size alignment h power in
    (found.0, found.1)

pub stay_described : (delay : Delay) (length : ℕ) (promises : List Promise) (size alignment padding : ℕ) → DescribesAll delay length promises
    → IsPowerOfTwo alignment → IsLeastPadding length promises size alignment padding
    → (later : Delay) × DescribesAll later (length + padding + size) (promise_of (length + padding + size) alignment ∷ promises)
stay_described delay length promises size alignment padding h power least =
    let found = exists_described length delay.delayed delay.mask promises size alignment h power in
    let same : found.0 ≡ padding = is_unique length promises size alignment found.0 padding found.1 least in
    subst (λ p. (later : Delay) × DescribesAll later (length + p + size) (promise_of (length + p + size) alignment ∷ promises)) same found.2

pub keeps_all : (length : ℕ) (promises : List Promise) (size alignment padding : ℕ)
    → AllByRecursion (λ (p : Promise). IsPowerOfTwo p.alignment) promises → AllByRecursion (λ (p : Promise). p.distance ≤ length) promises → IsPowerOfTwo alignment → greatest_alignment 1 promises ≤ alignment
    → IsLeastPadding length promises size alignment padding
    → Keep (promise_of (length + padding + size) alignment ∷ promises) (length + padding + size)
keeps_all length promises size alignment padding powers reached power le least =
    let x : ℕ = length + padding + size in
    let f = least.holds in
    let l : ℕ = f.0 in
    let k = f.1.0 in
    let reach : x ≤ l = k.reaches in
    let e : l ≡ x + (l - x) = omega (arith, reach) in
    let kept : Keep promises (x + (l - x)) = subst (λ y. Keep promises y) e f.1.1 in
    let zero : 0 ≡ x - x = omega arith in (
      record { reaches = omega arith; aligns = subst (λ y. alignment ∣ y) zero (dvd-zero alignment) },
      kept_before promises alignment (l - x) power le powers k.aligns x (reached_later length x promises (omega arith) reached) kept,
    )

pub keeps_every : (length delayed mask : ℕ) (promises : List Promise) (size alignment padding : ℕ)
    → Describes length delayed mask promises → IsPowerOfTwo alignment → greatest_alignment 1 promises ≤ alignment
    → IsLeastPadding length promises size alignment padding
    → Keep (promise_of (length + padding + size) alignment ∷ promises) (length + padding + size)
keeps_every length delayed mask promises size alignment padding h = keeps_all length promises size alignment padding h.powers h.reached
