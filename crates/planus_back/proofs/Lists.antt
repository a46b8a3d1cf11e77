-- What the lengths that keep constraints have in common.
use Rattle.std.proofs.Common.{◌≡◌, ℕ, ◌+◌, ◌-◌, ◌*◌, ◌^◌, ◌<◌, ◌≤◌, max, inl, inr, arith, ap, sym, subst, refl, ◌∙◌, List, [], ◌∷◌}
use Rattle.std.specs.Int.{◌∣◌}
use Rattle.std.specs.List.{AllByRecursion}
use Rattle.std.proofs.lemmas.Bool.{cases_lt}
use Rattle.std.proofs.lemmas.Nat.{pow_pos, pow_below}
use Rattle.std.proofs.lemmas.Nat.Gcd.{dvd_refl, dvd_trans, le_of_dvd}
use Rattle.std.proofs.Math.Nat.{one-dvd, dvd-add, dvd-sub}
use Rattle.planus_back.specs.Promises.{Promise, IsPowerOfTwo, Keep, greatest_alignment}
use Rattle.planus_back.specs.Padding.{promise_of, IsLeast, IsLeastPadding}
use Rattle.planus_back.specs.Descriptions.{Describes}
use Rattle.planus_back.specs.Requests.{Delay, LeavesSome, DescribesThose, DescribesAll}
use Rattle.planus_back.proofs.Multiples.{smaller_power_divides, divides_multiple, times_le}

abbrev pub AllPowers : List Promise → Type 0
AllPowers promises = AllByRecursion (λ (p : Promise). IsPowerOfTwo p.alignment) promises

abbrev pub AllReached : ℕ → List Promise → Type 0
AllReached length promises = AllByRecursion (λ (p : Promise). p.distance ≤ length) promises

pub reached_later : (n m : ℕ) (promises : List Promise) → n ≤ m → AllReached n promises → AllReached m promises
reached_later n m [] le h = tt
reached_later n m (p ∷ promises) le h = (omega (arith, h.0, le), reached_later n m promises le h.1)

pub described_after : (delay after : Delay) (len x alignment : ℕ) (promises : List Promise) → len ≤ x → IsPowerOfTwo alignment
    → DescribesThose delay len after x alignment → DescribesAll delay len promises → DescribesAll after x (promise_of x alignment ∷ promises)
described_after delay after len x alignment promises le power those old = record {
  powers = (power, old.powers);
  reached = (omega arith, reached_later len x promises le old.reached);
  kept = λ finished from. (
    λ h. (those finished).1 ((old.kept finished (omega (arith, le, from))).0 h.1, h.0),
    λ h. (let both = (those finished).0 h in (both.1, (old.kept finished (omega (arith, le, from))).1 both.0)),
  );
}

pub least_padding_of : (delay : Delay) (len size alignment padding : ℕ) (promises : List Promise) → DescribesAll delay len promises
    → IsLeast (LeavesSome delay len size alignment) padding → IsLeastPadding len promises size alignment padding
least_padding_of delay len size alignment padding promises old h = record {
  holds = (let f = h.holds in let k = f.2 in let r : len + padding + size ≤ f.0 = k.reaches in (f.0, (f.2, (old.kept f.0 (omega (arith, r))).1 f.1)));
  least = λ r f. (let k = f.1.0 in let at : len + r + size ≤ f.0 = k.reaches in h.least r (f.0, (old.kept f.0 (omega (arith, at))).0 f.1.1, f.1.0));
}

pub greatest_divides : (promises : List Promise) (l m : ℕ) → l ≤ m → Keep promises l → Keep promises m → greatest_alignment 1 promises ∣ (m - l)
greatest_divides [] l m le h k = one-dvd (m - l)
greatest_divides (p ∷ promises) l m le h k =
    let rest : greatest_alignment 1 promises ∣ (m - l) = greatest_divides promises l m le h.1 k.1 in
    let a : p.alignment ∣ (l - p.distance) = h.0.aligns in
    let b : p.alignment ∣ (m - p.distance) = k.0.aligns in
    let c : p.alignment ∣ ((m - p.distance) - (l - p.distance)) = dvd-sub p.alignment b a in
    let reach : p.distance ≤ l = h.0.reaches in
    let e : (m - p.distance) - (l - p.distance) ≡ m - l = omega (arith, reach, le) in
    let here : p.alignment ∣ (m - l) = subst (λ x. p.alignment ∣ x) e c in
    let g : ℕ = greatest_alignment 1 promises in
    elim (cases_lt p.alignment g) as (λ _. max p.alignment g ∣ (m - l)) [
      | inl lt ↦ (let f : g ≡ max p.alignment g = omega (arith, lt) in subst (λ x. x ∣ (m - l)) f rest)
      | inr le2 ↦ (let f : p.alignment ≡ max p.alignment g = omega (arith, le2) in subst (λ x. x ∣ (m - l)) f here)
    ]

pub greatest_is_power : (promises : List Promise) → AllPowers promises → IsPowerOfTwo (greatest_alignment 1 promises)
greatest_is_power [] h = (0, refl)
greatest_is_power (p ∷ promises) h =
    let g : ℕ = greatest_alignment 1 promises in
    let rest : IsPowerOfTwo g = greatest_is_power promises h.1 in
    elim (cases_lt p.alignment g) as (λ _. IsPowerOfTwo (max p.alignment g)) [
      | inl lt ↦ (let f : g ≡ max p.alignment g = omega (arith, lt) in subst (λ x. IsPowerOfTwo x) f rest)
      | inr le ↦ (let f : p.alignment ≡ max p.alignment g = omega (arith, le) in subst (λ x. IsPowerOfTwo x) f h.0)
    ]

pub power_divides : (a b : ℕ) → IsPowerOfTwo a → IsPowerOfTwo b → a ≤ b → a ∣ b
power_divides a b (i, u) (j, v) le =
    elim (cases_lt j i) as (λ _. a ∣ b) [
      | inl lt ↦ (let t : 2 ^ j < 2 ^ i = pow_below j i lt in absurd (omega (arith, t, u, v, le)))
      | inr ge ↦ (let f : 2 ^ j ≡ 2 ^ (j - i) * 2 ^ i = smaller_power_divides i j ge in
          divides_multiple a (2 ^ (j - i)) b (v ∙ f ∙ ap (λ x. 2 ^ (j - i) * x) (sym u)))
    ]

pub kept_beyond : (promises : List Promise) (g n : ℕ) → IsPowerOfTwo g → greatest_alignment 1 promises ≤ g → AllPowers promises → g ∣ n
    → (l : ℕ) → Keep promises l → Keep promises (l + n)
kept_beyond [] g n power le h d l k = tt
kept_beyond (p ∷ promises) g n power le h d l k =
    let here : p.alignment ≤ g = omega (arith, le) in
    let divides : p.alignment ∣ n = dvd_trans p.alignment (power_divides p.alignment g h.0 power here) d in
    let reach : p.distance ≤ l = k.0.reaches in
    let e : (l - p.distance) + n ≡ (l + n) - p.distance = omega (arith, reach) in (
      record { reaches = omega (arith, reach); aligns = subst (λ x. p.alignment ∣ x) e (dvd-add p.alignment k.0.aligns divides) },
      kept_beyond promises g n power (omega (arith, le)) h.1 d l k.1,
    )

pub kept_before : (promises : List Promise) (g n : ℕ) → IsPowerOfTwo g → greatest_alignment 1 promises ≤ g → AllPowers promises → g ∣ n
    → (l : ℕ) → AllReached l promises → Keep promises (l + n) → Keep promises l
kept_before [] g n power le h d l r k = tt
kept_before (p ∷ promises) g n power le h d l r k =
    let here : p.alignment ≤ g = omega (arith, le) in
    let divides : p.alignment ∣ n = dvd_trans p.alignment (power_divides p.alignment g h.0 power here) d in
    let reach : p.distance ≤ l = r.0 in
    let e : ((l + n) - p.distance) - n ≡ l - p.distance = omega (arith, reach) in (
      record { reaches = reach; aligns = subst (λ x. p.alignment ∣ x) e (dvd-sub p.alignment k.0.aligns divides) },
      kept_before promises g n power (omega (arith, le)) h.1 d l r.1 k.1,
    )

pub mask_is_greatest : (len delayed mask : ℕ) (promises : List Promise) → Describes len delayed mask promises → greatest_alignment 1 promises ≡ mask + 1
mask_is_greatest len delayed mask promises h =
    let g : ℕ = greatest_alignment 1 promises in
    let power : IsPowerOfTwo g = greatest_is_power promises h.powers in
    let positive : 0 < g = (let t : 0 < 2 ^ power.0 = pow_pos power.0 in let e : g ≡ 2 ^ power.0 = power.1 in omega (arith, t, e)) in
    let first : ℕ = len + delayed in
    let k0 : Keep promises first = (h.kept first (omega arith)).1 (0, omega arith) in
    let k1 : Keep promises (first + (mask + 1)) = (h.kept (first + (mask + 1)) (omega arith)).1 (1, omega arith) in
    let d : g ∣ ((first + (mask + 1)) - first) = greatest_divides promises first (first + (mask + 1)) (omega arith) k0 k1 in
    let d2 : g ∣ (mask + 1) = (let e : (first + (mask + 1)) - first ≡ mask + 1 = omega arith in subst (λ x. g ∣ x) e d) in
    let le : g ≤ mask + 1 = le_of_dvd (omega arith) d2 in
    let up : Keep promises (first + g) = kept_beyond promises g g power (omega arith) h.powers (dvd_refl g) first k0 in
    let k = (h.kept (first + g) (omega arith)).0 up in
    let e : first + g ≡ len + delayed + k.0 * (mask + 1) = k.1 in
    let some : 1 ≤ k.0 = elim (cases_lt 0 k.0) as (λ _. 1 ≤ k.0) [ inl more ↦ more | inr none ↦ (let z : k.0 * (mask + 1) ≤ 0 * (mask + 1) = times_le k.0 0 (mask + 1) none in absurd (omega (arith, z, e, positive))) ] in
    let ge : 1 * (mask + 1) ≤ k.0 * (mask + 1) = times_le 1 k.0 (mask + 1) some in
    omega (arith, le, ge, e)

pub delayed_is_below : (len delayed mask : ℕ) (promises : List Promise) → Describes len delayed mask promises → delayed < mask + 1
delayed_is_below len delayed mask promises h =
    elim (cases_lt delayed (mask + 1)) as (λ _. delayed < mask + 1) [
      | inl lt ↦ lt
      | inr ge ↦
          let g : ℕ = greatest_alignment 1 promises in
          let same : g ≡ mask + 1 = mask_is_greatest len delayed mask promises h in
          let power : IsPowerOfTwo g = greatest_is_power promises h.powers in
          let k0 : Keep promises (len + delayed) = (h.kept (len + delayed) (omega arith)).1 (0, omega arith) in
          let l : ℕ = len + delayed - (mask + 1) in
          let e : len + delayed ≡ l + g = omega (arith, same, ge) in
          let k1 : Keep promises (l + g) = subst (λ x. Keep promises x) e k0 in
          let before : Keep promises l = kept_before promises g g power (omega arith) h.powers (dvd_refl g) l (reached_later len l promises (omega (arith, ge)) h.reached) k1 in
          let k = (h.kept l (omega (arith, ge))).0 before in
          let f : l ≡ len + delayed + k.0 * (mask + 1) = k.1 in
          absurd (omega (arith, f, ge))
    ]

pub greatest_from : (least : ℕ) (promises : List Promise) → 1 ≤ least → greatest_alignment least promises ≡ max (greatest_alignment 1 promises) least
greatest_from least [] h = omega (arith, h)
greatest_from least (p ∷ promises) h = omega (arith, greatest_from least promises h)
