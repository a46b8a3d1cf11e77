-- Requests as remainders and whole turns.
use Rattle.std.proofs.Common.{◌≡◌, ℕ, ◌+◌, ◌-◌, ◌*◌, ◌/◌, ◌%◌, ◌^◌, ◌<◌, ◌≤◌, max, arith, ap, sym, subst, refl, ◌∙◌, List, ◌∷◌, bit_and}
use Rattle.std.specs.Int.{◌∣◌}
use Rattle.std.proofs.lemmas.Nat.{pow_pos, div-add-mod', and_mask}
use Rattle.std.proofs.Math.Nat.{mod-lt, mod-mod_of_dvd}
use Rattle.planus_back.specs.Promises.{Promise, IsPowerOfTwo}
use Rattle.planus_back.specs.Padding.{promise_of, IsLeast, IsLeastPadding}
use Rattle.planus_back.specs.Requests.{Delay, LeavesSome, DescribesThose, DescribesAll}
use Rattle.planus_back.specs.inner.Sound.{IsSound}
use Rattle.planus_back.proofs.Multiples.{multiple_of_divides}
use Rattle.planus_back.proofs.Lengths.{Combined, combined, least_of_request, those_of_request}
use Rattle.planus_back.proofs.Lists.{power_divides, least_padding_of, described_after}
use Rattle.planus_back.proofs.PaddingLaws.{computed}

abbrev pub ahead : Delay → ℕ → ℕ
ahead delay size = bit_and ((delay.delayed + (18446744073709551616 - size)) % 18446744073709551616) delay.mask

abbrev pub padding_for : Delay → ℕ → ℕ → ℕ
padding_for delay size asked = bit_and (ahead delay size) asked

abbrev pub next_for : Delay → ℕ → ℕ → Delay
next_for delay size asked = record { delayed = ahead delay size - padding_for delay size asked; mask = max delay.mask asked }

pub and_below : (n mask : ℕ) → IsPowerOfTwo (mask + 1) → bit_and n mask ≡ n % (mask + 1)
and_below n mask (k, u) =
    let e : mask ≡ 2 ^ k - 1 = omega (arith, u, pow_pos k) in
    ap (λ x. bit_and n x) e ∙ and_mask n k ∙ ap (λ x. n % x) (sym u)

pub combined_for : (delay : Delay) (len size asked : ℕ) → IsSound delay → size < 2 ^ 64 → IsPowerOfTwo (asked + 1)
    → Combined len delay.delayed (delay.mask + 1) size (asked + 1) (ahead delay size) (padding_for delay size asked) (max delay.mask asked + 1)
combined_for delay len size asked sound fits power =
    let m : ℕ = delay.mask + 1 in
    let w : ℕ = 18446744073709551616 in
    let whole : ℕ = delay.delayed + (w - size) in
    let bound : m ≤ 2 ^ 30 = sound.bound in
    let d : m ∣ w = power_divides m w sound.power (64, refl) (omega (arith, bound)) in
    let e1 : ahead delay size ≡ whole % w % m = and_below (whole % w) delay.mask sound.power in
    let e2 : whole % w % m ≡ whole % m = mod-mod_of_dvd m whole d in
    let e : ahead delay size ≡ whole % m = e1 ∙ e2 in
    let below : ahead delay size < m = (let t : whole % m < m = mod-lt whole (omega arith) in omega (arith, t, e)) in
    let parts : whole / m * m + whole % m ≡ whole = div-add-mod' whole m in
    let turns : w ≡ w / m * m = multiple_of_divides m w d in
    let small : delay.delayed < m = (let r : delay.delayed ≤ delay.mask = sound.rest in omega (arith, r)) in
    let f : ahead delay size + size + whole / m * m ≡ delay.delayed + w / m * m = omega (arith, e, parts, turns, fits) in
    let p : padding_for delay size asked ≡ ahead delay size % (asked + 1) = and_below (ahead delay size) asked power in
    subst (λ x. Combined len delay.delayed (delay.mask + 1) size (asked + 1) (ahead delay size) x (max delay.mask asked + 1)) (sym p)
    (combined len delay.delayed size delay.mask asked (ahead delay size) (ahead delay size % (asked + 1))
    (computed delay.delayed m size (asked + 1) (ahead delay size) (whole / m) (w / m) small (omega arith) below f) sound.power power)

pub record Asked (delay : Delay) (len size asked : ℕ) : Type 0 where
  pub least : IsLeast (LeavesSome delay len size (asked + 1)) (padding_for delay size asked)
  pub those : DescribesThose delay len (next_for delay size asked) (len + padding_for delay size asked + size) (asked + 1)
  pub least_padding : (promises : List Promise) → DescribesAll delay len promises → IsLeastPadding len promises size (asked + 1) (padding_for delay size asked)
  pub described : (promises : List Promise) → DescribesAll delay len promises
      → DescribesAll (next_for delay size asked) (len + padding_for delay size asked + size) (promise_of (len + padding_for delay size asked + size) (asked + 1) ∷ promises)

pub asked_for : (delay : Delay) (len size asked : ℕ) → IsSound delay → size < 2 ^ 64 → IsPowerOfTwo (asked + 1) → Asked delay len size asked
asked_for delay len size asked sound fits power =
    let p : ℕ = padding_for delay size asked in
    let both = combined_for delay len size asked sound fits power in
    let least : IsLeast (LeavesSome delay len size (asked + 1)) p = least_of_request delay len size asked (ahead delay size) p both in
    let those : DescribesThose delay len (next_for delay size asked) (len + p + size) (asked + 1) = those_of_request delay len size asked (ahead delay size) p both in
    record {
      least = least;
      those = those;
      least_padding = λ promises h. least_padding_of delay len size (asked + 1) p promises h least;
      described = λ promises h. described_after delay (next_for delay size asked) len (len + p + size) (asked + 1) promises (omega arith) power those h;
    }
