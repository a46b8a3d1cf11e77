use Rattle.std.proofs.Common.{◌≡◌, ℕ, ◌+◌, ◌-◌, ◌%◌, ◌<◌, ◌≤◌, ◌^◌, max, sym, subst, ◌∙◌, inl, inr, arith, bit_and, bit_or}
use Rattle.std.proofs.lemmas.Bool.{cases_lt}
use Rattle.std.proofs.lemmas.Nat.{and_le_r, and_comm, and-not}
use Rattle.std.proofs.Math.Nat.{mod-eq_of_lt}
use lib.Bits.{or_add_and}
use Rattle.planus_back.proofs.Asked.{Asked, asked_for, ahead, padding_for, next_for, and_below}
use Rattle.planus_back.proofs.PaddingLaws.{keeps_every}
use Rattle.planus_back.specs.Promises.{IsPowerOfTwo}
use Rattle.planus_back.specs.Requests.{Delay}
use Rattle.planus_back.proofs.promises.Promises.request.Goals as goal

or_is_max : (a b : ℕ) → IsPowerOfTwo (a + 1) → IsPowerOfTwo (b + 1) → bit_or a b ≡ max a b
or_is_max a b p q = elim (cases_lt a b) as (λ _. bit_or a b ≡ max a b) [
  | inl lt ↦ (let e : bit_and a b ≡ a = and_below a b q ∙ mod-eq_of_lt (omega (arith, lt)) in omega (arith, or_add_and a b, e, lt))
  | inr le ↦ (let e : bit_and b a ≡ b = and_below b a p ∙ mod-eq_of_lt (omega (arith, le)) in omega (arith, or_add_and a b, and_comm a b, e, le))
]

greater_is_power : (a b : ℕ) → IsPowerOfTwo (a + 1) → IsPowerOfTwo (b + 1) → IsPowerOfTwo (max a b + 1)
greater_is_power a b p q = elim (cases_lt a b) as (λ _. IsPowerOfTwo (max a b + 1)) [
  | inl lt ↦ (let e : b ≡ max a b = omega (arith, lt) in subst (λ x. IsPowerOfTwo (x + 1)) e q)
  | inr le ↦ (let e : a ≡ max a b = omega (arith, le) in subst (λ x. IsPowerOfTwo (x + 1)) e p)
]

granted : (c : goal.After-struct_known-3-1) → Asked (record { delayed = c.self.inside.delayed; mask = c.self.inside.mask }) c.args.len c.args.size c.args.mask
granted c = asked_for (record { delayed = c.self.inside.delayed; mask = c.self.inside.mask }) c.args.len c.args.size c.args.mask c.self.invariant (omega arith) c.requires.power

one_mask : (c : goal.After-struct_known-3-1) → bit_or c.self.inside.mask c.args.mask ≡ max c.self.inside.mask c.args.mask
one_mask c = or_is_max c.self.inside.mask c.args.mask c.self.invariant.power c.requires.power

outside_of : (n mask : ℕ) → n < 2 ^ 64 → mask < 2 ^ 64 → bit_and n (18446744073709551615 - mask) ≡ n - bit_and n mask
outside_of n mask small within =
    let sum : bit_and (18446744073709551615 - mask) n + bit_and mask n ≡ n = and-not 64 mask n within small in
    omega (arith, sum, and_comm n mask, and_comm n (18446744073709551615 - mask))

rest_for : (delay : Delay) (size asked : ℕ) → delay.mask + 1 ≤ 2 ^ 30 → asked + 1 ≤ 2 ^ 30
    → bit_and (ahead delay size) (18446744073709551615 - asked) ≡ (next_for delay size asked).delayed
rest_for delay size asked bound small =
    let below : ahead delay size ≤ delay.mask = and_le_r ((delay.delayed + (18446744073709551616 - size)) % 18446744073709551616) delay.mask in
    outside_of (ahead delay size) asked (omega (arith, below, bound)) (omega (arith, small))

one_rest : (c : goal.After-struct_known-3-1) → bit_and (ahead (record { delayed = c.self.inside.delayed; mask = c.self.inside.mask }) c.args.size) (18446744073709551615 - c.args.mask)
    ≡ (next_for (record { delayed = c.self.inside.delayed; mask = c.self.inside.mask }) c.args.size c.args.mask).delayed
one_rest c = rest_for (record { delayed = c.self.inside.delayed; mask = c.self.inside.mask }) c.args.size c.args.mask c.self.invariant.bound c.requires.bound

pub returns-clause-least : goal.returns-clause-least
returns-clause-least c = rw (← c.self.view_is) ((granted c).least)

pub returns-clause-those : goal.returns-clause-those
returns-clause-those c = rw (← c.self.view_is, one_mask c, one_rest c) ((granted c).those)

pub returns-clause-least_padding : goal.returns-clause-least_padding
returns-clause-least_padding c = rw (← c.self.view_is) ((granted c).least_padding)

pub returns-clause-described : goal.returns-clause-described
returns-clause-described c = rw (← c.self.view_is, one_mask c, one_rest c) ((granted c).described)

pub returns-clause-kept : goal.returns-clause-kept
returns-clause-kept c =
    rw (← c.self.view_is) (λ promises h greatest. keeps_every c.args.len c.self.inside.delayed c.self.inside.mask promises c.args.size (c.args.mask + 1) _ h c.requires.power greatest ((granted c).least_padding promises h))

pub returns-then-size-gt-GREATEST_PLACE-clause-too_large : goal.returns-then-size-gt-GREATEST_PLACE-clause-too_large
returns-then-size-gt-GREATEST_PLACE-clause-too_large c =
    let inside : Delay = record { delayed = c.self.inside.delayed; mask = c.self.inside.mask } in
    let asked = asked_for inside c.args.len c.args.size c.args.mask c.self.invariant (omega arith) c.requires.power in
    rw (← c.self.view_is) (padding_for inside c.args.size c.args.mask, asked.least, omega arith)

pub returns-then-size-gt-GREATEST_PLACE-clause-too_large_padding : goal.returns-then-size-gt-GREATEST_PLACE-clause-too_large_padding
returns-then-size-gt-GREATEST_PLACE-clause-too_large_padding c =
    let inside : Delay = record { delayed = c.self.inside.delayed; mask = c.self.inside.mask } in
    let asked = asked_for inside c.args.len c.args.size c.args.mask c.self.invariant (omega arith) c.requires.power in
    rw (← c.self.view_is) (λ promises h. (padding_for inside c.args.size c.args.mask, asked.least_padding promises h, omega arith))

pub returns-clause-below : goal.returns-clause-below
returns-clause-below c = and_le_r _ c.args.mask

pub invariant_of-next : goal.invariant_of-next
invariant_of-next c = record {
  power = subst (λ x. IsPowerOfTwo (x + 1)) (sym (one_mask c)) (greater_is_power c.self.inside.mask c.args.mask c.self.invariant.power c.requires.power);
  bound = omega (arith, one_mask c);
  rest = omega (arith, and_le_r, one_mask c, one_rest c);
}
