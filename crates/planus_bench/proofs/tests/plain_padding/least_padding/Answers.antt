use Rattle.std.proofs.Common.{◌≡◌, ℕ, ◌+◌, ◌%◌, ◌<◌, ◌≤◌, inl, inr, arith, subst, refl}
use Rattle.std.proofs.lemmas.Bool.{cases_lt}
use Rattle.std.proofs.Math.Nat.{mod-lt}
use Rattle.planus_back.specs.Padding.{CanPad}
use Rattle.planus_bench.specs.Pairs.{promises_of}
use Rattle.planus_bench.proofs.Periods.{within_later, pads_below}
use Rattle.planus_bench.proofs.tests.plain_padding.least_padding.Goals as goal

pub can_stand-requires-clause-within : goal.can_stand-requires-clause-within
can_stand-requires-clause-within c = within_later c.args.len (c.args.len + c.loop-padding.padding + c.args.size) c.args.promises.now (omega arith) c.requires.within

pub returns-then-can_stand : goal.returns-then-can_stand
returns-then-can_stand c = record {
  holds = c.if-can_stand.ensures.0 refl;
  least = λ m h. elim (cases_lt m c.loop-padding.padding) as (λ _. c.loop-padding.padding ≤ m) [
    | inl lt ↦ absurd (c.loop-padding.invariant m lt h)
    | inr ge ↦ ge
  ];
}

pub loop-padding-preserved : goal.loop-padding-preserved
loop-padding-preserved c = λ k below h.
    elim (cases_lt k c.loop-padding.padding) as (λ _. ⊥) [
      | inl lt ↦ c.loop-padding.invariant k lt h
      | inr ge ↦
          let e : k ≡ c.loop-padding.padding = omega (arith, ge, below) in
          let here : CanPad c.args.len (promises_of c.args.promises.now) c.args.size c.args.alignment c.loop-padding.padding =
          subst (λ x. CanPad c.args.len (promises_of c.args.promises.now) c.args.size c.args.alignment x) e h in
          let t = c.can_stand.ensures.1 here in
          cc
    ]

pub returns : goal.returns
returns c = λ padding h.
    let r : ℕ = padding % c.args.alignment in
    let small : r < c.args.alignment = mod-lt padding c.requires.above_zero in
    c.loop-padding.invariant r (omega (arith, small)) (pads_below c.args.len (promises_of c.args.promises.now) c.args.size c.args.alignment padding c.requires.above_zero h)
