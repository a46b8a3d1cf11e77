use Rattle.std.proofs.Common.{◌≡◌, ◌<◌, ◌∷◌, inl, inr, arith, subst}
use Rattle.std.proofs.lemmas.Bool.{cases_lt}
use Rattle.planus_back.specs.Promises.{Keep}
use Rattle.planus_back.specs.Padding.{promise_of}
use Rattle.planus_bench.specs.Pairs.{promises_of}
use Rattle.planus_bench.proofs.Periods.{kept_soon}
use Rattle.planus_bench.proofs.tests.plain_padding.can_stand.Goals as goal
use Rattle.planus_bench.proofs.tests.plain_padding.can_stand.Goals.{else-keeps_one-via-then-keeps_one+else-keeps, else-keeps_one-via-else-keeps_one}

pub loop-length-preserved : goal.loop-length-preserved
loop-length-preserved c = λ k from below h.
    elim (cases_lt k c.loop-length.length) as (λ _. ⊥) [
      | inl lt ↦ c.loop-length.invariant k from lt h
      | inr ge ↦
          let e : k ≡ c.loop-length.length = omega (arith, ge, below) in
          let here : Keep (promise_of c.args.place c.args.alignment ∷ promises_of c.args.promises.now) c.loop-length.length =
          subst (λ x. Keep (promise_of c.args.place c.args.alignment ∷ promises_of c.args.promises.now) x) e h in
          elim c.else-keeps_one.branch as (λ _. ⊥) [
            | else-keeps_one-via-then-keeps_one+else-keeps w ↦ (let t = w.keeps.ensures.1 here.1 in cc)
            | else-keeps_one-via-else-keeps_one w ↦ (let t = c.keeps_one.ensures.1 here.0 in cc)
          ]
    ]

pub returns : goal.returns
returns c = (
  λ t. absurd (cc),
  λ h. (let s = kept_soon c.args.place c.args.alignment c.args.promises.now c.requires.above_zero c.requires.positive c.requires.within h in
      let below : s.0 < c.loop-length.length = omega (arith, s.2, c.requires.all) in
      absurd (c.loop-length.invariant s.0 s.1 below s.3)),
)
