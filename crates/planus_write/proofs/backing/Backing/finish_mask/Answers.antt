use Rattle.std.proofs.Common.{◌≡◌, ◌+◌, inl, inr, refl, arith, subst}
use Rattle.std.proofs.lemmas.Bool.{cases_lt}
use Rattle.planus_back.specs.Promises.{IsPowerOfTwo}
use Rattle.planus_write.proofs.backing.Backing.finish_mask.Goals as goal

pub returns-clause-power : goal.returns-clause-power
returns-clause-power c =
    let mask = c.mask.result in
    elim (cases_lt mask 3) as (λ _. IsPowerOfTwo (c.max.result + 1)) [
      | inl lt ↦ (let e : 4 ≡ c.max.result + 1 = omega (arith, lt, c.max.ensures) in subst IsPowerOfTwo e (2, refl))
      | inr ge ↦ (let e : mask + 1 ≡ c.max.result + 1 = omega (arith, ge, c.max.ensures) in subst IsPowerOfTwo e c.mask.ensures.power)
    ]
