use Rattle.std.proofs.Common.{rules, arith}
use Rattle.std.proofs.lemmas.Grind.{common_steps}
use Rattle.std.proofs.lemmas.List.Sorted.{answers_always}
use Rattle.planus_resolve.specs.Faults.{place_of}
use Rattle.planus_resolve.proofs.meaning.refuse.Goals as goal

pub returns-clause-told : goal.returns-clause-told
returns-clause-told c = (
  record {
    same = c.in-Ok.ensures.permutation;
    sorted = c.in-Ok.ensures.sorted place_of (answers_always _ _ _ (λ f a r g h. search rules));
    stable = c.in-Ok.ensures.stable place_of (answers_always _ _ _ (λ f a r g h. search rules));
  },
  record {
    some = grind (arith, common_steps, c.in-Ok.ensures.len, c.args.faults.ok.0);
    most = omega (arith, c.in-Ok.ensures.len);
  },
)
