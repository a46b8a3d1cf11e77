use Rattle.std.proofs.Common.{refl, ◌∙◌}
use Rattle.planus_syntax.specs.Reading.{namespace_at}
use Rattle.planus_syntax.proofs.Steps.{fails_here, reads_on, first_way, other_way, fails_other}
use Rattle.planus_syntax.proofs.parse.statements.namespace_at.Goals as goal

pub returns-in-Some : goal.returns-in-Some
unfolding namespace_at
returns-in-Some c = (
  reads_on _ _ _ _ (first_way _ _ _ c.in-Some.ensures.0 ∙ reads_on _ _ _ _ c.in-Some.ensures.1 refl) refl,
  tt,
)

pub returns-in-Err : goal.returns-in-Err
unfolding namespace_at
returns-in-Err c = fails_here _ _ _ (fails_other _ _ _ _ c.in-None.ensures (fails_here _ _ _ c.in-Err.ensures))

pub returns-in-Ok : goal.returns-in-Ok
unfolding namespace_at
returns-in-Ok c = (
  reads_on _ _ _ _ (other_way _ _ _ c.in-None.ensures ∙ reads_on _ _ _ _ c.in-Ok.ensures.0 refl) refl,
  c.in-Ok.ensures.1,
)
