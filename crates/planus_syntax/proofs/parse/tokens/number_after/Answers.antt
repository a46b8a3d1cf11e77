use Rattle.std.proofs.Common.{refl, ◌∙◌}
use Rattle.planus_syntax.specs.Reading.{optional_at}
use Rattle.planus_syntax.proofs.Steps.{fails_here, fails_later, reads_on, first_way, other_way, fails_first}
use Rattle.planus_syntax.proofs.parse.tokens.number_after.Goals as goal

pub returns-in-Err : goal.returns-in-Err
unfolding optional_at
returns-in-Err c = fails_first _ _ _ _ c.in-Some.ensures.0 (fails_later _ _ _ _ c.in-Some.ensures.1 (fails_here _ _ _ c.in-Err.ensures))

pub returns-in-Ok : goal.returns-in-Ok
unfolding optional_at
returns-in-Ok c = first_way _ _ _ c.in-Some.ensures.0 ∙ reads_on _ _ _ _ c.in-Some.ensures.1 (reads_on _ _ _ _ c.in-Ok.ensures refl)

pub returns-in-None : goal.returns-in-None
unfolding optional_at
returns-in-None c = other_way _ _ _ c.in-None.ensures
