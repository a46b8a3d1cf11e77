use Rattle.std.proofs.Common.{refl, ◌∙◌}
use Rattle.planus_syntax.specs.Reading.{comma_at}
use Rattle.planus_syntax.proofs.Steps.{reads_on, first_way, other_way}
use Rattle.planus_syntax.proofs.parse.enums.comma_at.Goals as goal

pub returns-in-Some : goal.returns-in-Some
unfolding comma_at
returns-in-Some c = first_way _ _ _ c.in-Some.ensures.0 ∙ reads_on _ _ _ _ c.in-Some.ensures.1 refl

pub returns-in-None : goal.returns-in-None
unfolding comma_at
returns-in-None c = other_way _ _ _ c.in-None.ensures
