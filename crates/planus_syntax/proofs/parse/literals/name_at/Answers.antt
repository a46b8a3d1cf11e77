use Rattle.std.proofs.Common.{refl}
use Rattle.planus_syntax.specs.Reading.{name_at}
use Rattle.planus_syntax.proofs.Steps.{fails_here, reads_on}
use Rattle.planus_syntax.proofs.parse.literals.name_at.Goals as goal

pub returns-in-Err : goal.returns-in-Err
unfolding name_at
returns-in-Err c = fails_here _ _ _ c.in-Err.ensures

pub returns : goal.returns
unfolding name_at
returns c = (
  reads_on _ _ _ _ c.in-Ok.ensures.0 refl,
  c.in-Ok.ensures.1,
)
