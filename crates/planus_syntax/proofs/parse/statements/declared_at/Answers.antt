use Rattle.std.proofs.Common.{subst}
use Rattle.planus_syntax.specs.Counting.{LabelCounted}
use Rattle.planus_syntax.proofs.Loops.{mark_takes}
use Rattle.std.proofs.Common.{refl}
use Rattle.planus_syntax.specs.Reading.{declared_at}
use Rattle.planus_syntax.proofs.Steps.{fails_here, fails_later, reads_on}
use Rattle.planus_syntax.proofs.parse.statements.declared_at.Goals as goal

pub returns-in-Err : goal.returns-in-Err
unfolding declared_at
returns-in-Err c = fails_here _ _ _ (fails_here _ _ _ c.in-Err.ensures)

pub returns-in-Err-mark_at : goal.returns-in-Err-mark_at
unfolding declared_at
returns-in-Err-mark_at c = fails_here _ _ _ (fails_later _ _ _ _ c.in-Ok.ensures.0 (fails_here _ _ _ c.in-Err-mark_at.ensures))

pub returns : goal.returns
unfolding declared_at
returns c = (
  reads_on _ _ _ _ (reads_on _ _ _ _ c.in-Ok.ensures.0 (reads_on _ _ _ _ c.in-Ok-mark_at.ensures refl)) refl,
  subst (LabelCounted c.in-Ok.value.0) (mark_takes 59 _ _ c.in-Ok-mark_at.ensures) c.in-Ok.ensures.1,
)
