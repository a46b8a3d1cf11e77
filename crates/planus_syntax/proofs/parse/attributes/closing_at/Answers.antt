use Rattle.std.proofs.Common.{refl}
use Rattle.planus_syntax.specs.Reading.{closing_at}
use Rattle.planus_syntax.proofs.Steps.{fails_here, fails_later, reads_on}
use Rattle.planus_syntax.proofs.parse.attributes.closing_at.Goals as goal

pub returns-in-Err : goal.returns-in-Err
unfolding closing_at
returns-in-Err c = fails_here _ _ _ c.in-Err.ensures

pub returns-in-Err-mark_at : goal.returns-in-Err-mark_at
unfolding closing_at
returns-in-Err-mark_at c = fails_later _ _ _ _ c.in-Ok.ensures (fails_here _ _ _ c.in-Err-mark_at.ensures)

pub returns : goal.returns
unfolding closing_at
returns c = reads_on _ _ _ _ c.in-Ok.ensures (reads_on _ _ _ _ c.in-Ok-mark_at.ensures refl)
