use Rattle.planus_syntax.proofs.Laid.{layout_spells}
use Rattle.planus_syntax.proofs.laws.layout_spells.Goals as goal

pub returns : goal.returns
returns c = layout_spells
