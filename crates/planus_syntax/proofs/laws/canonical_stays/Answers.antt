use Rattle.planus_syntax.proofs.Formatted.{canonical_stays}
use Rattle.planus_syntax.proofs.laws.canonical_stays.Goals as goal

pub returns : goal.returns
returns c = canonical_stays
