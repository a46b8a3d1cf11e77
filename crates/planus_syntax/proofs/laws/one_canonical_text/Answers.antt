use Rattle.planus_syntax.proofs.Formatted.{one_canonical_text}
use Rattle.planus_syntax.proofs.laws.one_canonical_text.Goals as goal

pub returns : goal.returns
returns c = one_canonical_text
