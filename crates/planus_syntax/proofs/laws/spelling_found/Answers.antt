use Rattle.planus_syntax.proofs.Spelling.{spelling_found}
use Rattle.planus_syntax.proofs.laws.spelling_found.Goals as goal

pub returns : goal.returns
returns c = spelling_found
