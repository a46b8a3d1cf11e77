use Rattle.planus_syntax.proofs.Spelling.{spelling_read}
use Rattle.planus_syntax.proofs.laws.spelling_read.Goals as goal

pub returns : goal.returns
returns c = spelling_read
