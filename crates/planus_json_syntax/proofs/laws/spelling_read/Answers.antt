use Rattle.planus_json_syntax.proofs.SpelledValues.{spelled_read}
use Rattle.planus_json_syntax.proofs.laws.spelling_read.Goals as goal

pub returns : goal.returns
returns c = spelled_read
