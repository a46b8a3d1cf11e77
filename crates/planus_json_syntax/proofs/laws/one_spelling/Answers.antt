use Rattle.planus_json_syntax.proofs.Exact.{only_these}
use Rattle.planus_json_syntax.proofs.SpelledValues.{spelled_read}
use Rattle.planus_json_syntax.proofs.laws.one_spelling.Goals as goal

pub returns : goal.returns
returns c bytes a b x y = only_these bytes a b (spelled_read bytes a x) y
