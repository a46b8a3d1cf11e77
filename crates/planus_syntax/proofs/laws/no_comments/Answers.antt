use Rattle.planus_syntax.proofs.Woven as woven
use Rattle.planus_syntax.proofs.laws.no_comments.Goals as goal

pub returns : goal.returns
returns c = λ parts e. woven.no_comments parts e
