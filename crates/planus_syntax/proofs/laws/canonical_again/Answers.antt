use Rattle.planus_syntax.proofs.Woven as woven
use Rattle.planus_syntax.proofs.laws.canonical_again.Goals as goal

pub returns : goal.returns
returns c = λ parts a. woven.canonical_again parts a
