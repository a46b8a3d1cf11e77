use Rattle.planus_syntax.proofs.Unique.{one_place}
use Rattle.planus_syntax.proofs.laws.one_place.Goals as goal

pub returns : goal.returns
returns c = one_place
