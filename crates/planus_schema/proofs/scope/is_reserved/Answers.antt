use Rattle.planus_schema.specs.Names.{reserved}
use Rattle.planus_schema.proofs.scope.is_reserved.Goals as goal

pub returns : goal.returns
unfolding reserved
returns c = c.is_one_of.ensures
