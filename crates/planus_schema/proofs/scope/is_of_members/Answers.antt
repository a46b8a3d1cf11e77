use Rattle.planus_schema.specs.Names.{words_of_members}
use Rattle.planus_schema.proofs.scope.is_of_members.Goals as goal

pub returns : goal.returns
unfolding words_of_members
returns c = c.is_one_of.ensures
