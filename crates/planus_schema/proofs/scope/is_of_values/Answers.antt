use Rattle.planus_schema.specs.Names.{words_of_values}
use Rattle.planus_schema.proofs.scope.is_of_values.Goals as goal

pub returns : goal.returns
unfolding words_of_values
returns c = c.is_one_of.ensures
