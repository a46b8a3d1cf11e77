use Rattle.planus_syntax.proofs.Again.{schema_again}
use Rattle.planus_syntax.proofs.laws.declarations_again.Goals as goal

pub returns : goal.returns
returns c = schema_again
