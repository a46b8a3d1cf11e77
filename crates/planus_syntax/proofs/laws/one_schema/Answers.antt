use Rattle.planus_syntax.proofs.Composed.{one_schema}
use Rattle.planus_syntax.proofs.laws.one_schema.Goals as goal

pub returns : goal.returns
returns c = one_schema
