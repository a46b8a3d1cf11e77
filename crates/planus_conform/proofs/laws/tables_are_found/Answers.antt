use Rattle.planus_conform.proofs.AsRead.{tables_are_found}
use Rattle.planus_conform.proofs.laws.tables_are_found.Goals as goal

pub returns : goal.returns
returns c = tables_are_found c.readings_are_said.ensures.values
