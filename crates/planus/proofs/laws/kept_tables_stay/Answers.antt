use Rattle.planus.proofs.FinishedTables.{tables_stay}
use Rattle.planus.proofs.laws.kept_tables_stay.Goals as goal

pub returns : goal.returns
returns c = tables_stay
