use Rattle.planus.proofs.FinishedTables.{sized_finished_tables_stand}
use Rattle.planus.proofs.laws.sized_finished_tables_stand.Goals as goal

pub returns : goal.returns
returns g c = sized_finished_tables_stand
