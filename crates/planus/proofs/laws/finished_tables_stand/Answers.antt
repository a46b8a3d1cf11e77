use Rattle.planus.proofs.FinishedTables.{finished_tables_stand}
use Rattle.planus.proofs.laws.finished_tables_stand.Goals as goal

pub returns : goal.returns
returns g c = finished_tables_stand
