use Rattle.planus.proofs.ReadBack.{kept_tables_stand}
use Rattle.planus.proofs.laws.kept_tables_stand.Goals as goal

pub returns : goal.returns
returns c = kept_tables_stand
