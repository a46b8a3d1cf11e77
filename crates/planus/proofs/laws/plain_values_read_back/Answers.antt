use Rattle.planus.proofs.ReadPlain.{results_read_back}
use Rattle.planus.proofs.laws.plain_values_read_back.Goals as goal

pub returns : goal.returns
returns g c = results_read_back g.T.Plain
