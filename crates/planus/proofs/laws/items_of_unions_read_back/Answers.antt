use Rattle.planus.proofs.UnionsBack.{items_read_back}
use Rattle.planus.proofs.laws.items_of_unions_read_back.Goals as goal

pub returns : goal.returns
returns g c = items_read_back
