use Rattle.planus_keys.proofs.Rising as rising
use Rattle.planus_keys.proofs.laws.sorted_keys_rise.Goals as goal

pub returns : goal.returns
returns g c = rising.sorted_keys_rise g.K.Ord.cmp g.met.K.Ord.total g.row.X.Denot
