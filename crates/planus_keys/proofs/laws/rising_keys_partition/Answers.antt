use Rattle.planus_keys.proofs.Rising as rising
use Rattle.planus_keys.proofs.laws.rising_keys_partition.Goals as goal

pub returns : goal.returns
returns g c = rising.rising_keys_partition g.K.Ord.cmp g.met.K.Ord.total
