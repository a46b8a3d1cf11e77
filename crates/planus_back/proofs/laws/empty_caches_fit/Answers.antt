use Rattle.planus_back.proofs.Caches.{Fits-empty}
use Rattle.planus_back.proofs.laws.empty_caches_fit.Goals as goal

pub returns : goal.returns
returns g c = Fits-empty _
