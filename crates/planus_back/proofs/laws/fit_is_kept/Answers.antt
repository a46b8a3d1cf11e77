use Rattle.planus_back.proofs.Caches.{Fits-front}
use Rattle.planus_back.proofs.laws.fit_is_kept.Goals as goal

pub returns : goal.returns
returns g c = Fits-front _
