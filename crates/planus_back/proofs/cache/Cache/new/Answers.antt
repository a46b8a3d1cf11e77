use Rattle.std.proofs.Common.{ap}
use Rattle.planus_back.specs.Buckets.{lists_of}
use Rattle.planus_back.proofs.Caches.{IsEmpty-nil}
use Rattle.planus_back.proofs.cache.Cache.new.Goals as goal

pub returns : goal.returns
returns g c = IsEmpty-nil _ c.with_hasher.ensures.empty (ap lists_of c.with_hasher-2.ensures.empty)
