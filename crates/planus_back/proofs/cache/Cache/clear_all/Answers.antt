use Rattle.std.proofs.Common.{ap}
use Rattle.planus_back.specs.Buckets.{lists_of}
use Rattle.planus_back.proofs.Caches.{IsEmpty-nil}
use Rattle.planus_back.proofs.cache.Cache.clear_all.Goals as goal

pub returns-else-len-capacity : goal.returns-else-len-capacity
returns-else-len-capacity g c = IsEmpty-nil _ c.clear.ensures.empty (ap lists_of c.with_hasher.ensures.empty)

pub returns-then-len-capacity : goal.returns-then-len-capacity
returns-then-len-capacity g c = IsEmpty-nil _ c.with_hasher-then-len-capacity.ensures.empty (ap lists_of c.with_hasher.ensures.empty)
