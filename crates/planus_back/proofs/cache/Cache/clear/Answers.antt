use Rattle.std.proofs.Common.{ap}
use Rattle.std.proofs.lemmas.List.{nil_from_length}
use Rattle.planus_back.specs.Buckets.{lists_of}
use Rattle.planus_back.proofs.Caches.{IsEmpty-nil}
use Rattle.planus_back.proofs.cache.Cache.clear.Goals as goal

pub returns-then-is_empty-2 : goal.returns-then-is_empty-2
returns-then-is_empty-2 g c =
    rw (← c.self.view_is) (IsEmpty-nil _ (nil_from_length _ (c.is_empty.ensures.0 (search))) (ap lists_of (nil_from_length _ (c.is_empty-then-is_empty.ensures.0 (search)))))
