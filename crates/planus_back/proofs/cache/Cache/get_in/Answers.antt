use Rattle.std.proofs.Common.{ap}
use Rattle.std.proofs.lemmas.List.{nil_from_length}
use Rattle.planus_back.specs.Buckets.{lists_of}
use Rattle.planus_back.proofs.Caches.{found_in_last, found_in_earlier, found_nowhere}
use Rattle.planus_back.proofs.cache.Cache.get_in.Goals as goal

pub returns-in-Some : goal.returns-in-Some
returns-in-Some g c =
    found_in_last g.C.GetCacheKey.key_in _ _ _ _ c.requires.bucket c.requires.fits _ _ c.in-Some.is c.last_in.ensures

pub returns-in-None : goal.returns-in-None
returns-in-None g c =
    found_nowhere g.C.GetCacheKey.key_in _ _ _ _ c.requires.bucket c.requires.fits _ c.in-None.is c.last_in.ensures
    (rw (← c.self.view_is) (ap lists_of (nil_from_length _ (c.is_empty.ensures.0 (search)))))

pub returns-in-None-2 : goal.returns-in-None-2
returns-in-None-2 g c =
    found_in_earlier g.C.GetCacheKey.key_in _ _ _ _ c.requires.bucket c.requires.fits _ _ c.in-None-2.is c.last_in.ensures c.earlier_in.ensures
