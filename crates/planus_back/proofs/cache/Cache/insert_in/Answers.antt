use Rattle.std.proofs.Common.{refl}
use Rattle.planus_back.proofs.Caches.{insert_adds, insert_fits}
use Rattle.planus_back.proofs.cache.Cache.insert_in.Goals as goal

pub returns-clause-ok : goal.returns-clause-ok
returns-clause-ok g c = insert_adds _ _ _ _ _ c.add.result c.self.view_is c.add.ensures.ok

pub returns-clause-fits : goal.returns-clause-fits
returns-clause-fits g c = insert_fits g.C.GetCacheKey.key_in _ _ _ _ _ c.add.result c.self.view_is refl c.add.ensures.ok
