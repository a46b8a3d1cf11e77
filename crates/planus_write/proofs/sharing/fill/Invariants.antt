use Rattle.planus_back.specs.Caches.{Fits}
use Rattle.planus_write.proofs.HeldContents.{HasFirst}
use Rattle.planus_write.proofs.sharing.fill.Given as goal

abbrev pub invariant-loop-at : goal.invariant-loop-at
invariant-loop-at g l = record {
  fits : Fits g.C.GetCacheKey.key_in l.cache l.serialized;
  holds : HasFirst l.cache l.first l.at-index;
}
