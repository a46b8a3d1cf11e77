use Rattle.std.proofs.Common.{ℕ, ◌<◌, get_or, Some}
use mathlib.Core.Logic.{◌≢◌}
use Rattle.planus_back.specs.CacheKeys.{key_at}
use Rattle.planus_back.proofs.cache.find_key.Given as goal

abbrev pub invariant-loop-distance : goal.invariant-loop-distance
invariant-loop-distance g l =
    (k : ℕ) → k < l.distance-index → key_at g.C.GetCacheKey.key_in l.serialized (get_or l.distances k 0) ≢ Some (g.T.Byte.bytes_of l.key)
