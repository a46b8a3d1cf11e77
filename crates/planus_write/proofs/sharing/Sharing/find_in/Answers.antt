use Rattle.std.proofs.Common.{◌≡◌, ℕ, Bool, true, false, cond, List, Option, Some, None}
use Rattle.planus_back.specs.Buckets.{AreKeys}
use Rattle.planus_back.specs.Caches.{CacheView}
use Rattle.planus_back.specs.declared.bucket.Bucket.{Bucket}
use Rattle.planus_write.specs.Holding.{few, many, FindContents, HoldingFits}
use Rattle.planus_write.specs.inner.Sharing.{LooksIn}
use Rattle.planus_write.proofs.sharing.Sharing.find_in.Goals as goal

keys_of_few : (contents_in : FindContents) (is_many : Bool) (cache : CacheView) (first contents bytes : List ℕ) (bucket : Option Bucket) → bucket ≡ None
    → LooksIn (cond is_many (many cache) (few first)) contents bucket → HoldingFits contents_in (cond is_many (many cache) (few first)) bytes → AreKeys contents_in first bytes
keys_of_few contents_in true cache first contents bytes None is looks fits = absurd looks
keys_of_few contents_in true cache first contents bytes (Some bucket) is looks fits = cc
keys_of_few contents_in false cache first contents bytes bucket is looks fits = fits

pub find_key-requires : goal.find_key-requires
find_key-requires g c =
    let a = c.self.inside in let contents = g.B.Byte.bytes_of c.args.contents.now in
    rw (c.as_slice.ensures)
    (keys_of_few g.C.GetCacheKey.key_in a.is_many a.cache a.first contents c.args.serialized.now c.args.bucket c.in-None.is
    (rw (← c.self.view_is) at c.requires.bucket) (rw (← c.self.view_is) at c.requires.fits))
