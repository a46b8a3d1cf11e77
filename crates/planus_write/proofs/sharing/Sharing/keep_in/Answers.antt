use Rattle.planus_write.proofs.HeldContents.{kept_in_cache, kept_first, first_fit}
use Rattle.planus_write.proofs.sharing.Sharing.keep_in.Goals as goal

pub returns-in-Some-clause-ok : goal.returns-in-Some-clause-ok
returns-in-Some-clause-ok g c =
    rw (← c.self.view_is)
    (kept_in_cache g.C.GetCacheKey.key_in c.args.serialized.now _ c.args.distance c.self.inside.cache c.self.inside.first c.self.inside.is_many c.in-Some.bucket c.insert_in.new.self c.insert_in.result
    (rw (c.in-Some.is, ← c.self.view_is) at c.requires.bucket) (rw (← c.self.view_is) at c.requires.fits) c.insert_in.ensures.ok c.insert_in.ensures.fits)

pub returns-then-push-clause-ok : goal.returns-then-push-clause-ok
returns-then-push-clause-ok g c =
    rw (← c.self.view_is)
    (kept_first g.C.GetCacheKey.key_in c.args.serialized.now _ c.args.distance c.self.inside.cache c.self.inside.first c.self.inside.is_many c.push.new.self
    (rw (c.in_default.is, ← c.self.view_is) at c.requires.bucket) (rw (← c.self.view_is) at c.requires.fits) (c.push.ensures.pushed c.if-push.true))

pub spill-requires-clause-fits : goal.spill-requires-clause-fits
spill-requires-clause-fits g c =
    rw (c.as_slice.ensures, c.push.ensures.full c.if-push.false)
    (first_fit g.C.GetCacheKey.key_in c.args.serialized.now _ c.args.distance c.self.inside.cache c.self.inside.first c.self.inside.is_many
    (rw (c.in_default.is, ← c.self.view_is) at c.requires.bucket) (rw (← c.self.view_is) at c.requires.fits))
