use Rattle.std.proofs.Common.{arith, sym, ap, ◌∙◌}
use Rattle.std.specs.Option.{option_copied}
use Rattle.planus_back.proofs.Caches.{keys_in_last}
use Rattle.planus_back.proofs.cache.Cache.last_in.Goals as goal

pub find_key-requires : goal.find_key-requires
find_key-requires g c =
    let key_in = g.C.GetCacheKey.key_in in
    rw (← c.self.view_is, sym c.get.ensures.value ∙ ap option_copied c.in-Some.is) at
    (keys_in_last key_in c.args.self.now c.args.serialized.now c.args.bucket.number c.requires)

pub returns-in-Some : goal.returns-in-Some
returns-in-Some g c = rw (← c.self.view_is, sym c.get.ensures.value ∙ ap option_copied c.in-Some.is) c.find_key.ensures

pub returns-in-None : goal.returns-in-None
returns-in-None g c = rw (← c.self.view_is, sym c.get.ensures.value ∙ ap option_copied c.in-None.is) (λ i below. absurd (omega (arith, below)))
