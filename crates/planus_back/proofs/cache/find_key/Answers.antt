use Rattle.std.proofs.Common.{Some, refl, ap, ◌∙◌}
use Rattle.planus_back.proofs.cache.find_key.Goals as goal

pub returns-then-are : goal.returns-then-are
returns-then-are g c =
    let here = c.are.ensures.0 (search) in (
      (c.loop-distance.distance-index, c.loop-distance-test.true, refl),
      c.key_there.ensures ∙ ap Some here,
    )
