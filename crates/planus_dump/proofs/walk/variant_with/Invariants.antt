use Rattle.std.proofs.Common.{◌≡◌, drop}
use Rattle.planus_dump.specs.Events.{variant_of}
use Rattle.planus_dump.proofs.walk.variant_with.Given as goal

abbrev pub invariant-loop-variant : goal.invariant-loop-variant
invariant-loop-variant l = variant_of (drop l.variant-index l.variants) l.tag ≡ variant_of l.variants l.tag
