use Rattle.std.proofs.Common.{◌≡◌, drop}
use Rattle.planus_verify.specs.Schemas.{variant_in}
use Rattle.planus_verify.proofs.walk.variant_kind.Given as goal

abbrev pub invariant-loop-variant : goal.invariant-loop-variant
invariant-loop-variant l = variant_in (drop l.variant-index l.variants) l.union l.tag ≡ variant_in l.variants l.union l.tag
