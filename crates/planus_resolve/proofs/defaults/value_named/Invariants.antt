use Rattle.std.proofs.Common.{◌≡◌, length, map}
use Rattle.std.specs.Prelude.{None}
use Rattle.planus_syntax.specs.Values.{variant_of}
use Rattle.planus_resolve.specs.Defaults.{value_named}
use Rattle.planus_resolve.proofs.defaults.value_named.Given as goal

abbrev pub invariant-variants : goal.invariant-variants
invariant-variants l =
    value_named l.name l.flags l.previous (map variant_of l.rest)
    ≡ value_named l.name l.flags None (map variant_of l.variants)

abbrev pub decreases-variants : goal.decreases-variants
decreases-variants l = length l.rest
