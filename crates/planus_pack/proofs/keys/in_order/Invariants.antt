use Rattle.std.proofs.Common.{◌≡◌, [], length, map}
use Rattle.planus.specs.Steps.{bare_step}
use Rattle.planus_pack.specs.Keys as spec
use Rattle.planus_pack.proofs.keys.in_order.Given as goal

abbrev pub invariant-numbers : goal.invariant-numbers
invariant-numbers l =
    spec.in_order l.declared (map bare_step l.steps) l.field (map spec.keyed_view l.set.keys) l.rest
    ≡ spec.in_order l.declared (map bare_step l.steps) l.field [] l.numbers

abbrev pub decreases-numbers : goal.decreases-numbers
decreases-numbers l = length l.rest
