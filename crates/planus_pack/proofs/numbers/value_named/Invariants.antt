use Rattle.std.proofs.Common.{◌≡◌, length}
use Rattle.planus_pack.specs.Numbers as spec
use Rattle.planus_pack.proofs.numbers.value_named.Given as goal

abbrev pub invariant-values : goal.invariant-values
invariant-values l = spec.value_named l.name l.rest ≡ spec.value_named l.name l.values

abbrev pub decreases-values : goal.decreases-values
decreases-values l = length l.rest
