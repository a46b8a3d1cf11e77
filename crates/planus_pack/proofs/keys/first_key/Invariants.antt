use Rattle.std.proofs.Common.{◌≡◌, length}
use Rattle.planus_pack.specs.Keys as spec
use Rattle.planus_pack.proofs.keys.first_key.Given as goal

abbrev pub invariant-fields : goal.invariant-fields
invariant-fields l = spec.first_key l.rest ≡ spec.first_key l.fields

abbrev pub decreases-fields : goal.decreases-fields
decreases-fields l = length l.rest
