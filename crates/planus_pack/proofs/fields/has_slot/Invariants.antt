use Rattle.std.proofs.Common.{◌≡◌, length, map}
use Rattle.planus.specs.Steps.{bare_field}
use Rattle.planus_pack.specs.Fields as spec
use Rattle.planus_pack.proofs.fields.has_slot.Given as goal

abbrev pub invariant-fields : goal.invariant-fields
invariant-fields l =
    spec.has_slot l.slot (map bare_field l.rest) ≡ spec.has_slot l.slot (map bare_field l.fields)

abbrev pub decreases-fields : goal.decreases-fields
decreases-fields l = length l.rest
