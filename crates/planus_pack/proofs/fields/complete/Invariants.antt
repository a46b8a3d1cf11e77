use Rattle.std.proofs.Common.{◌≡◌, length, map}
use Rattle.planus.specs.Steps.{bare_field}
use Rattle.planus_pack.specs.Fields as spec
use Rattle.planus_pack.proofs.fields.complete.Given as goal

abbrev pub invariant-fields : goal.invariant-fields
invariant-fields l =
    spec.complete l.at (map bare_field l.given) l.rest
    ≡ spec.complete l.at (map bare_field l.given) l.fields

abbrev pub decreases-fields : goal.decreases-fields
decreases-fields l = length l.rest
