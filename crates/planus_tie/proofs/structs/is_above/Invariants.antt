use Rattle.std.proofs.Common.{◌≡◌, length}
use Rattle.planus_tie.specs.Structs.{is_above}
use Rattle.planus_tie.proofs.structs.is_above.Given as goal

abbrev pub invariant-fields : goal.invariant-fields
invariant-fields l = is_above l.left l.rest ≡ is_above l.room l.fields

abbrev pub decreases-fields : goal.decreases-fields
decreases-fields l = length l.rest
