use Rattle.std.proofs.Common.{◌≡◌, length, map}
use Rattle.planus_syntax.specs.Values.{field_of}
use Rattle.planus_resolve.specs.Tables.{has_ids}
use Rattle.planus_resolve.proofs.slots.has_ids.Given as goal

abbrev pub invariant-fields : goal.invariant-fields
invariant-fields l = has_ids (map field_of l.rest) ≡ has_ids (map field_of l.fields)

abbrev pub decreases-fields : goal.decreases-fields
decreases-fields l = length l.rest
