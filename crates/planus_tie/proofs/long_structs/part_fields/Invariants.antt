use Rattle.std.proofs.Common.{◌≡◌, ◌++◌, length}
use Rattle.planus_tie.specs.LongStructs.{part_fields}
use Rattle.planus_tie.proofs.long_structs.part_fields.Given as goal

abbrev pub invariant-fields : goal.invariant-fields
invariant-fields l = l.part.items ++ part_fields l.start l.size l.rest
    ≡ part_fields l.start l.size l.fields

abbrev pub decreases-fields : goal.decreases-fields
decreases-fields l = length l.rest
