use Rattle.std.proofs.Common.{◌≡◌, drop}
use Rattle.planus_conform.specs.Reads.{part_in as part_in_lem}
use Rattle.planus_conform.proofs.structs.part_in.Given as goal

abbrev pub invariant-fields : goal.invariant-fields
invariant-fields l = part_in_lem (drop l.field-index l.fields) l.distance ≡ part_in_lem l.fields l.distance
