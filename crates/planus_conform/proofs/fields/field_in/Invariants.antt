use Rattle.std.proofs.Common.{◌≡◌, drop}
use Rattle.planus_conform.specs.Reads.{field_in as field_in_lem}
use Rattle.planus_conform.proofs.fields.field_in.Given as goal

abbrev pub invariant-fields : goal.invariant-fields
invariant-fields l = field_in_lem (drop l.field-index l.fields) l.slot ≡ field_in_lem l.fields l.slot
