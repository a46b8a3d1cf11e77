use Rattle.std.proofs.Common.{◌≡◌, length}
use Rattle.planus_pack.specs.Lookup as spec
use Rattle.planus_pack.proofs.lookup.is_struct_field.Given as goal

abbrev pub invariant-fields : goal.invariant-fields
invariant-fields l = spec.is_struct_field l.key l.rest ≡ spec.is_struct_field l.key l.fields

abbrev pub decreases-fields : goal.decreases-fields
decreases-fields l = length l.rest
