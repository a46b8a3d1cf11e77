use Rattle.std.proofs.Common.{◌≡◌, drop}
use Rattle.std.specs.List.{list_all}
use Rattle.planus_dump.specs.Schemas.{struct_field_fits}
use Rattle.planus_dump.proofs.validate.struct_fits_in.Given as goal

abbrev pub invariant-loop-field : goal.invariant-loop-field
invariant-loop-field l = list_all (struct_field_fits l.enums l.structs) (drop l.field-index l.shape.fields.items) ≡ list_all (struct_field_fits l.enums l.structs) l.shape.fields.items
