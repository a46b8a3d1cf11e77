use Rattle.std.proofs.Common.{◌≡◌, map, take}
use Rattle.planus_dump.specs.Shapes.{struct_field_shape}
use Rattle.planus_inspect.specs.Shown.{field_in_struct}
use Rattle.planus_inspect.proofs.structs.field_schemas.Given as goal

abbrev pub invariant-loop-field : goal.invariant-loop-field
invariant-loop-field l = map struct_field_shape l.shown.items ≡ map field_in_struct (take l.field-index l.fields)
