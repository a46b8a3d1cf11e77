use Rattle.std.proofs.Common.{◌≡◌, map, take}
use Rattle.planus_dump.specs.Shapes.{field_shape}
use Rattle.planus_inspect.specs.Shown.{field_shown}
use Rattle.planus_inspect.proofs.tables.field_schemas.Given as goal

abbrev pub invariant-loop-field : goal.invariant-loop-field
invariant-loop-field l = map field_shape l.shown.items ≡ map field_shown (take l.field-index l.fields)
