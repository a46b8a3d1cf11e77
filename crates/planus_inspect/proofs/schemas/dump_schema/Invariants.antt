use Rattle.std.proofs.Common.{map, take}
use Rattle.planus_dump.specs.Shapes.{HasShapes}
use Rattle.planus_inspect.specs.Shown.{table_shown, union_shown, enum_shown, struct_shown}
use Rattle.planus_inspect.proofs.schemas.dump_schema.Given as goal

abbrev pub invariant-loop-declared : goal.invariant-loop-declared
invariant-loop-declared l =
    let declared = take l.declared-index l.schema.declarations.items in
    HasShapes l.shown (map table_shown declared) (map union_shown declared) (map enum_shown declared) (map struct_shown declared) l.root
