use Rattle.std.proofs.Common.{◌≡◌, ◌≤◌, length, map, subst, take, arith}
use Rattle.std.proofs.lemmas.List.{take_all}
use Rattle.planus_dump.specs.Shapes.{HasShapes}
use Rattle.planus_inspect.specs.Shown.{table_shown, union_shown, enum_shown, struct_shown, Shows}
use Rattle.planus_inspect.proofs.Good.{sound_is_good}
use Rattle.planus_inspect.proofs.schemas.dump_schema.Goals as goal

pub returns-clause-good : goal.returns-clause-good
returns-clause-good c =
    let declared = c.args.schema.now.declarations.items in
    let all : length declared ≤ c.loop-declared.declared-index = subst (λ ds. length ds ≤ c.loop-declared.declared-index) c.deref-declared-items.ensures.value (omega arith) in
    let shows : Shows c.args.schema.now c.args.root c.loop-declared.shown = subst (λ ds. HasShapes c.loop-declared.shown (map table_shown ds) (map union_shown ds) (map enum_shown ds) (map struct_shown ds) c.args.root)
    (take_all c.loop-declared.declared-index declared all) c.loop-declared.invariant in
    λ sound table. sound_is_good c.args.schema.now c.args.root c.loop-declared.shown shows sound table
