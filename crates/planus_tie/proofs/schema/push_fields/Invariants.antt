use Rattle.std.proofs.Common.{◌≡◌, ◌++◌, drop}
use Rattle.planus_tie.specs.Shapes.{field_texts}
use Rattle.planus_tie.proofs.schema.push_fields.Given as goal

abbrev pub invariant-loop-line : goal.invariant-loop-line
invariant-loop-line l =
    l.out.items ++ field_texts l.declared l.ranks l.comma (drop l.line-index l.lines)
    ≡ l.fn.out.items ++ field_texts l.declared l.ranks l.comma l.lines
