use Rattle.std.proofs.Common.{◌≡◌, ◌++◌, drop}
use Rattle.planus_tie.specs.NameLists.{field_name_texts}
use Rattle.planus_tie.proofs.name_lists.push_field_names.Given as goal

abbrev pub invariant-loop-line : goal.invariant-loop-line
invariant-loop-line l = l.out.items ++ field_name_texts l.ranks l.comma (drop l.line-index l.lines)
    ≡ l.fn.out.items ++ field_name_texts l.ranks l.comma l.lines
