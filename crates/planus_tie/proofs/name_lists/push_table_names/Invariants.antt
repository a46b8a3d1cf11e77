use Rattle.std.proofs.Common.{◌≡◌, ◌++◌, drop}
use Rattle.planus_tie.specs.NameLists.{table_name_texts}
use Rattle.planus_tie.proofs.name_lists.push_table_names.Given as goal

abbrev pub invariant-loop-index : goal.invariant-loop-index
invariant-loop-index l =
    l.out.items ++ table_name_texts l.naming l.ranks l.comma (drop l.index-index l.tables)
    ≡ l.fn.out.items ++ table_name_texts l.naming l.ranks l.comma l.tables
