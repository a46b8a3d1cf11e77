use Rattle.std.proofs.Common.{◌≡◌, ◌++◌, drop}
use Rattle.planus_tie.specs.NameLists.{tables_from}
use Rattle.planus_tie.proofs.name_lists.tables_of.Given as goal

abbrev pub invariant-declared : goal.invariant-declared
invariant-declared l = record {
  index : l.index ≡ l.one-index;
  rest : l.tables.items ++ tables_from l.index (drop l.one-index l.declared)
      ≡ tables_from 0 l.declared;
}
