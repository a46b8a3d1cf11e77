use Rattle.std.proofs.Common.{◌≡◌, ◌≤◌, ◌++◌, drop}
use Rattle.planus_tie.specs.Ranks.{ranks_from, ranks_of}
use Rattle.planus_tie.proofs.ranks.ranks_of.Given as goal

abbrev pub invariant-declared : goal.invariant-declared
invariant-declared l = record {
  tables : l.tables ≤ l.one-index;
  unions : l.unions ≤ l.one-index;
  rest : l.ranks.items ++ ranks_from l.tables l.unions (drop l.one-index l.declared)
      ≡ ranks_of l.declared;
}
