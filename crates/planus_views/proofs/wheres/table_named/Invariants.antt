use Rattle.std.proofs.Common.{◌≡◌, drop}
use Rattle.planus_views.specs.Names.{table_named}
use Rattle.planus_views.proofs.wheres.table_named.Given as goal

abbrev pub invariant-loop-one : goal.invariant-loop-one
invariant-loop-one l = table_named (drop l.one-index l.tables) l.name
    ≡ table_named l.tables l.name
