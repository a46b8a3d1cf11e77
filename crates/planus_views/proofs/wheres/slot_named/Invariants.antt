use Rattle.std.proofs.Common.{◌≡◌, drop}
use Rattle.planus_views.specs.Names.{slot_named}
use Rattle.planus_views.proofs.wheres.slot_named.Given as goal

abbrev pub invariant-loop-one : goal.invariant-loop-one
invariant-loop-one l = slot_named (drop l.one-index l.fields) l.table l.name
    ≡ slot_named l.fields l.table l.name
