use Rattle.std.proofs.Common.{◌≡◌, drop}
use Rattle.planus_views.specs.Names.{field_named}
use Rattle.planus_views.proofs.trail_texts.field_named.Given as goal

abbrev pub invariant-loop-one : goal.invariant-loop-one
invariant-loop-one l = field_named (drop l.one-index l.fields) l.table l.slot
    ≡ field_named l.fields l.table l.slot
