use Rattle.std.proofs.Common.{◌≡◌, ◌++◌, drop}
use Rattle.planus_conform.specs.Breaks.{part_breaks}
use Rattle.planus_conform.proofs.structs.add_parts.Given as goal

abbrev pub invariant-fields : goal.invariant-fields
invariant-fields l =
    l.breaks.items ++ part_breaks l.matches l.declaration l.fields (drop l.f-index l.before)
    ≡ l.fn.breaks.items ++ part_breaks l.matches l.declaration l.fields l.before
