use Rattle.std.proofs.Common.{◌≡◌, ◌++◌, drop}
use Rattle.planus_conform.specs.Breaks.{field_breaks}
use Rattle.planus_conform.proofs.fields.add_fields.Given as goal

abbrev pub invariant-fields : goal.invariant-fields
invariant-fields l =
    l.breaks.items ++ field_breaks l.way l.matches l.declaration l.fields (drop l.f-index l.before)
    ≡ l.fn.breaks.items ++ field_breaks l.way l.matches l.declaration l.fields l.before
