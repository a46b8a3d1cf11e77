use Rattle.std.proofs.Common.{◌≡◌, ◌++◌, drop}
use Rattle.planus_conform.specs.Breaks.{added_values}
use Rattle.planus_conform.proofs.enums.add_added_values.Given as goal

abbrev pub invariant-values : goal.invariant-values
invariant-values l =
    l.breaks.items ++ added_values l.met l.declaration l.before (drop l.u-index l.values)
    ≡ l.fn.breaks.items ++ added_values l.met l.declaration l.before l.values
