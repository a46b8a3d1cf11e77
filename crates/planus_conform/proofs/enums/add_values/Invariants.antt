use Rattle.std.proofs.Common.{◌≡◌, ◌++◌, drop}
use Rattle.planus_conform.specs.Breaks.{value_breaks}
use Rattle.planus_conform.proofs.enums.add_values.Given as goal

abbrev pub invariant-values : goal.invariant-values
invariant-values l =
    l.breaks.items ++ value_breaks l.met l.declaration l.values (drop l.v-index l.before)
    ≡ l.fn.breaks.items ++ value_breaks l.met l.declaration l.values l.before
