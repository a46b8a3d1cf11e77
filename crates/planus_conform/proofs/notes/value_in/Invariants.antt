use Rattle.std.proofs.Common.{◌≡◌, drop}
use Rattle.planus_conform.specs.Notes.{value_in as value_in_lem}
use Rattle.planus_conform.proofs.notes.value_in.Given as goal

abbrev pub invariant-values : goal.invariant-values
invariant-values l = value_in_lem (drop l.value-index l.values) l.number ≡ value_in_lem l.values l.number
