use Rattle.std.proofs.Common.{◌≡◌, ◌++◌, drop}
use Rattle.planus_conform.specs.Notes.{value_notes}
use Rattle.planus_conform.proofs.notes.note_values.Given as goal

abbrev pub invariant-values : goal.invariant-values
invariant-values l =
    l.notes.items ++ value_notes l.met l.declaration l.values l.before (drop l.v-index l.before)
    ≡ l.fn.notes.items ++ value_notes l.met l.declaration l.values l.before l.before
