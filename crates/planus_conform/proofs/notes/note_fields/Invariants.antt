use Rattle.std.proofs.Common.{◌≡◌, ◌++◌, drop}
use Rattle.planus_conform.specs.Notes.{field_notes}
use Rattle.planus_conform.proofs.notes.note_fields.Given as goal

abbrev pub invariant-fields : goal.invariant-fields
invariant-fields l =
    l.notes.items ++ field_notes l.way l.matches l.declaration l.fields l.before (drop l.f-index l.before)
    ≡ l.fn.notes.items ++ field_notes l.way l.matches l.declaration l.fields l.before l.before
