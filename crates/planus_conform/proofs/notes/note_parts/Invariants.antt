use Rattle.std.proofs.Common.{◌≡◌, ◌++◌, drop}
use Rattle.planus_conform.specs.Notes.{part_notes}
use Rattle.planus_conform.proofs.notes.note_parts.Given as goal

abbrev pub invariant-fields : goal.invariant-fields
invariant-fields l =
    l.notes.items ++ part_notes l.matches l.declaration l.fields l.before (drop l.f-index l.before)
    ≡ l.fn.notes.items ++ part_notes l.matches l.declaration l.fields l.before l.before
