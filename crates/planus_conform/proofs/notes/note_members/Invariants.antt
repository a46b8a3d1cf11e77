use Rattle.std.proofs.Common.{◌≡◌, ◌++◌, drop}
use Rattle.planus_conform.specs.Notes.{member_notes}
use Rattle.planus_conform.proofs.notes.note_members.Given as goal

abbrev pub invariant-members : goal.invariant-members
invariant-members l =
    l.notes.items ++ member_notes l.met l.matches l.declaration l.members l.before (drop l.a-index l.before)
    ≡ l.fn.notes.items ++ member_notes l.met l.matches l.declaration l.members l.before l.before
