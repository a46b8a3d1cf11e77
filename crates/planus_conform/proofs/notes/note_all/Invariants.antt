use Rattle.std.proofs.Common.{◌≡◌, ◌++◌, drop}
use Rattle.planus_conform.specs.Notes.{notes_from}
use Rattle.planus_conform.proofs.notes.note_all.Given as goal

abbrev pub invariant-declared : goal.invariant-declared
invariant-declared l = record {
  index : l.index ≡ l.one-index;
  notes : l.notes.items ++ notes_from l.way l.matches l.new l.index (drop l.one-index l.old)
      ≡ l.fn.notes.items ++ notes_from l.way l.matches l.new 0 l.old;
}
