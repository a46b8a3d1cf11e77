use Rattle.std.proofs.Common.{◌++◌, ◌+◌, drop, sym, ap, ◌∙◌, append_assoc, arith}
use Rattle.planus_conform.specs.Notes.{notes_from}
use Rattle.planus_conform.proofs.Parts.{drop_next}
use Rattle.planus_conform.proofs.notes.note_all.Goals as goal

pub declared-preserved : goal.declared-preserved
declared-preserved c =
    let i = c.declared.invariant in
    let old = c.args.old.now in
    let new = c.args.new.now in
    let m = c.args.matches.now in
    let n = c.declared.one-index in
    let h = c.one-item.result in
    let bs = c.declared.notes.items in
    record {
      index = omega (arith, i.index);
      notes = ap (λ xs. xs ++ notes_from c.args.way m new (c.declared.index + 1) (drop (n + 1) old)) c.in_ok-note_declared.ensures
          ∙ append_assoc bs _ _
          ∙ ap (λ ds. bs ++ notes_from c.args.way m new c.declared.index ds) (sym (drop_next old n h c.declared-test.true c.one-item.is))
          ∙ i.notes;
    }
