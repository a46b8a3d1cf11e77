use Rattle.std.proofs.Common.{take, subst, sym, ap, ◌∙◌, ◌++◌}
use Rattle.std.proofs.lemmas.List.{take_more}
use Rattle.planus_cli.specs.Telling.{TellsBreaks}
use Rattle.planus_cli.proofs.Conformed.{breaks_push}
use Rattle.planus_cli.proofs.told.all_told.Goals as goal

pub breaks-preserved : goal.breaks-preserved
breaks-preserved c =
    let rs = c.args.renames.now in
    let old = c.args.old.now in
    let new = c.args.new.now in
    let some = take c.breaks.one-index c.args.breaks.now in
    subst (λ bs. TellsBreaks c.args.json rs old new bs c.extend_from_slice.new.self.items)
    (sym (take_more c.args.breaks.now c.breaks.one-index _ c.breaks-test.true))
    (breaks_push c.args.json rs old new some _ c.breaks.out.items c.in_ok-told.told.items c.extend_from_slice.new.self.items c.breaks.invariant
    c.in_ok-told.ensures (c.in_ok-extend_from_slice.ensures.items ∙ ap (λ xs. c.breaks.out.items ++ xs) c.deref.ensures.value))
