use Rattle.std.proofs.Common.{[], ◌++◌, refl, subst, ap, ◌∙◌}
use Rattle.std.specs.Prelude.{IfOk}
use Rattle.std.proofs.lemmas.List.{append-nil}
use Rattle.planus.specs.Contents.{WritesContents}
use Rattle.planus.specs.Preparing.{WritesInTurn}
use Rattle.planus.proofs.FieldSteps.{if_ok}
use Rattle.planus.proofs.tables.write.create.create_table.Goals as goal

pub returns-clause-in_turn : goal.returns-clause-in_turn
unfolding WritesInTurn
returns-clause-in_turn g c = c.write.ensures.written [] [] refl refl

pub returns-clause-kept : goal.returns-clause-kept
returns-clause-kept g c =
    let some = g.F.Fields.contents c.args.fields in
    let last = g.F.Fields.last_contents c.args.fields in
    subst (λ contents. IfOk c.write.result
    (λ offset. WritesContents contents c.args.builder.now offset.distance c.write.new.builder))
    (ap (λ all. all ++ (last ++ [])) (append-nil some) ∙ ap (λ all. some ++ all) (append-nil last))
    (if_ok c.write.result (λ offset writes history is_history. writes history [] [] is_history tt tt) c.write.ensures.kept)
