use Rattle.std.proofs.Common.{[], ◌∷◌, ◌++◌, refl, sym, Ok, Err, inl, append_assoc}
use Rattle.std.proofs.lemmas.List.{append-nil}
use Rattle.std.proofs.lemmas.Result.{err_from_is_err_and}
use Rattle.planus_write.specs.lemmas.Laws.{grows_on}
use Rattle.planus.specs.lemmas.ContentLaws.{only_field}
use Rattle.planus.specs.Preparing.{WritesFields, next_turn}
use Rattle.planus.specs.TableFields.{field_in}
use Rattle.planus.proofs.FieldSteps.{if_ok, goes_on, one_more, more_kept}
use Rattle.planus.proofs.tables.line.fields.TrailingFieldFields.write.Goals as goal

pub returns-clause-written : goal.returns-clause-written
unfolding next_turn
returns-clause-written g c =
    λ ts ls same same_last. goes_on (g.V.WriteAsOptional.outcome c.args.self.now.value)
    (λ value. g.R.Rest.in_turn c.args.others.now
    ts (ls ++ field_in g.row.SLOT g.V.Prepared.WriteAsPrimitive.field value ∷ []))
    WritesFields c.args.builder.now c.prepare.new.builder c.in_ok-value.value c.write.result
    c.write.new.builder c.in_ok-value.ensures
    (c.write.ensures.written
    ts (ls ++ field_in g.row.SLOT g.V.Prepared.WriteAsPrimitive.field c.in_ok-value.value ∷ [])
    same (one_more ls (g.L.PreparedFields.there c.args.last.now)
    (field_in g.row.SLOT g.V.Prepared.WriteAsPrimitive.field c.in_ok-value.value) same_last))

pub returns-clause-kept : goal.returns-clause-kept
returns-clause-kept g c =
    let value = c.in_ok-value.value in
    let content = g.V.WriteAsOptional.content c.args.self.now.value in
    if_ok c.write.result
    (λ offset behind. more_kept (g.B.PreparedFields.there c.args.before.now)
    (g.L.PreparedFields.there c.args.last.now)
    [] (field_in g.row.SLOT g.V.Prepared.WriteAsPrimitive.field value)
    _ _ [] ((g.row.SLOT, content) ∷ [])
    (g.R.Rest.contents c.args.others.now) (g.R.Rest.last_contents c.args.others.now)
    c.args.builder.now c.prepare.new.builder c.write.new.builder offset.distance
    (sym (append-nil (g.B.PreparedFields.there c.args.before.now))) refl
    (λ history is_history.
    let near = g.met.V.WriteAsOptional.has_content.comes c.args.self.now.value
    c.args.builder.now value c.prepare.new.builder history c.requires.may
    c.in_ok-value.ensures is_history in (
      near.0,
      near.1,
      near.2,
      (tt, only_field near.0 g.row.SLOT content g.V.Prepared.WriteAsPrimitive.field value near.3),
    ))
    behind)
    c.write.ensures.kept

pub returns-clause-grows : goal.returns-clause-grows
returns-clause-grows g c =
    grows_on c.args.builder.now c.prepare.new.builder c.write.new.builder
    (g.met.V.WriteAsOptional.is_lawful.grows c.args.self.now.value c.args.builder.now
    (Ok c.in_ok-value.value) c.prepare.new.builder c.requires.may c.in_ok-value.ensures)
    c.write.ensures.grows

pub returns-clause-reached : goal.returns-clause-reached
returns-clause-reached g c = c.write.ensures.reached

pub write-requires-clause-may : goal.write-requires-clause-may
write-requires-clause-may g c =
    g.met.R.Rest.stays c.args.others.now c.args.builder.now c.prepare.new.builder
    (g.met.V.WriteAsOptional.is_lawful.grows c.args.self.now.value c.args.builder.now
    (Ok c.in_ok-value.value) c.prepare.new.builder c.requires.may c.in_ok-value.ensures)
    c.requires.others

pub write-requires-clause-rules : goal.write-requires-clause-rules
write-requires-clause-rules g c = simp append_assoc (simp append_assoc at c.requires.rules)

pub returns-in_err-value-clause-written : goal.returns-in_err-value-clause-written
unfolding next_turn
returns-in_err-value-clause-written g c =
    let p = err_from_is_err_and c.from_residual.result c.from_residual.ensures.1 in
    rw (p.1, p.2) (λ ts ls same same_last. inl (inl c.in_err-value.ensures))

pub returns-in_err-value-clause-kept : goal.returns-in_err-value-clause-kept
returns-in_err-value-clause-kept g c =
    let p = err_from_is_err_and c.from_residual.result c.from_residual.ensures.1 in
    rw p.1 tt

pub returns-in_err-value-clause-reached : goal.returns-in_err-value-clause-reached
returns-in_err-value-clause-reached g c =
    let p = err_from_is_err_and c.from_residual.result c.from_residual.ensures.1 in
    rw p.1 tt

pub returns-in_err-value-clause-grows : goal.returns-in_err-value-clause-grows
returns-in_err-value-clause-grows g c =
    g.met.V.WriteAsOptional.is_lawful.grows c.args.self.now.value c.args.builder.now
    (Err c.in_err-value.field-0.0) c.prepare.new.builder c.requires.may c.in_err-value.ensures
