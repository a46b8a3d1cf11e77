use Rattle.std.proofs.Common.{[], ◌∷◌, ◌++◌, refl, sym, subst, ap, ◌∙◌, Ok, Err, inl, append_assoc}
use Rattle.std.proofs.lemmas.List.{append-nil}
use Rattle.std.proofs.lemmas.Result.{err_from_is_err_and}
use Rattle.planus_read.specs.Values.{tags, values}
use Rattle.planus_write.specs.lemmas.Laws.{grows_on, extends_itself}
use Rattle.planus_fields.specs.Contents.{HoldsIf}
use Rattle.planus.specs.Contents.{tags_content, values_content}
use Rattle.planus.specs.lemmas.ContentLaws.{only_field, contents_both}
use Rattle.planus.specs.Preparing.{WritesFields, next_turn}
use Rattle.planus.specs.TableFields.{field_in, list_tags_in, list_values_in}
use Rattle.planus.specs.lemmas.UnionContentLaws.{list_tags_hold, list_values_hold}
use Rattle.planus.proofs.FieldSteps.{if_ok, goes_on, made_of, one_more, more_kept}
use Rattle.planus.proofs.tables.line.fields.UnionVectorAtFields.write.Goals as goal

pub returns-clause-written : goal.returns-clause-written
unfolding next_turn
returns-clause-written g c =
    let vector = c.in_ok-vector.vector in
    let before = g.B.PreparedFields.there c.args.before.now in
    λ ts ls same same_last.
    goes_on (g.V.WriteAsOptionalUnionVector.outcome c.args.self.now.value)
    (λ vector. g.R.Rest.in_turn c.args.others.now
    ((ts ++ list_tags_in g.row.TAGS vector ∷ []) ++ list_values_in g.row.VALUES vector ∷ []) ls)
    WritesFields c.args.builder.now c.prepare.new.builder vector c.write.result
    c.write.new.builder c.in_ok-vector.ensures
    (c.write.ensures.written
    ((ts ++ list_tags_in g.row.TAGS vector ∷ []) ++ list_values_in g.row.VALUES vector ∷ []) ls
    (one_more (ts ++ list_tags_in g.row.TAGS vector ∷ [])
    (before ++ field_in g.row.TAGS (λ field. tags field.0.distance) c.tags_of-list_tags.result)
    (list_values_in g.row.VALUES vector)
    (one_more ts before (list_tags_in g.row.TAGS vector) same
    ∙ ap (λ fields. before ++ fields)
    (made_of g.row.TAGS (λ vector. record { 0 = vector.tags }) (λ field. tags field.0.distance)
    (λ vector. tags vector.tags.distance) (λ vector. refl) vector
    c.tags_of-list_tags.result c.tags_of-list_tags.ensures))
    ∙ ap (λ fields. (before
    ++ field_in g.row.TAGS (λ field. tags field.0.distance) c.tags_of-list_tags.result) ++ fields)
    (made_of g.row.VALUES (λ vector. record { 0 = vector.values })
    (λ field. values field.0.distance) (λ vector. values vector.values.distance)
    (λ vector. refl) vector c.values_of-list_values.result c.values_of-list_values.ensures))
    same_last)

pub returns-clause-kept : goal.returns-clause-kept
returns-clause-kept g c =
    let vector = c.in_ok-vector.vector in
    let contents = g.V.WriteAsOptionalUnionVector.contents c.args.self.now.value in
    let list_tags = field_in g.row.TAGS (λ field. tags field.0.distance) c.tags_of-list_tags.result in
    let list_values =
    field_in g.row.VALUES (λ field. values field.0.distance) c.values_of-list_values.result in
    if_ok c.write.result
    (λ offset behind. more_kept (g.B.PreparedFields.there c.args.before.now)
    (g.L.PreparedFields.there c.args.last.now) (list_tags ++ list_values) []
    _ _ ((g.row.TAGS, tags_content contents) ∷ (g.row.VALUES, values_content contents) ∷ []) []
    (g.R.Rest.contents c.args.others.now) (g.R.Rest.last_contents c.args.others.now)
    c.args.builder.now c.prepare.new.builder c.write.new.builder offset.distance
    (append_assoc (g.B.PreparedFields.there c.args.before.now) list_tags list_values)
    (sym (append-nil (g.L.PreparedFields.there c.args.last.now)))
    (λ history is_history.
    let near = g.met.V.WriteAsOptionalUnionVector.has_contents.comes c.args.self.now.value
    c.args.builder.now vector c.prepare.new.builder history c.requires.may
    c.in_ok-vector.ensures is_history in
    let tags_are = only_field near.0 g.row.TAGS (tags_content contents)
    (λ field. tags field.0.distance) c.tags_of-list_tags.result
    (subst
    (λ made. HoldsIf near.0 (tags_content contents) (λ field. tags field.0.distance) made)
    (sym c.tags_of-list_tags.ensures)
    (list_tags_hold (λ vector. record { 0 = vector.tags }) (λ field. tags field.0.distance)
    (λ vector. refl) near.0 near.0 contents vector (extends_itself near.0) near.3)) in
    let values_are = only_field near.0 g.row.VALUES (values_content contents)
    (λ field. values field.0.distance) c.values_of-list_values.result
    (subst
    (λ made. HoldsIf near.0 (values_content contents) (λ field. values field.0.distance) made)
    (sym c.values_of-list_values.ensures)
    (list_values_hold (λ vector. record { 0 = vector.values })
    (λ field. values field.0.distance) (λ vector. refl) near.0 near.0 contents vector
    (extends_itself near.0) near.3)) in (
      near.0,
      near.1,
      near.2,
      (
        contents_both near.0 ((g.row.TAGS, tags_content contents) ∷ [])
            ((g.row.VALUES, values_content contents) ∷ []) list_tags list_values tags_are values_are,
        tt,
      ),
    ))
    behind)
    c.write.ensures.kept

pub returns-clause-grows : goal.returns-clause-grows
returns-clause-grows g c =
    grows_on c.args.builder.now c.prepare.new.builder c.write.new.builder
    (g.met.V.WriteAsOptionalUnionVector.is_lawful.grows c.args.self.now.value c.args.builder.now
    (Ok c.in_ok-vector.vector) c.prepare.new.builder c.requires.may c.in_ok-vector.ensures)
    c.write.ensures.grows

pub returns-clause-reached : goal.returns-clause-reached
returns-clause-reached g c = c.write.ensures.reached

pub write-requires-clause-may : goal.write-requires-clause-may
write-requires-clause-may g c =
    g.met.R.Rest.stays c.args.others.now c.args.builder.now c.prepare.new.builder
    (g.met.V.WriteAsOptionalUnionVector.is_lawful.grows c.args.self.now.value c.args.builder.now
    (Ok c.in_ok-vector.vector) c.prepare.new.builder c.requires.may c.in_ok-vector.ensures)
    c.requires.others

pub write-requires-clause-rules : goal.write-requires-clause-rules
write-requires-clause-rules g c = simp append_assoc (simp append_assoc at c.requires.rules)

pub returns-in_err-vector-clause-written : goal.returns-in_err-vector-clause-written
unfolding next_turn
returns-in_err-vector-clause-written g c =
    let p = err_from_is_err_and c.from_residual.result c.from_residual.ensures.1 in
    rw (p.1, p.2) (λ ts ls same same_last. inl (inl c.in_err-vector.ensures))

pub returns-in_err-vector-clause-kept : goal.returns-in_err-vector-clause-kept
returns-in_err-vector-clause-kept g c =
    let p = err_from_is_err_and c.from_residual.result c.from_residual.ensures.1 in
    rw p.1 tt

pub returns-in_err-vector-clause-reached : goal.returns-in_err-vector-clause-reached
returns-in_err-vector-clause-reached g c =
    let p = err_from_is_err_and c.from_residual.result c.from_residual.ensures.1 in
    rw p.1 tt

pub returns-in_err-vector-clause-grows : goal.returns-in_err-vector-clause-grows
returns-in_err-vector-clause-grows g c =
    g.met.V.WriteAsOptionalUnionVector.is_lawful.grows c.args.self.now.value c.args.builder.now
    (Err c.in_err-vector.field-0.0) c.prepare.new.builder c.requires.may c.in_err-vector.ensures
