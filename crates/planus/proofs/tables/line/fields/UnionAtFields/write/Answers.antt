use Rattle.std.specs.Int.{w8, to_le_bytes}
use Rattle.std.proofs.Common.{[], ◌∷◌, ◌++◌, refl, sym, subst, ap, ◌∙◌, Ok, Err, inl, append_assoc}
use Rattle.std.proofs.lemmas.Result.{err_from_is_err_and}
use Rattle.planus_read.specs.Values.{plain, reference}
use Rattle.planus_write.specs.lemmas.Laws.{grows_on, extends_itself}
use Rattle.planus_write.specs.Unions.{union_reach}
use Rattle.planus_fields.specs.Contents.{HoldsIf}
use Rattle.planus.specs.Contents.{tag_content, value_content}
use Rattle.planus.specs.lemmas.ContentLaws.{only_field}
use Rattle.planus.specs.Preparing.{WritesFields, next_turn}
use Rattle.planus.specs.TableFields.{field_in, union_tag_in, union_value_in}
use Rattle.planus.specs.lemmas.UnionContentLaws.{union_tag_holds, union_value_holds}
use Rattle.planus.proofs.FieldSteps.{if_ok, goes_on, made_of, one_more, more_kept}
use Rattle.planus.proofs.tables.line.fields.UnionAtFields.write.Goals as goal

pub returns-clause-written : goal.returns-clause-written
unfolding next_turn
returns-clause-written g c =
    let union = c.in_ok-union.union in
    λ ts ls same same_last. goes_on (g.V.WriteAsOptionalUnion.outcome c.args.self.now.value)
    (λ union. g.R.Rest.in_turn c.args.others.now (ts ++ union_value_in g.row.VALUE union ∷ [])
    (ls ++ union_tag_in g.row.TAG union ∷ []))
    WritesFields c.args.builder.now c.prepare.new.builder union c.write.result
    c.write.new.builder c.in_ok-union.ensures
    (c.write.ensures.written (ts ++ union_value_in g.row.VALUE union ∷ [])
    (ls ++ union_tag_in g.row.TAG union ∷ [])
    (one_more ts (g.B.PreparedFields.there c.args.before.now) (union_value_in g.row.VALUE union) same
    ∙ ap (λ fields. g.B.PreparedFields.there c.args.before.now ++ fields)
    (made_of g.row.VALUE (λ union. union.offset) (λ offset. reference offset.distance)
    (λ union. reference (union_reach union)) (λ union. refl) union
    c.value_of-value.result c.value_of-value.ensures))
    (one_more ls (g.L.PreparedFields.there c.args.last.now) (union_tag_in g.row.TAG union) same_last
    ∙ ap (λ fields. g.L.PreparedFields.there c.args.last.now ++ fields)
    (made_of g.row.TAG (λ union. union.tag)
    (λ tag. plain (record { bytes = to_le_bytes w8 tag; alignment = 1 }))
    (λ union. plain (record { bytes = to_le_bytes w8 union.tag; alignment = 1 }))
    (λ union. refl) union c.tag_of-tag.result c.tag_of-tag.ensures)))

pub returns-clause-kept : goal.returns-clause-kept
returns-clause-kept g c =
    let union = c.in_ok-union.union in
    let content = g.V.WriteAsOptionalUnion.content c.args.self.now.value in
    if_ok c.write.result
    (λ offset behind. more_kept (g.B.PreparedFields.there c.args.before.now)
    (g.L.PreparedFields.there c.args.last.now)
    (field_in g.row.VALUE (λ offset. reference offset.distance) c.value_of-value.result)
    (field_in g.row.TAG (λ tag. plain (record { bytes = to_le_bytes w8 tag; alignment = 1 }))
    c.tag_of-tag.result)
    _ _ ((g.row.VALUE, value_content content) ∷ []) ((g.row.TAG, tag_content content) ∷ [])
    (g.R.Rest.contents c.args.others.now) (g.R.Rest.last_contents c.args.others.now)
    c.args.builder.now c.prepare.new.builder c.write.new.builder offset.distance refl refl
    (λ history is_history.
    let near = g.met.V.WriteAsOptionalUnion.has_content.comes c.args.self.now.value
    c.args.builder.now union c.prepare.new.builder history c.requires.may
    c.in_ok-union.ensures is_history in (
      near.0,
      near.1,
      near.2,
      (
        only_field near.0 g.row.VALUE (value_content content) (λ offset. reference offset.distance)
            c.value_of-value.result
            (subst
            (λ made. HoldsIf near.0 (value_content content) (λ offset. reference offset.distance) made)
            (sym c.value_of-value.ensures)
            (union_value_holds (λ union. union.offset) (λ union. refl) near.0 near.0 content union
            (extends_itself near.0) near.3)),
        only_field near.0 g.row.TAG (tag_content content)
            (λ tag. plain (record { bytes = to_le_bytes w8 tag; alignment = 1 })) c.tag_of-tag.result
            (subst
            (λ made. HoldsIf near.0 (tag_content content)
            (λ tag. plain (record { bytes = to_le_bytes w8 tag; alignment = 1 })) made)
            (sym c.tag_of-tag.ensures) (union_tag_holds near.0 near.0 content union near.3)),
      ),
    ))
    behind)
    c.write.ensures.kept

pub returns-clause-grows : goal.returns-clause-grows
returns-clause-grows g c =
    grows_on c.args.builder.now c.prepare.new.builder c.write.new.builder
    (g.met.V.WriteAsOptionalUnion.is_lawful.grows c.args.self.now.value c.args.builder.now
    (Ok c.in_ok-union.union) c.prepare.new.builder c.requires.may c.in_ok-union.ensures)
    c.write.ensures.grows

pub returns-clause-reached : goal.returns-clause-reached
returns-clause-reached g c = c.write.ensures.reached

pub write-requires-clause-may : goal.write-requires-clause-may
write-requires-clause-may g c =
    g.met.R.Rest.stays c.args.others.now c.args.builder.now c.prepare.new.builder
    (g.met.V.WriteAsOptionalUnion.is_lawful.grows c.args.self.now.value c.args.builder.now
    (Ok c.in_ok-union.union) c.prepare.new.builder c.requires.may c.in_ok-union.ensures)
    c.requires.others

pub write-requires-clause-rules : goal.write-requires-clause-rules
write-requires-clause-rules g c = simp append_assoc (simp append_assoc at c.requires.rules)

pub returns-in_err-union-clause-written : goal.returns-in_err-union-clause-written
unfolding next_turn
returns-in_err-union-clause-written g c =
    let p = err_from_is_err_and c.from_residual.result c.from_residual.ensures.1 in
    rw (p.1, p.2) (λ ts ls same same_last. inl (inl c.in_err-union.ensures))

pub returns-in_err-union-clause-kept : goal.returns-in_err-union-clause-kept
returns-in_err-union-clause-kept g c =
    let p = err_from_is_err_and c.from_residual.result c.from_residual.ensures.1 in
    rw p.1 tt

pub returns-in_err-union-clause-reached : goal.returns-in_err-union-clause-reached
returns-in_err-union-clause-reached g c =
    let p = err_from_is_err_and c.from_residual.result c.from_residual.ensures.1 in
    rw p.1 tt

pub returns-in_err-union-clause-grows : goal.returns-in_err-union-clause-grows
returns-in_err-union-clause-grows g c =
    g.met.V.WriteAsOptionalUnion.is_lawful.grows c.args.self.now.value c.args.builder.now
    (Err c.in_err-union.field-0.0) c.prepare.new.builder c.requires.may c.in_err-union.ensures
