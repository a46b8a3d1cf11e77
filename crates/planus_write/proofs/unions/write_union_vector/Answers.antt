use Rattle.std.proofs.Common.{ℕ, List, map, ap, ◌∙◌, subst}
use Rattle.std.specs.Prelude.{Ok, Err}
use Rattle.std.proofs.lemmas.Result.{err_from_is_err_and}
use Rattle.planus_write.specs.Items.{Item, reference_item}
use Rattle.planus_write.specs.Preparing.{WritesPrepared}
use Rattle.planus_write.specs.Unions.{WritesTags}
use Rattle.planus_write.specs.declared.offset.List as list
use Rattle.planus_write.specs.declared.offset.Offset.{Offset}
use Rattle.planus_write.proofs.WrittenUnions.{references_are, tags_are, references_refused, tags_refused, vector_written}
use Rattle.planus_write.proofs.unions.write_union_vector.Goals as goal

pub returns-in_err-values : goal.returns-in_err-values
returns-in_err-values g c =
    let p = err_from_is_err_and c.from_residual-in_err-values.result c.from_residual-in_err-values.ensures.1 in
    let all = c.in_ok-unions.ensures.prepared in
    let references = ap (map (λ offset. reference_item offset.distance)) (c.as_slice.ensures.value ∙ all.3) ∙ references_are all.0 in
    rw (p.1, p.2)
    (references_refused g.U.WriteAsUnion.outcome c.args.items.now all.0 c.args.builder.now c.prepare_unions.new.builder all.1 c.in_err-values.field-0.0 c.write_prepared.new.builder
    (subst (λ (items : List Item). WritesPrepared {T = list.List (Offset (Unit {0}))} 4 4 items c.prepare_unions.new.builder (Err c.in_err-values.field-0.0) c.write_prepared.new.builder) references c.in_err-values.ensures))

pub returns-in_err-tags : goal.returns-in_err-tags
returns-in_err-tags g c =
    let p = err_from_is_err_and c.from_residual-in_err-tags.result c.from_residual-in_err-tags.ensures.1 in
    let all = c.in_ok-unions.ensures.prepared in
    let references = ap (map (λ offset. reference_item offset.distance)) (c.as_slice.ensures.value ∙ all.3) ∙ references_are all.0 in
    let tags = c.as_slice-2.ensures.value ∙ all.2 ∙ tags_are all.0 in
    rw (p.1, p.2)
    (tags_refused g.U.WriteAsUnion.outcome c.args.items.now all.0 c.args.builder.now c.prepare_unions.new.builder all.1 c.in_ok-values.values c.write_prepared.new.builder
    (subst (λ (items : List Item). WritesPrepared 4 4 items c.prepare_unions.new.builder (Ok c.in_ok-values.values) c.write_prepared.new.builder) references c.in_ok-values.ensures)
    c.in_err-tags.field-0.0 c.write_tags.new.builder
    (subst (λ (tags : List ℕ). WritesTags {T = list.List ℕ} tags c.write_prepared.new.builder (Err c.in_err-tags.field-0.0) c.write_tags.new.builder) tags c.in_err-tags.ensures))

pub returns : goal.returns
returns g c =
    let all = c.in_ok-unions.ensures.prepared in
    let references = ap (map (λ offset. reference_item offset.distance)) (c.as_slice.ensures.value ∙ all.3) ∙ references_are all.0 in
    let tags = c.as_slice-2.ensures.value ∙ all.2 ∙ tags_are all.0 in
    vector_written g.U.WriteAsUnion.outcome c.args.items.now all.0 c.args.builder.now c.prepare_unions.new.builder all.1 c.in_ok-values.values c.write_prepared.new.builder
    (subst (λ (items : List Item). WritesPrepared 4 4 items c.prepare_unions.new.builder (Ok c.in_ok-values.values) c.write_prepared.new.builder) references c.in_ok-values.ensures)
    c.in_ok-tags.tags c.new.result c.write_tags.new.builder
    (subst (λ (tags : List ℕ). WritesTags tags c.write_prepared.new.builder (Ok c.in_ok-tags.tags) c.write_tags.new.builder) tags c.in_ok-tags.ensures)
    (ap (λ offset. offset.distance) c.new.ensures.values) (ap (λ offset. offset.distance) c.new.ensures.tags)
