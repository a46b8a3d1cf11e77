use Rattle.std.proofs.Common.{◌++◌, ap, sym, ◌∙◌, map, append_assoc}
use Rattle.std.proofs.lemmas.List.{append-nil, drop_all}
use Rattle.planus_resolve.specs.Uses.{spot_of, event_of, fields_used}
use Rattle.planus_resolve.proofs.StructLemmas.{drop_next}
use Rattle.planus_resolve.proofs.uses.put_fields.Goals as goal

pub fields-preserved : goal.fields-preserved
fields-preserved c =
    let out = map event_of c.fields.out.items in
    let r = drop_next c.args.fields.now c.fields.field-index c.field-item.result c.fields-test.true c.field-item.is in
    rw c.in-Ok.ensures (append_assoc out _ _
    ∙ ap (λ ds. out ++ fields_used (spot_of c.args.spot) ds) (sym r) ∙ c.fields.invariant)

pub returns : goal.returns
returns c =
    let d = drop_all c.fields.field-index c.args.fields.now c.fields-test.false in
    sym (append-nil (map event_of c.fields.out.items)) ∙ rw d at c.fields.invariant
