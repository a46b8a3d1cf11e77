use Rattle.std.proofs.Common.{◌++◌, sym, ap, append_assoc, ◌∙◌, arith}
use Rattle.std.proofs.lemmas.List.{append-nil, drop_all}
use Rattle.planus_schema.specs.Slots.{slots_taken}
use Rattle.planus_schema.proofs.Lists.{drop_next}
use Rattle.planus_schema.proofs.slots.slots_taken.Goals as goal

pub fields-preserved : goal.fields-preserved
fields-preserved c =
    let slots = c.fields.slots.items in
    let r = drop_next c.args.fields.now c.fields.field-index c.field-item.result (omega arith) c.field-item.is in
    rw c.in_ok-add_slots.ensures (append_assoc slots _ _ ∙ ap (λ fs. slots ++ slots_taken fs) (sym r) ∙ c.fields.invariant)

pub returns : goal.returns
returns c =
    let slots = c.fields.slots.items in
    let e = drop_all c.fields.field-index c.args.fields.now c.fields-test.false in
    sym (append-nil slots) ∙ ap (λ fs. slots ++ slots_taken fs) (sym e) ∙ c.fields.invariant
