use Rattle.std.proofs.Common.{refl, sym}
use Rattle.std.proofs.lemmas.List.{drop_all}
use Rattle.planus_resolve.specs.WrongServices.{wrong_in_fields}
use Rattle.planus_resolve.proofs.StructLemmas.{drop_next}
use Rattle.planus_resolve.proofs.FaultLemmas.{next_is, first_stops}
use Rattle.planus_resolve.proofs.checks.check_fields.Goals as goal

pub fields-preserved : goal.fields-preserved
fields-preserved c =
    let r = drop_next c.args.fields.now c.fields.field-index c.field-item.result c.fields-test.true c.field-item.is in
    next_is (wrong_in_fields c.args.known.now) _ _ _ c.field-item.result _ _ r refl c.fields.invariant
    (rw c.deref.ensures.value at c.in-Ok.ensures)

pub returns-in-Err : goal.returns-in-Err
returns-in-Err c =
    let r = drop_next c.args.fields.now c.fields.field-index c.field-item.result c.fields-test.true c.field-item.is in
    first_stops (wrong_in_fields c.args.known.now) _ _ _ c.field-item.result _ _ _ r refl c.fields.invariant
    (rw c.deref.ensures.value at c.in-Err.ensures)

pub returns : goal.returns
returns c =
    let d = drop_all c.fields.field-index c.args.fields.now c.fields-test.false in
    sym (rw d at c.fields.invariant)
