use Rattle.std.proofs.Common.{◌≡◌, true, false, refl, ap, sym, ◌∙◌}
use Rattle.std.specs.Prelude.{not}
use Rattle.std.proofs.lemmas.List.{drop_all}
use Rattle.planus_syntax.specs.Values.{label_name, label_of}
use Rattle.planus_schema.specs.Distinct.{is_in}
use Rattle.planus_resolve.specs.declared.fault.FaultKind.TheVariants as fault
use Rattle.planus_resolve.specs.WrongServices.{wrong_attributes}
use Rattle.planus_resolve.proofs.StructLemmas.{drop_next}
use Rattle.planus_resolve.proofs.FaultLemmas.{passes, next_is, told_now}
use Rattle.planus_resolve.proofs.checks.check_attributes.Goals as goal

pub attributes-preserved : goal.attributes-preserved
attributes-preserved c =
    let known = c.args.known.now in
    let a = c.attribute-item.result in
    let r = drop_next c.args.attributes.now c.attributes.attribute-index c.attribute-item.result c.attributes-test.true c.attribute-item.is in
    let found : is_in known (label_name (label_of a.label)) ≡ true = ap (is_in known) (sym c.in-Ok.ensures ∙ sym c.deref.ensures.value) ∙ sym c.if-not-has.ensures in
    next_is (wrong_attributes known) _ _ _ a _ _ r refl c.attributes.invariant (passes _ fault.UnknownAttribute a.label.left (ap not found))

pub returns-then-not-has : goal.returns-then-not-has
returns-then-not-has c =
    let known = c.args.known.now in
    let a = c.attribute-item.result in
    let r = drop_next c.args.attributes.now c.attributes.attribute-index c.attribute-item.result c.attributes-test.true c.attribute-item.is in
    let found : is_in known (label_name (label_of a.label)) ≡ false = ap (is_in known) (sym c.in-Ok.ensures ∙ sym c.deref.ensures.value) ∙ sym c.if-not-has.ensures in
    rw c.wrong.ensures (told_now (wrong_attributes known) _ fault.UnknownAttribute a.label.left _ _ a _ _ r refl c.attributes.invariant (ap not found))

pub returns : goal.returns
returns c =
    let d = drop_all c.attributes.attribute-index c.args.attributes.now c.attributes-test.false in
    sym (rw d at c.attributes.invariant)
