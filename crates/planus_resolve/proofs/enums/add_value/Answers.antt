use Rattle.std.proofs.Common.{◌≡◌, true, false, map, sym, ap, ◌∙◌, refl}
use Rattle.std.specs.Prelude.{not}
use Rattle.std.specs.List.{list_any}
use Rattle.std.proofs.lemmas.Bool.{not-false, not-true}
use Rattle.planus_syntax.specs.Values.{names_of, variant_of}
use Rattle.planus_resolve.specs.Enums.{same_number, number_of_value}
use Rattle.planus_resolve.specs.Wrong.{when}
use Rattle.planus_resolve.specs.declared.fault.FaultKind.TheVariants as fault
use Rattle.planus_resolve.proofs.FaultLemmas.{skip, passes, stops_now}
use Rattle.planus_resolve.proofs.EnumLemmas.{value_added}
use Rattle.planus_resolve.proofs.enums.add_value.Goals as goal

pub returns-clause-added : goal.returns-clause-added
returns-clause-added c =
    let numbers = map number_of_value c.args.values.now.items in
    value_added c.args.scalar (variant_of c.args.variant.now) c.args.number
    c.args.values.now.items c.push.new.self.items _ c.in_ok-push.ensures.items
    (c.in-Ok-from_slice.ensures.items ∙ c.deref.ensures.value)
    (c.in-Ok-copied.ensures ∙ ap names_of c.deref-2.ensures.value) refl
    (sym c.fits.ensures ∙ c.if-not-fits.false)
    (not-true _ (sym (c.in-Ok.ensures.new numbers c.requires) ∙ c.if-not-new.false))

pub returns-then-not-fits-clause-wrong : goal.returns-then-not-fits-clause-wrong
returns-then-not-fits-clause-wrong c =
    rw c.wrong.ensures (stops_now _ fault.ValueOutOfRange c.args.variant.now.left _ (ap not (sym c.fits.ensures ∙ c.if-not-fits.true)))

pub returns-then-not-new-clause-wrong : goal.returns-then-not-new-clause-wrong
returns-then-not-new-clause-wrong c =
    let numbers = map number_of_value c.args.values.now.items in
    let used : list_any (λ m. same_number m c.args.number) numbers ≡ true =
    not-false _ (sym (c.in-Ok.ensures.new numbers c.requires) ∙ c.if-not-new.true) in
    rw c.wrong-then-not-new.ensures (skip _ _ (passes _ fault.ValueOutOfRange c.args.variant.now.left (ap not (sym c.fits.ensures ∙ c.if-not-fits.false)))
    ∙ ap (λ b. when b fault.ValueTaken c.args.variant.now.left) used)

pub returns-clause-wrong : goal.returns-clause-wrong
returns-clause-wrong c =
    let numbers = map number_of_value c.args.values.now.items in
    let unused : list_any (λ m. same_number m c.args.number) numbers ≡ false =
    not-true _ (sym (c.in-Ok.ensures.new numbers c.requires) ∙ c.if-not-new.false) in
    skip _ _ (passes _ fault.ValueOutOfRange c.args.variant.now.left (ap not (sym c.fits.ensures ∙ c.if-not-fits.false)))
    ∙ passes _ fault.ValueTaken c.args.variant.now.left unused
