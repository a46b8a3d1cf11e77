use Rattle.std.proofs.Common.{◌≡◌, ◌++◌, ◌∷◌, [], true, false, ap, sym, subst, ◌∙◌}
use Rattle.planus_schema.specs.Distinct.{is_in}
use Rattle.planus_resolve.specs.declared.fault.FaultKind.TheVariants as fault
use Rattle.planus_resolve.specs.Wrong.{Tells}
use Rattle.planus_resolve.specs.WrongServices.{wrong_attributes}
use Rattle.planus_resolve.proofs.FaultLemmas.{skip, passes, stops_first, stops_next, stops_now, name_used, name_new, ok_anyway}
use Rattle.planus_resolve.specs.inner.Index.{IsTaken}
use Rattle.planus_resolve.proofs.checks.check_method.Goals as goal

pub returns-then-not-new-clause-wrong : goal.returns-then-not-new-clause-wrong
returns-then-not-new-clause-wrong c = λ names h.
    let used : is_in names c.args.method.now.name.items ≡ true = ap (is_in names) (sym c.deref.ensures.value) ∙ name_used _ _ c.if-not-new.true (c.in-Ok.ensures.new names h) in
    rw c.wrong.ensures (stops_now _ fault.MethodNameTaken c.args.method.now.left _ used)

pub returns-in-Err-table_at-clause-wrong : goal.returns-in-Err-table_at-clause-wrong
returns-in-Err-table_at-clause-wrong c = λ names h.
    let e = c.in-Err-table_at.error in
    let new : is_in names c.args.method.now.name.items ≡ false = ap (is_in names) (sym c.deref.ensures.value) ∙ name_new _ _ c.if-not-new.false (c.in-Ok.ensures.new names h) in
    stops_next _ _ e (passes _ fault.MethodNameTaken c.args.method.now.left new) (stops_first _ _ e c.in-Err-table_at.ensures.wrong)

pub returns-in-Err-table_at-2-clause-wrong : goal.returns-in-Err-table_at-2-clause-wrong
returns-in-Err-table_at-2-clause-wrong c = λ names h.
    let e = c.in-Err-table_at-2.error in
    let new : is_in names c.args.method.now.name.items ≡ false = ap (is_in names) (sym c.deref.ensures.value) ∙ name_new _ _ c.if-not-new.false (c.in-Ok.ensures.new names h) in
    stops_next _ _ e (passes _ fault.MethodNameTaken c.args.method.now.left new)
    (stops_next _ _ e c.in-Ok-table_at.ensures.wrong (stops_first _ _ e c.in-Err-table_at-2.ensures.wrong))

pub returns-clause-taken : goal.returns-clause-taken
returns-clause-taken c = λ names h.
    ok_anyway c.check_attributes.result _ (subst (λ w. IsTaken c.take_key.new.names (names ++ w ∷ [])) c.deref.ensures.value (c.in-Ok.ensures.taken names h c.if-not-new.false))

pub returns-clause-wrong : goal.returns-clause-wrong
returns-clause-wrong c = λ names h.
    let new : is_in names c.args.method.now.name.items ≡ false = ap (is_in names) (sym c.deref.ensures.value) ∙ name_new _ _ c.if-not-new.false (c.in-Ok.ensures.new names h) in
    let left = skip _ _ (passes _ fault.MethodNameTaken c.args.method.now.left new) ∙ skip _ _ c.in-Ok-table_at.ensures.wrong ∙ skip _ _ c.in-Ok-table_at-2.ensures.wrong ∙ ap (wrong_attributes c.args.known.now) (sym c.deref-2.ensures.value) in
    subst (λ o. Tells o c.check_attributes.result) (sym left) c.check_attributes.ensures
