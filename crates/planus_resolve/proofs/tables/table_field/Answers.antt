use Rattle.std.proofs.Common.{refl, sym, ap, subst, ◌∙◌, map}
use Rattle.std.specs.Prelude.{codes}
use Rattle.planus_syntax.specs.Values.{names_of, attribute_of}
use Rattle.planus_resolve.specs.Names.{has}
use Rattle.planus_resolve.specs.inner.Scopes.{scope_heads, scope_space}
use Rattle.planus_resolve.specs.Wrong.{Stops}
use Rattle.planus_resolve.proofs.FaultLemmas.{stops_first, stops_next}
use Rattle.planus_resolve.proofs.TableLemmas.{typed_is, law_left, law_is}
use Rattle.planus_resolve.proofs.tables.table_field.Goals as goal

pub returns-in-Err-clause-wrong : goal.returns-in-Err-clause-wrong
returns-in-Err-clause-wrong c =
    stops_first _ _ c.in-Err.error c.in-Err.ensures.wrong

pub returns-in-Err-field_slot-clause-wrong : goal.returns-in-Err-field_slot-clause-wrong
returns-in-Err-field_slot-clause-wrong c =
    let typed = typed_is (scope_heads c.args.scope.now) (scope_space c.args.scope.now) c.args.ids c.args.next c.args.field.now c.in-Ok.value c.in-Ok.ensures.wrong c.in-Ok.ensures.named in
    subst (λ o. Stops o c.in-Err-field_slot.error) (sym typed) (stops_first _ _ c.in-Err-field_slot.error c.in-Err-field_slot.ensures.wrong)

pub returns-in-Err-default_of-clause-wrong : goal.returns-in-Err-default_of-clause-wrong
returns-in-Err-default_of-clause-wrong c =
    let typed = typed_is (scope_heads c.args.scope.now) (scope_space c.args.scope.now) c.args.ids c.args.next c.args.field.now c.in-Ok.value c.in-Ok.ensures.wrong c.in-Ok.ensures.named in
    subst (λ o. Stops o c.in-Err-default_of.error) (sym typed) (stops_next _ _ c.in-Err-default_of.error c.in-Ok-field_slot.ensures.wrong (stops_first _ _ c.in-Err-default_of.error c.in-Err-default_of.ensures.wrong))

pub returns-in-Err-nested_of-clause-wrong : goal.returns-in-Err-nested_of-clause-wrong
returns-in-Err-nested_of-clause-wrong c =
    let typed = typed_is (scope_heads c.args.scope.now) (scope_space c.args.scope.now) c.args.ids c.args.next c.args.field.now c.in-Ok.value c.in-Ok.ensures.wrong c.in-Ok.ensures.named in
    subst (λ o. Stops o c.in-Err-nested_of.error) (sym typed) (stops_next _ _ c.in-Err-nested_of.error c.in-Ok-field_slot.ensures.wrong
    (stops_next _ _ c.in-Err-nested_of.error c.in-Ok-default_of.ensures.wrong (stops_first _ _ c.in-Err-nested_of.error (rw c.as_slice-attributes.ensures.value at c.in-Err-nested_of.ensures.wrong))))

pub returns-in-Err-check_lawful-clause-wrong : goal.returns-in-Err-check_lawful-clause-wrong
returns-in-Err-check_lawful-clause-wrong c =
    let known = typed_is (scope_heads c.args.scope.now) (scope_space c.args.scope.now) c.args.ids c.args.next c.args.field.now c.in-Ok.value c.in-Ok.ensures.wrong c.in-Ok.ensures.named in
    let law = law_left (scope_heads c.args.scope.now) (scope_space c.args.scope.now) c.args.ids c.args.next c.args.field.now c.in-Ok.value c.in-Ok-field_slot.ensures.wrong c.in-Ok-default_of.ensures.wrong (rw c.as_slice-attributes.ensures.value at c.in-Ok-nested_of.ensures.wrong) in
    let same = law_is c.args.field.now c.in-Ok.value _ _ _ c.as_slice-attributes.result.now c.as_slice-attributes.result.now c.is_required-required.ensures c.has-key.ensures c.as_slice-attributes.ensures.value c.in-Ok-nested_of.ensures.set c.as_slice-attributes.ensures.value in
    subst (λ o. Stops o c.in-Err-check_lawful.error) (same ∙ sym law ∙ sym known) c.in-Err-check_lawful.ensures.wrong

pub returns-clause-read : goal.returns-clause-read
returns-clause-read c = record {
  says = record {
    name = c.in-Ok-from_slice.ensures.items ∙ c.deref.ensures.value;
    docs = c.in-Ok-copied.ensures ∙ ap names_of c.deref-2.ensures.value;
    kind = c.in-Ok.ensures.named;
    array = c.in-Ok.ensures.array;
    id = c.in-Ok-field_slot.ensures.id;
    default = c.in-Ok-default_of.ensures.value;
    required = c.is_required-required.ensures;
    deprecated = c.has-deprecated.ensures ∙ ap (λ set. has (codes "deprecated") (map attribute_of set)) c.as_slice-attributes.ensures.value;
    key = c.has-key.ensures ∙ ap (λ set. has (codes "key") (map attribute_of set)) c.as_slice-attributes.ensures.value;
    nested = rw c.as_slice-attributes.ensures.value at c.in-Ok-nested_of.ensures.says;
  };
  order = c.in-Ok-field_slot.ensures.order;
  lawful = c.in-Ok-check_lawful.ensures.lawful;
  kind = rw c.in-Ok.ensures.named refl;
  slot = c.in-Ok-field_slot.ensures.slot;
}

pub returns-clause-wrong : goal.returns-clause-wrong
returns-clause-wrong c =
    let typed = typed_is (scope_heads c.args.scope.now) (scope_space c.args.scope.now) c.args.ids c.args.next c.args.field.now c.in-Ok.value c.in-Ok.ensures.wrong c.in-Ok.ensures.named in
    let law = law_left (scope_heads c.args.scope.now) (scope_space c.args.scope.now) c.args.ids c.args.next c.args.field.now c.in-Ok.value c.in-Ok-field_slot.ensures.wrong c.in-Ok-default_of.ensures.wrong (rw c.as_slice-attributes.ensures.value at c.in-Ok-nested_of.ensures.wrong) in
    let same = law_is c.args.field.now c.in-Ok.value _ _ _ c.as_slice-attributes.result.now c.as_slice-attributes.result.now c.is_required-required.ensures c.has-key.ensures c.as_slice-attributes.ensures.value c.in-Ok-nested_of.ensures.set c.as_slice-attributes.ensures.value in
    typed ∙ law ∙ sym same ∙ c.in-Ok-check_lawful.ensures.wrong
