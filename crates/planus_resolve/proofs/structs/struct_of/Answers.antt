use Rattle.std.proofs.Common.{rules, ◌≡◌, false, length, map, ap, sym, subst, ◌∙◌, arith}
use Rattle.std.specs.Prelude.{codes, vec_len, ◌==◌, Some}
use Rattle.planus_syntax.specs.Values.{attribute_of}
use Rattle.planus_schema.specs.Layouts.{greatest_alignment}
use Rattle.planus_resolve.specs.declared.fault.FaultKind.TheVariants as fault
use Rattle.planus_resolve.specs.Names.{setting, attribute_named}
use Rattle.planus_resolve.specs.Structs.{alignment_said}
use Rattle.planus_resolve.specs.Wrong.{Stops}
use Rattle.planus_resolve.specs.WrongStructs.{wrong_alignment, is_empty}
use Rattle.planus_resolve.proofs.FaultLemmas.{skip, passes, stops_first, stops_next, stops_now}
use Rattle.planus_resolve.proofs.StructLemmas.{empty_is}
use Rattle.planus_resolve.proofs.structs.struct_of.Goals as goal

pub returns-then-is_empty-clause-wrong : goal.returns-then-is_empty-clause-wrong
returns-then-is_empty-clause-wrong c =
    let same : length c.args.declared.now.fields.items ≡ vec_len c.args.declared.now.fields = omega (arith, c.args.declared.now.fields.ok.0) in
    rw c.wrong.ensures (stops_now _ fault.EmptyStruct c.args.left _ (empty_is c.args.declared.now.fields.items ∙ ap (λ n. n == 0) same ∙ sym c.is_empty.ensures ∙ c.if-is_empty.true))

pub returns-in-Err-clause-wrong : goal.returns-in-Err-clause-wrong
returns-in-Err-clause-wrong c =
    let e = c.in-Err.error in
    let same : length c.args.declared.now.fields.items ≡ vec_len c.args.declared.now.fields = omega (arith, c.args.declared.now.fields.ok.0) in
    let some : is_empty c.args.declared.now.fields.items ≡ false = empty_is c.args.declared.now.fields.items ∙ ap (λ n. n == 0) same ∙ sym c.is_empty.ensures ∙ c.if-is_empty.false in
    stops_next _ _ e (passes _ fault.EmptyStruct c.args.left some)
    (stops_first _ _ e (rw c.deref.ensures.value at c.in-Err.ensures.wrong))

pub returns-in-Err-alignment_of-clause-wrong : goal.returns-in-Err-alignment_of-clause-wrong
returns-in-Err-alignment_of-clause-wrong c =
    let e = c.in-Err-alignment_of.error in
    let same : length c.args.declared.now.fields.items ≡ vec_len c.args.declared.now.fields = omega (arith, c.args.declared.now.fields.ok.0) in
    let some : is_empty c.args.declared.now.fields.items ≡ false = empty_is c.args.declared.now.fields.items ∙ ap (λ n. n == 0) same ∙ sym c.is_empty.ensures ∙ c.if-is_empty.false in
    stops_next _ _ e (passes _ fault.EmptyStruct c.args.left some)
    (stops_next _ _ e (rw c.deref.ensures.value at c.in-Ok.ensures.wrong)
    (subst (λ n. Stops (wrong_alignment n c.args.left (attribute_named (codes "force_align") c.args.declared.now.attributes.items)) e)
    (rw c.deref.ensures.value at c.in-Ok.ensures.read.alignment) (rw c.deref-2.ensures.value at c.in-Err-alignment_of.ensures.wrong)))

pub returns-clause-read : goal.returns-clause-read
returns-clause-read c = record {
  says = record {
    fields = rw c.finished.ensures.fields (rw c.deref.ensures.value at c.in-Ok.ensures.read.says);
    alignment = ap (alignment_said (setting (codes "force_align") (map attribute_of c.args.declared.now.attributes.items)))
        (ap greatest_alignment c.finished.ensures.fields ∙ sym c.in-Ok.ensures.read.greatest)
        ∙ (rw c.deref-2.ensures.value at c.in-Ok-alignment_of.ensures.said) ∙ ap Some (sym c.finished.ensures.alignment);
  };
  sound = search rules;
  measure = search rules;
}

pub returns-clause-wrong : goal.returns-clause-wrong
returns-clause-wrong c =
    let same : length c.args.declared.now.fields.items ≡ vec_len c.args.declared.now.fields = omega (arith, c.args.declared.now.fields.ok.0) in
    let some : is_empty c.args.declared.now.fields.items ≡ false = empty_is c.args.declared.now.fields.items ∙ ap (λ n. n == 0) same ∙ sym c.is_empty.ensures ∙ c.if-is_empty.false in
    skip _ _ (passes _ fault.EmptyStruct c.args.left some)
    ∙ skip _ _ (rw c.deref.ensures.value at c.in-Ok.ensures.wrong)
    ∙ ap (λ n. wrong_alignment n c.args.left (attribute_named (codes "force_align") c.args.declared.now.attributes.items))
    (sym (rw c.deref.ensures.value at c.in-Ok.ensures.read.alignment))
    ∙ (rw c.deref-2.ensures.value at c.in-Ok-alignment_of.ensures.wrong)
