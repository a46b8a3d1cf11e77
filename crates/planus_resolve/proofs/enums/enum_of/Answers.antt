use Rattle.std.proofs.Common.{◌≡◌, true, ap, sym, ◌∙◌, map, subst}
use Rattle.std.specs.Prelude.{None, IfSome}
use Rattle.planus_syntax.specs.Values.{VariantV, variant_of, enumeration_of}
use Rattle.planus_schema.specs.Distinct.{AreDistinct}
use Rattle.planus_resolve.specs.Enums.{is_integer_type, values_said, variants_or_none}
use Rattle.planus_resolve.specs.Wrong.{Stops}
use Rattle.planus_resolve.proofs.FaultLemmas.{skip, stops_first, stops_next}
use Rattle.planus_resolve.proofs.EnumLemmas.{distinct_or_none, typed, untyped}
use Rattle.planus_resolve.proofs.enums.enum_of.Goals as goal

pub returns-clause-sound : goal.returns-clause-sound
returns-clause-sound c =
    record {
      integer = subst (λ o. IfSome o (λ s. is_integer_type s ≡ true)) c.in-Some.is c.requires;
      within = c.in-Ok-values_or_none.ensures.says.within;
      distinct = c.in-Ok-values_or_none.ensures.says.distinct;
      names = subst AreDistinct (ap (λ vs. map (λ (v : VariantV). v.name) (variants_or_none (map variant_of vs))) (c.deref-2.ensures.value ∙ sym c.deref-3.ensures.value) ∙ sym c.in-Ok-values_or_none.ensures.says.names) (distinct_or_none _ c.in-Ok.ensures.distinct);
    }

pub returns-in-None-clause-wrong : goal.returns-in-None-clause-wrong
returns-in-None-clause-wrong c = rw c.wrong.ensures (untyped c.args.integer c.args.declared.now c.in-None.is)

pub returns-in-Err-clause-wrong : goal.returns-in-Err-clause-wrong
returns-in-Err-clause-wrong c =
    subst (λ o. Stops o c.in-Err.error) (sym (typed c.args.integer c.args.declared.now c.in-Some.scalar c.in-Some.is))
    (stops_first _ _ c.in-Err.error (rw c.deref-2.ensures.value at c.in-Err.ensures.wrong))

pub returns-in-Err-values_or_none-clause-wrong : goal.returns-in-Err-values_or_none-clause-wrong
returns-in-Err-values_or_none-clause-wrong c =
    subst (λ o. Stops o c.in-Err-values_or_none.error) (sym (typed c.args.integer c.args.declared.now c.in-Some.scalar c.in-Some.is))
    (stops_next _ _ c.in-Err-values_or_none.error (rw c.deref-2.ensures.value at c.in-Ok.ensures.wrong)
    (rw (c.deref-3.ensures.value, c.has-flags.ensures, c.deref.ensures.value) at c.in-Err-values_or_none.ensures.wrong))

pub returns-clause-wrong : goal.returns-clause-wrong
returns-clause-wrong c =
    typed c.args.integer c.args.declared.now c.in-Some.scalar c.in-Some.is
    ∙ skip _ _ (rw c.deref-2.ensures.value at c.in-Ok.ensures.wrong)
    ∙ (rw (c.deref-3.ensures.value, c.has-flags.ensures, c.deref.ensures.value) at c.in-Ok-values_or_none.ensures.wrong)

pub returns-clause-says : goal.returns-clause-says
returns-clause-says c =
    let d = enumeration_of c.args.declared.now in
    let flags = rw c.deref.ensures.value at c.has-flags.ensures in
    let values = rw c.deref-3.ensures.value at c.in-Ok-values_or_none.ensures.says in
    record {
      scalar = c.in-Some.is;
      flags = flags;
      names = values.names;
      docs = values.docs;
      numbers = ap (λ f. values_said f None (variants_or_none d.variants)) (sym flags) ∙ values.numbers;
    }
