use Rattle.std.proofs.Common.{◌++◌, ◌∷◌, [], refl, ap, sym, ◌∙◌, take, map}
use Rattle.std.specs.Prelude.{Some, None}
use Rattle.std.proofs.lemmas.List.{map_push, take_all, drop_all}
use Rattle.planus_syntax.specs.Values.{VariantV, variant_of, names_of}
use Rattle.planus_resolve.specs.Enums.{number_of_value, value_said, values_said}
use Rattle.planus_resolve.proofs.StructLemmas.{map_next, map_rest, drop_next}
use Rattle.planus_resolve.proofs.EnumLemmas.{before_none, no_values, numbers_next, numbers_end, value_is, value_stops, no_value_stops, values_next}
use Rattle.planus_resolve.proofs.enums.enum_values.Goals as goal

pub variants-init : goal.variants-init
variants-init c = let e = c.new-values.ensures.items in record {
  names = rw e refl;
  docs = rw e refl;
  numbers = rw e (before_none (values_said c.args.flags None (map variant_of c.args.variants.now)));
  wrong = rw e refl;
  within = rw e refl;
  distinct = no_values c.new-values.result.items e;
  taken = rw e c.new-taken.ensures;
}

pub returns-clause-says : goal.returns-clause-says
returns-clause-says c =
    let i = c.variants.invariant in
    let t = take_all c.variants.variant-index c.args.variants.now c.variants-test.false in
    let d = drop_all c.variants.variant-index c.args.variants.now c.variants-test.false in
    record {
      names = rw t at i.names;
      docs = rw t at i.docs;
      numbers = numbers_end (map number_of_value c.variants.values.items) _ (rw d at i.numbers);
      within = i.within;
      distinct = i.distinct;
    }

pub variants-preserved : goal.variants-preserved
variants-preserved c =
    let i = c.variants.invariant in
    let a = c.in-Ok.ensures.added in
    let v = c.variant-item.result in
    let before = map variant_of (take c.variants.variant-index c.args.variants.now) in
    let t = map_next variant_of c.args.variants.now c.variants.variant-index v c.variants-test.true c.variant-item.is in
    let m = map_rest variant_of c.args.variants.now c.variants.variant-index v c.variants-test.true c.variant-item.is in
    let r = drop_next c.args.variants.now c.variants.variant-index c.variant-item.result c.variants-test.true c.variant-item.is in
    record {
      names = rw t (a.names ∙ ap (λ ns. ns ++ v.name.items ∷ []) i.names ∙ sym (map_push (λ (w : VariantV). w.name) before (variant_of v)));
      docs = rw t (a.docs ∙ ap (λ ns. ns ++ names_of v.docs.items ∷ []) i.docs ∙ sym (map_push (λ (w : VariantV). w.docs) before (variant_of v)));
      numbers = rw a.numbers (numbers_next c.args.flags c.variants.previous (map number_of_value c.variants.values.items) _ (variant_of v) _ _ c.in-Some.number c.in-Some-value_of.value m i.numbers c.in-Some.ensures c.in-Some-value_of.ensures);
      wrong = values_next c.args.scalar c.args.flags c.variants.previous (map number_of_value c.variants.values.items) _ v _ _ c.in-Some.number c.in-Some-value_of.value _ r i.wrong
          (value_is c.args.flags c.variants.previous (variant_of v).value c.in-Some.number c.in-Some-value_of.value c.in-Some.ensures c.in-Some-value_of.ensures)
          c.in-Ok.ensures.wrong c.in-Some.ensures a.numbers;
      within = a.within i.within;
      distinct = a.distinct i.distinct;
      taken = c.in-Ok.ensures.taken;
    }

pub returns-in-None-clause-wrong : goal.returns-in-None-clause-wrong
returns-in-None-clause-wrong c =
    let r = drop_next c.args.variants.now c.variants.variant-index c.variant-item.result c.variants-test.true c.variant-item.is in
    rw c.wrong.ensures (no_value_stops c.args.scalar c.args.flags c.variants.previous (map number_of_value c.variants.values.items) _ c.variant-item.result _ _ r c.variants.invariant.wrong (ap (value_said c.args.flags) (sym c.in-None.ensures)))

pub returns-in-None-value_of-clause-wrong : goal.returns-in-None-value_of-clause-wrong
returns-in-None-value_of-clause-wrong c =
    let r = drop_next c.args.variants.now c.variants.variant-index c.variant-item.result c.variants-test.true c.variant-item.is in
    rw c.wrong-in-None-value_of.ensures (no_value_stops c.args.scalar c.args.flags c.variants.previous (map number_of_value c.variants.values.items) _ c.variant-item.result _ _ r c.variants.invariant.wrong
    (ap (value_said c.args.flags) (sym c.in-Some.ensures) ∙ sym c.in-None-value_of.ensures))

pub returns-in-Err-clause-wrong : goal.returns-in-Err-clause-wrong
returns-in-Err-clause-wrong c =
    let r = drop_next c.args.variants.now c.variants.variant-index c.variant-item.result c.variants-test.true c.variant-item.is in
    value_stops c.args.scalar c.args.flags c.variants.previous (map number_of_value c.variants.values.items) _ c.variant-item.result _ _ (Some c.in-Some-value_of.value) _ r c.variants.invariant.wrong
    (value_is c.args.flags c.variants.previous (variant_of c.variant-item.result).value c.in-Some.number c.in-Some-value_of.value c.in-Some.ensures c.in-Some-value_of.ensures)
    c.in-Err.ensures.wrong

pub returns-clause-wrong : goal.returns-clause-wrong
returns-clause-wrong c =
    let d = drop_all c.variants.variant-index c.args.variants.now c.variants-test.false in
    sym (rw d at c.variants.invariant.wrong)
