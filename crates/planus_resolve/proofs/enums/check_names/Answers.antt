use Rattle.std.proofs.Common.{rules, refl, ◌++◌, ◌∷◌, [], ap, sym, subst, ◌∙◌, take, map}
use Rattle.std.proofs.lemmas.List.{map_push, take_all, drop_all}
use Rattle.planus_syntax.specs.Values.{VariantV, variant_of}
use Rattle.planus_schema.specs.Distinct.{AreDistinct, is_in}
use Rattle.std.specs.Str.{bytes_eq}
use Rattle.planus_schema.proofs.Lists.{distinct_push}
use Rattle.planus_resolve.specs.inner.Index.{IsTaken}
use Rattle.planus_resolve.proofs.IndexLemmas.{no_names_yet}
use Rattle.planus_resolve.proofs.StructLemmas.{map_next, drop_next}
use Rattle.planus_resolve.proofs.FaultLemmas.{name_used, name_new}
use Rattle.planus_resolve.proofs.EnumLemmas.{value_name_stops, value_names_next}
use Rattle.planus_resolve.proofs.enums.check_names.Goals as goal

pub variants-init : goal.variants-init
variants-init c = record {
  taken = search rules;
  wrong = refl;
  distinct = no_names_yet;
}

pub variants-preserved : goal.variants-preserved
variants-preserved c =
    let i = c.variants.invariant in
    let v = c.variant-item.result in
    let name = c.deref.ensures.value in
    let before = map variant_of (take c.variants.variant-index c.args.variants.now) in
    let names = map (λ (w : VariantV). w.name) before in
    let t = map_next variant_of c.args.variants.now c.variants.variant-index v c.variants-test.true c.variant-item.is in
    let r = drop_next c.args.variants.now c.variants.variant-index c.variant-item.result c.variants-test.true c.variant-item.is in
    let added = ap (map (λ (w : VariantV). w.name)) t ∙ map_push (λ (w : VariantV). w.name) before (variant_of v) in
    let new = ap (is_in names) (sym name) ∙ name_new _ _ c.if-not-new.false (c.in-Ok.ensures.new names i.taken) in
    record {
      taken = subst (IsTaken c.take_key.new.names) (ap (λ w. names ++ w ∷ []) name ∙ sym added) (c.in-Ok.ensures.taken names i.taken c.if-not-new.false);
      wrong = value_names_next names _ v _ _ _ r i.wrong new added;
      distinct = subst AreDistinct (sym added) (distinct_push bytes_eq names v.name.items new i.distinct);
    }

pub returns-then-not-new-clause-wrong : goal.returns-then-not-new-clause-wrong
returns-then-not-new-clause-wrong c =
    let names = map (λ (w : VariantV). w.name) (map variant_of (take c.variants.variant-index c.args.variants.now)) in
    let r = drop_next c.args.variants.now c.variants.variant-index c.variant-item.result c.variants-test.true c.variant-item.is in
    rw c.wrong.ensures (value_name_stops names _ c.variant-item.result _ _ r c.variants.invariant.wrong
    (ap (is_in names) (sym c.deref.ensures.value) ∙ name_used _ _ c.if-not-new.true (c.in-Ok.ensures.new names c.variants.invariant.taken)))

pub returns-clause-distinct : goal.returns-clause-distinct
returns-clause-distinct c =
    let t = take_all c.variants.variant-index c.args.variants.now c.variants-test.false in
    rw t at c.variants.invariant.distinct

pub returns-clause-wrong : goal.returns-clause-wrong
returns-clause-wrong c =
    let d = drop_all c.variants.variant-index c.args.variants.now c.variants-test.false in
    sym (rw d at c.variants.invariant.wrong)
