use Rattle.std.proofs.Common.{◌≡◌, ◌<◌, ◌++◌, [], length, get_or, map, take, drop, refl, sym, subst, ◌∙◌, ap, arith}
use Rattle.std.proofs.lemmas.List.{take_all, drop_all}
use Rattle.planus_schema.specs.Distinct.{AreDistinct}
use Rattle.planus_resolve.specs.Names.{HeadV, head_of}
use Rattle.planus_resolve.specs.Faults.{first_twenty, placed_of, name_faults}
use Rattle.planus_resolve.proofs.StructLemmas.{drop_next}
use Rattle.planus_resolve.proofs.FaultLemmas.{adds_none, adds_next}
use Rattle.std.specs.Prelude.{Some}
use Rattle.planus_schema.proofs.Lists.{distinct_none}
use Rattle.std.specs.Str.{bytes_eq}
use Rattle.planus_resolve.proofs.IndexLemmas.{first_is_new}
use Rattle.planus_resolve.proofs.meaning.check_names.Goals as goal

pub overflow_add-index : goal.overflow_add-index
overflow_add-index c = omega arith

pub heads-init : goal.heads-init
heads-init c = record {
  index = refl;
  distinct = λ _. distinct_none bytes_eq;
  kept = λ e. e;
  most = c.requires;
  adds = refl;
}

pub heads-preserved : goal.heads-preserved
heads-preserved c =
    let i = c.heads.invariant in
    let hs = c.args.heads.now in
    let n = c.heads.head-index in
    let h = c.head-item.result in
    let within : n < length hs = subst (λ xs. n < length xs) c.as_slice-head-items.ensures c.heads-test.true in
    let is : h ≡ get_or hs n h = subst (λ xs. h ≡ get_or xs n h) c.as_slice-head-items.ensures c.head-item.is in
    record {
      index = omega (arith, i.index);
      distinct = λ e. first_is_new hs n h within is (c.in-Ok.ensures.first e ∙ ap Some i.index)
          (i.distinct (c.in-Ok.ensures.kept e));
      kept = λ e. i.kept (c.in-Ok.ensures.kept e);
      most = c.in-Ok.ensures.most;
      adds = adds_next c.heads.faults.items _ c.check_name.new.faults.items _ _ c.in-Ok.ensures.adds
          (ap (λ hs'. first_twenty (c.heads.faults.items ++ name_faults (map head_of hs) c.heads.index (map placed_of hs'))) (sym (drop_next hs n h within is)) ∙ i.adds);
    }

pub returns-clause-adds : goal.returns-clause-adds
returns-clause-adds c =
    let i = c.heads.invariant in
    let d : drop c.heads.head-index c.args.heads.now ≡ [] = subst (λ hs. drop c.heads.head-index hs ≡ []) c.as_slice-head-items.ensures (drop_all c.heads.head-index c.as_slice-head-items.result.now c.heads-test.false) in
    adds_none c.heads.faults.items i.most
    ∙ ap (λ hs. first_twenty (c.heads.faults.items ++ name_faults (map head_of c.args.heads.now) c.heads.index (map placed_of hs))) (sym d) ∙ i.adds

pub returns-clause-distinct : goal.returns-clause-distinct
returns-clause-distinct c =
    let hs = c.args.heads.now in
    let t : take c.heads.head-index hs ≡ hs =
    subst (λ xs. take c.heads.head-index xs ≡ xs) c.as_slice-head-items.ensures (take_all c.heads.head-index c.as_slice-head-items.result.now c.heads-test.false) in
    λ none. subst (λ xs. AreDistinct (map (λ (h : HeadV). h.name) (map head_of xs))) t (c.heads.invariant.distinct none)
