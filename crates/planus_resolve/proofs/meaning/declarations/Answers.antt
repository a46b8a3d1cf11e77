use Rattle.std.proofs.Common.{◌≡◌, ◌<◌, ◌+◌, ◌++◌, [], length, get_or, map, take, drop, ap, sym, ◌∙◌, subst}
use Rattle.std.proofs.lemmas.List.{take_all, drop_all}
use Rattle.planus_resolve.specs.Schemas.{AreDeclared}
use Rattle.planus_resolve.specs.WrongStructs.{measures_of}
use Rattle.planus_resolve.specs.Faults.{first_twenty, placed_of, body_faults}
use Rattle.planus_resolve.proofs.FaultLemmas.{adds_none, adds_next}
use Rattle.planus_resolve.specs.Names.{head_of}
use Rattle.planus_resolve.proofs.StructLemmas.{map_next, drop_next}
use Rattle.planus_resolve.proofs.SchemaLemmas.{declared_push}
use Rattle.planus_resolve.proofs.meaning.declarations.Goals as goal

pub heads-preserved : goal.heads-preserved
heads-preserved c =
    let i = c.heads.invariant in
    let hs = c.args.heads.now in
    let n = c.heads.head-index in
    let h = c.head-item.result in
    let within : n < length hs = subst (λ xs. n < length xs) c.as_slice-head-items.ensures c.heads-test.true in
    let is : h ≡ get_or hs n h = subst (λ xs. h ≡ get_or xs n h) c.as_slice-head-items.ensures c.head-item.is in
    let t = map_next head_of hs n h within is in
    record {
      says = λ e. rw t (declared_push (map head_of hs) (map head_of (take n hs)) c.heads.declared.items c.add_declared.new.declared.items (head_of c.head-item.result)
          (i.says (c.in-Ok.ensures.kept e)) (c.in-Ok.ensures.says e));
      kept = λ e. i.kept (c.in-Ok.ensures.kept e);
      most = c.in-Ok.ensures.most;
      adds = ap (λ ms. first_twenty (c.add_declared.new.faults.items ++ body_faults (map head_of hs) ms (map placed_of (drop (n + 1) hs)))) c.in-Ok.ensures.measures
          ∙ adds_next c.heads.faults.items _ c.add_declared.new.faults.items _ _ c.in-Ok.ensures.adds
          (ap (λ hs'. first_twenty (c.heads.faults.items ++ body_faults (map head_of hs) (measures_of c.heads.declared.items) (map placed_of hs'))) (sym (drop_next hs n h within is)) ∙ i.adds);
    }

pub returns-clause-adds : goal.returns-clause-adds
returns-clause-adds c =
    let i = c.heads.invariant in
    let d : drop c.heads.head-index c.args.heads.now ≡ [] =
    subst (λ hs. drop c.heads.head-index hs ≡ []) c.as_slice-head-items.ensures (drop_all c.heads.head-index c.as_slice-head-items.result.now c.heads-test.false) in
    adds_none c.heads.faults.items i.most
    ∙ ap (λ hs. first_twenty (c.heads.faults.items ++ body_faults (map head_of c.args.heads.now) (measures_of c.heads.declared.items) (map placed_of hs))) (sym d) ∙ i.adds

pub returns-clause-says : goal.returns-clause-says
returns-clause-says c =
    let hs = c.args.heads.now in
    let t : take c.heads.head-index hs ≡ hs =
    subst (λ xs. take c.heads.head-index xs ≡ xs) c.as_slice-head-items.ensures (take_all c.heads.head-index c.as_slice-head-items.result.now c.heads-test.false) in
    λ none. subst (λ xs. AreDeclared (map head_of hs) (map head_of xs) c.heads.declared.items) t (c.heads.invariant.says none)

pub returns-clause-kept : goal.returns-clause-kept
returns-clause-kept c = c.heads.invariant.kept

pub returns-clause-most : goal.returns-clause-most
returns-clause-most c = c.heads.invariant.most
