use Rattle.std.proofs.Common.{◌≡◌, ◌+◌, ℕ, [], ◌∷◌, ◌++◌, map, take, drop, Some, refl, sym, ap, ◌∙◌, get_or, subst}
use Rattle.std.proofs.lemmas.List.{map_push, take_more}
use Rattle.planus_write.specs.Unions.{item_of}
use Rattle.planus.specs.Kinds.{a_value}
use Rattle.planus.specs.Runs.{union_of}
use Rattle.planus.specs.Replays.{first_fault, union_fault}
use Rattle.planus.specs.inner.Replaying.{values_listed, name_fault}
use Rattle.planus.proofs.Found.{fault_behind, none_more, around}
use Rattle.planus.proofs.Lists.{all_of_push}
use Rattle.planus.proofs.replaying.state.ReplayState.union_items.Goals as goal

pub returns-in-Err : goal.returns-in-Err
returns-in-Err c =
    let i = c.loop-item.item-index in
    let items = c.args.items.now in
    let item : ℕ × ℕ = get_or items i (0, 0) in
    let next : take (i + 1) items ≡ take i items ++ item ∷ [] = take_more items i (0, 0) c.loop-item-test.true in
    let fault : first_fault (union_fault (name_fault c.args.self.now a_value)) (take i items ++ item ∷ drop (i + 1) items) ≡ Some c.in-Err.why
    = fault_behind (union_fault (name_fault c.args.self.now a_value)) (take i items) item (drop (i + 1) items) c.in-Err.why c.loop-item.invariant.1 c.in-Err.ensures in
    rw c.bad_step.ensures (refl, subst (λ xs. first_fault (union_fault (name_fault c.args.self.now a_value)) xs ≡ Some c.in-Err.why) (around items i item next) fault)

pub loop-item-preserved : goal.loop-item-preserved
loop-item-preserved c =
    let i = c.loop-item.item-index in
    let items = c.args.items.now in
    let item : ℕ × ℕ = get_or items i (0, 0) in
    let next : take (i + 1) items ≡ take i items ++ item ∷ [] = take_more items i (0, 0) c.loop-item-test.true in (
      rw next
          (all_of_push (union_of (values_listed c.args.self.now)) (take i items) (map item_of c.loop-item.unions.items) item (item_of c.in-Ok.union) c.loop-item.invariant.0 c.in-Ok.ensures.0
          ∙ ap Some (sym (ap (map item_of) c.in_ok-push-in-Ok.ensures.items ∙ map_push item_of c.loop-item.unions.items c.in-Ok.union))),
      rw next (none_more (union_fault (name_fault c.args.self.now a_value)) (take i items) item c.loop-item.invariant.1 c.in-Ok.ensures.1),
    )
