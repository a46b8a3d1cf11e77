use Rattle.std.proofs.Common.{◌≡◌, ◌+◌, ℕ, [], ◌∷◌, ◌++◌, map, take, drop, Some, refl, sym, ap, ◌∙◌, get_or, subst}
use Rattle.std.specs.Option.{option_and_then}
use Rattle.std.proofs.lemmas.List.{map_push, take_more}
use Rattle.planus.specs.Kinds.{a_value}
use Rattle.planus.specs.Runs.{value_at, value_distance}
use Rattle.planus.specs.Replays.{first_fault}
use Rattle.planus.specs.inner.Replaying.{values_listed, name_fault}
use Rattle.planus.proofs.Found.{fault_behind, none_more, around}
use Rattle.planus.proofs.Lists.{all_of_push}
use Rattle.planus.proofs.replaying.state.ReplayState.values.Goals as goal

pub returns-in-Err : goal.returns-in-Err
returns-in-Err c =
    let i = c.loop-step.step-index in
    let steps = c.args.steps.now in
    let step : ℕ = get_or steps i 0 in
    let next : take (i + 1) steps ≡ take i steps ++ step ∷ [] = take_more steps i 0 c.loop-step-test.true in
    let fault : first_fault (name_fault c.args.self.now a_value) (take i steps ++ step ∷ drop (i + 1) steps) ≡ Some c.in-Err.why
    = fault_behind (name_fault c.args.self.now a_value) (take i steps) step (drop (i + 1) steps) c.in-Err.why c.loop-step.invariant.1 c.in-Err.ensures in
    rw c.bad_step.ensures (refl, subst (λ xs. first_fault (name_fault c.args.self.now a_value) xs ≡ Some c.in-Err.why) (around steps i step next) fault)

pub loop-step-preserved : goal.loop-step-preserved
loop-step-preserved c =
    let i = c.loop-step.step-index in
    let steps = c.args.steps.now in
    let step : ℕ = get_or steps i 0 in
    let next : take (i + 1) steps ≡ take i steps ++ step ∷ [] = take_more steps i 0 c.loop-step-test.true in
    let found : value_at (values_listed c.args.self.now) step ≡ Some c.in-Ok.offset.distance = ap (option_and_then value_distance) c.in-Ok.ensures.0 in (
      rw next
          (all_of_push (value_at (values_listed c.args.self.now)) (take i steps) (map (λ o. o.distance) c.loop-step.offsets.items) step c.in-Ok.offset.distance c.loop-step.invariant.0 found
          ∙ ap Some (sym (ap (map (λ o. o.distance)) c.in_ok-push-in-Ok.ensures.items ∙ map_push (λ o. o.distance) c.loop-step.offsets.items c.in-Ok.offset))),
      rw next (none_more (name_fault c.args.self.now a_value) (take i steps) step c.loop-step.invariant.1 c.in-Ok.ensures.1),
    )
