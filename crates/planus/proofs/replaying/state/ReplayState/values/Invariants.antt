use Rattle.std.proofs.Common.{◌≡◌, take, map, Some, None}
use Rattle.planus.specs.Kinds.{a_value}
use Rattle.planus.specs.Runs.{all_of, value_at}
use Rattle.planus.specs.Replays.{first_fault}
use Rattle.planus.specs.inner.Replaying.{values_listed, name_fault}
use Rattle.planus.proofs.replaying.state.ReplayState.values.Given as goal

abbrev pub invariant-loop-step : goal.invariant-loop-step
invariant-loop-step l =
    (all_of (value_at (values_listed l.self)) (take l.step-index l.steps) ≡ Some (map (λ o. o.distance) l.offsets.items))
    × (first_fault (name_fault l.self a_value) (take l.step-index l.steps) ≡ None)
