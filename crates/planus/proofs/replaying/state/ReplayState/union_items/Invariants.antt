use Rattle.std.proofs.Common.{◌≡◌, take, map, Some, None}
use Rattle.planus_write.specs.Unions.{item_of}
use Rattle.planus.specs.Kinds.{a_value}
use Rattle.planus.specs.Runs.{all_of, union_of}
use Rattle.planus.specs.Replays.{first_fault, union_fault}
use Rattle.planus.specs.inner.Replaying.{values_listed, name_fault}
use Rattle.planus.proofs.replaying.state.ReplayState.union_items.Given as goal

abbrev pub invariant-loop-item : goal.invariant-loop-item
invariant-loop-item l =
    (all_of (union_of (values_listed l.self)) (take l.item-index l.items) ≡ Some (map item_of l.unions.items))
    × (first_fault (union_fault (name_fault l.self a_value)) (take l.item-index l.items) ≡ None)
