use Rattle.std.specs.Prelude.{◌≡◌, map, take, length, ◌≤◌, vec_capacity}
use Rattle.planus_keys.proofs.sorted.put_offsets.Given as goal

abbrev pub invariant-loop-one : goal.invariant-loop-one
invariant-loop-one g l =
    (l.room.items ≡ map (λ one. one.1) (take l.one-index l.tables))
    × (length l.tables ≤ vec_capacity l.room)
