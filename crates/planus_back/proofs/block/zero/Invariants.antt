use Rattle.std.specs.Prelude.{◌≡◌, ◌+◌, ◌≤◌, ◌-◌, ◌++◌, take, drop, replicate, false}
use Rattle.core.specs.Mem.Slots.{SamePlaces, slots_filled, slots_items}
use Rattle.core.specs.Mem.Slots.Ownership.{Filled, SameOutside}
use Rattle.planus_back.proofs.block.zero.Given as goal

abbrev pub invariant-loop-i : goal.invariant-loop-i
invariant-loop-i l = let now = l.places in let then = l.initial.places in
    SamePlaces then now
    × (slots_items now ≡ take l.at (slots_items then) ++ (replicate l.i 0 ++ drop (l.at + l.i) (slots_items then)))
    × Filled (slots_filled now) l.at (l.at + l.i)
    × SameOutside false (slots_filled then) (slots_filled now) l.at (l.at + l.i)
    × (l.i ≤ l.n)

abbrev pub decreases-loop-i : goal.decreases-loop-i
decreases-loop-i l = l.n - l.i
