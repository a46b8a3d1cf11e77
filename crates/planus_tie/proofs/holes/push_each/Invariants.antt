use Rattle.std.proofs.Common.{◌≡◌, ◌++◌, drop}
use Rattle.planus_tie.specs.Holes.{each}
use Rattle.planus_tie.proofs.holes.push_each.Given as goal

abbrev pub invariant-loop-member : goal.invariant-loop-member
invariant-loop-member l = l.out.items ++ each l.naming l.text (drop l.member-index l.members)
    ≡ l.fn.out.items ++ each l.naming l.text l.members
