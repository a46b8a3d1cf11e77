use Rattle.std.proofs.Common.{◌≡◌, ◌++◌, drop}
use Rattle.planus_tie.specs.Holes.{chained}
use Rattle.planus_tie.proofs.holes.push_chained.Given as goal

abbrev pub invariant-loop-member : goal.invariant-loop-member
invariant-loop-member l =
    l.out.items ++ chained l.naming l.next l.head l.arm (drop l.member-index l.members)
    ≡ l.fn.out.items ++ chained l.naming l.next l.head l.arm l.members
