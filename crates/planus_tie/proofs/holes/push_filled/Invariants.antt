use Rattle.std.proofs.Common.{◌≡◌, ◌++◌, length}
use Rattle.planus_tie.specs.Holes.{filled, filled_from}
use Rattle.planus_tie.proofs.holes.push_filled.Given as goal

abbrev pub invariant-bytes : goal.invariant-bytes
invariant-bytes l = l.out.items ++ filled_from l.marked l.naming l.holes l.rest
    ≡ l.fn.out.items ++ filled l.naming l.holes l.text

abbrev pub decreases-bytes : goal.decreases-bytes
decreases-bytes l = length l.rest
