use Rattle.std.proofs.Common.{◌≡◌, ◌++◌, length}
use Rattle.planus_tie.specs.Bare.{bare, bare_from}
use Rattle.planus_tie.proofs.bare.bare.Given as goal

abbrev pub invariant-bytes : goal.invariant-bytes
invariant-bytes l =
    l.out.items ++ bare_from l.before.comment l.before.last l.before.gap l.rest ≡ bare l.text

abbrev pub decreases-bytes : goal.decreases-bytes
decreases-bytes l = length l.rest
