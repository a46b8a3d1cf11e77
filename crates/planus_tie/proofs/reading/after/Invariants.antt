use Rattle.std.proofs.Common.{◌≡◌, length}
use Rattle.planus_tie.specs.Reading.{after}
use Rattle.planus_tie.proofs.reading.after.Given as goal

abbrev pub invariant-bytes : goal.invariant-bytes
invariant-bytes l = after l.mark l.rest ≡ after l.mark l.text

abbrev pub decreases-bytes : goal.decreases-bytes
decreases-bytes l = length l.rest
