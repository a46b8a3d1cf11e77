use Rattle.std.proofs.Common.{◌≡◌, ◌++◌, length}
use Rattle.planus_tie.specs.Wanted.{letters_of}
use Rattle.planus_tie.proofs.spelling.letters_of.Given as goal

abbrev pub invariant-bytes : goal.invariant-bytes
invariant-bytes l = l.letters.items ++ letters_of l.rest ≡ letters_of l.name

abbrev pub decreases-bytes : goal.decreases-bytes
decreases-bytes l = length l.rest
