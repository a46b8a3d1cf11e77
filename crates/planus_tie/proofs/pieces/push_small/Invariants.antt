use Rattle.std.proofs.Common.{◌≡◌, ◌++◌, map, take}
use Rattle.std.specs.Char.{to_ascii_lowercase}
use Rattle.planus_tie.proofs.pieces.push_small.Given as goal

abbrev pub invariant-loop-letter : goal.invariant-loop-letter
invariant-loop-letter l =
    l.out.items ≡ l.fn.out.items ++ map to_ascii_lowercase (take l.letter-index l.name)
