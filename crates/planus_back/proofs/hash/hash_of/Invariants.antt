use Rattle.std.proofs.Common.{◌≡◌, ◌/◌, length}
use Rattle.planus_back.specs.Hashes.{last_number, hash_on, hash_of}
use Rattle.planus_back.proofs.hash.hash_of.Given as goal

abbrev pub invariant-loop-first : goal.invariant-loop-first
invariant-loop-first g l =
    let bytes_of = g.T.Byte.bytes_of in
    hash_on (length (bytes_of l.rest) / 16) l.one l.two (last_number (bytes_of l.key)) (bytes_of l.rest) ≡ hash_of (bytes_of l.key)

abbrev pub decreases-loop-first : goal.decreases-loop-first
decreases-loop-first g l = length (g.T.Byte.bytes_of l.rest)
