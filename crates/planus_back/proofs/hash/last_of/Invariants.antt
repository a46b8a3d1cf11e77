use Rattle.std.proofs.Common.{◌≡◌, drop}
use Rattle.planus_back.specs.Hashes.{number_on}
use Rattle.planus_back.proofs.hash.last_of.Given as goal

abbrev pub invariant-loop-byte : goal.invariant-loop-byte
invariant-loop-byte g l = number_on l.number (g.T.Byte.bytes_of (drop l.byte-index l.key)) ≡ number_on 0 (g.T.Byte.bytes_of l.key)
