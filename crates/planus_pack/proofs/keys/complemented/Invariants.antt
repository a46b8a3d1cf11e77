use Rattle.std.proofs.Common.{◌≡◌, ◌++◌, length, map}
use Rattle.planus_pack.specs.Keys as spec
use Rattle.planus_pack.proofs.keys.complemented.Given as goal

abbrev pub invariant-bytes : goal.invariant-bytes
invariant-bytes l = l.all.items ++ map spec.complement l.rest ≡ map spec.complement l.bytes

abbrev pub decreases-bytes : goal.decreases-bytes
decreases-bytes l = length l.rest
