use Rattle.std.proofs.Common.{◌≡◌}
use Rattle.planus_pack.specs.Plain as spec
use Rattle.planus_pack.proofs.plain.push_zeros.Given as goal

abbrev pub invariant-zeros : goal.invariant-zeros
invariant-zeros l = spec.with_zeros l.left l.bytes.items ≡ spec.with_zeros l.count l.fn.bytes.items

abbrev pub decreases-zeros : goal.decreases-zeros
decreases-zeros l = l.left
