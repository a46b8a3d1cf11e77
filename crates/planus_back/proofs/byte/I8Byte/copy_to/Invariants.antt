use Rattle.std.proofs.Common.{◌≡◌, ◌-◌, ◌≤◌, ℤ, take, map, length}
use Rattle.std.specs.Int.{w8, cast_unsigned}
use Rattle.planus_back.proofs.byte.I8Byte.copy_to.Given as goal

abbrev pub invariant-loop-at : goal.invariant-loop-at
invariant-loop-at l = (l.at ≤ length l.bytes) × (length l.bytes ≡ length l.numbers) × (take l.at l.bytes ≡ map (λ (number : ℤ). cast_unsigned w8 number) (take l.at l.numbers))

abbrev pub decreases-loop-at : goal.decreases-loop-at
decreases-loop-at l = length l.bytes - l.at
