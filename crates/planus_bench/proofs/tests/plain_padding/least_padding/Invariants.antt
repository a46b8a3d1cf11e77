use Rattle.std.proofs.Common.{ℕ, ◌<◌}
use Rattle.planus_back.specs.Padding.{CanPad}
use Rattle.planus_bench.specs.Pairs.{promises_of}
use Rattle.planus_bench.proofs.tests.plain_padding.least_padding.Given as goal

abbrev pub invariant-loop-padding : goal.invariant-loop-padding
invariant-loop-padding l = (k : ℕ) → k < l.padding → CanPad l.len (promises_of l.promises) l.size l.alignment k → ⊥
