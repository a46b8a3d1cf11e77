use Rattle.std.proofs.Common.{ℕ, ◌<◌, ◌≤◌, ◌∷◌}
use Rattle.planus_back.specs.Promises.{Keep}
use Rattle.planus_back.specs.Padding.{promise_of}
use Rattle.planus_bench.specs.Pairs.{promises_of}
use Rattle.planus_bench.proofs.tests.plain_padding.can_stand.Given as goal

abbrev pub invariant-loop-length : goal.invariant-loop-length
invariant-loop-length l = (k : ℕ) → l.place ≤ k → k < l.length → Keep (promise_of l.place l.alignment ∷ promises_of l.promises) k → ⊥
