use Rattle.std.proofs.Common.{◌≡◌, length}
use Rattle.std.specs.Prelude.{◌==◌}
use Rattle.std.specs.List.{list_any}
use Rattle.planus_resolve.proofs.waiting.has_dot.Given as goal

abbrev pub invariant-bytes : goal.invariant-bytes
invariant-bytes l = list_any (λ b. b == 46) l.rest ≡ list_any (λ b. b == 46) l.word

abbrev pub decreases-bytes : goal.decreases-bytes
decreases-bytes l = length l.rest
