use Rattle.std.proofs.Common.{◌≡◌, length}
use Rattle.planus_schema.specs.Names.{are_apart}
use Rattle.planus_schema.proofs.scope.are_apart.Given as goal

abbrev pub invariant-names : goal.invariant-names
invariant-names l = are_apart l.rest ≡ are_apart l.names

abbrev pub decreases-names : goal.decreases-names
decreases-names l = length l.rest
