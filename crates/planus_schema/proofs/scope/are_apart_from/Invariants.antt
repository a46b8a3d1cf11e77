use Rattle.std.proofs.Common.{◌≡◌, length}
use Rattle.planus_schema.specs.Names.{are_apart_from}
use Rattle.planus_schema.proofs.scope.are_apart_from.Given as goal

abbrev pub invariant-names : goal.invariant-names
invariant-names l = are_apart_from l.others l.rest ≡ are_apart_from l.others l.names

abbrev pub decreases-names : goal.decreases-names
decreases-names l = length l.rest
