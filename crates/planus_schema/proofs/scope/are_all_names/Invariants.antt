use Rattle.std.proofs.Common.{◌≡◌, length}
use Rattle.planus_schema.specs.Names.{are_all_names}
use Rattle.planus_schema.proofs.scope.are_all_names.Given as goal

abbrev pub invariant-names : goal.invariant-names
invariant-names l = are_all_names l.rest ≡ are_all_names l.names

abbrev pub decreases-names : goal.decreases-names
decreases-names l = length l.rest
