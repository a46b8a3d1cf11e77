use Rattle.std.proofs.Common.{◌≡◌, length}
use Rattle.planus_schema.specs.Names.{are_scopes}
use Rattle.planus_schema.proofs.scope.are_scopes.Given as goal

abbrev pub invariant-scopes : goal.invariant-scopes
invariant-scopes l = are_scopes l.rest ≡ are_scopes l.scopes

abbrev pub decreases-scopes : goal.decreases-scopes
decreases-scopes l = length l.rest
