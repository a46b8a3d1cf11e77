use Rattle.std.proofs.Common.{◌≡◌, ◌∷◌, ◌≤◌, length}
use Rattle.planus_syntax.specs.Values.{names_of}
use Rattle.planus_resolve.specs.Names.{found_from, group_of, is_sought, space_of}
use Rattle.planus_resolve.specs.inner.Scopes.{scope_heads}
use Rattle.planus_resolve.proofs.lookup.found_outwards.Given as goal

abbrev pub invariant-spaces : goal.invariant-spaces
invariant-spaces l = record {
  within : l.count ≤ length (space_of l.scope.space);
  rest : found_from (scope_heads l.scope) (is_sought (scope_heads l.scope) l.scope.begun l.full (group_of l.sought))
      (space_of l.scope.space) (l.first ∷ names_of l.more) l.count
      ≡ found_from (scope_heads l.scope) (is_sought (scope_heads l.scope) l.scope.begun l.full (group_of l.sought))
      (space_of l.scope.space) (l.first ∷ names_of l.more) (length (space_of l.scope.space));
}

abbrev pub decreases-spaces : goal.decreases-spaces
decreases-spaces l = l.count
