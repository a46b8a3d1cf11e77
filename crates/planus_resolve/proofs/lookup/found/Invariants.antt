use Rattle.std.proofs.Common.{◌≡◌, ◌∷◌, length, map}
use Rattle.planus_syntax.specs.Values.{names_of}
use Rattle.planus_resolve.specs.Names.{first_found, found, group_of, used_as}
use Rattle.planus_resolve.specs.inner.Scopes.{scope_heads, scope_space}
use Rattle.planus_resolve.proofs.lookup.found.Given as goal

abbrev pub invariant-order : goal.invariant-order
invariant-order l =
    first_found (scope_heads l.scope) (map group_of l.rest) (used_as l.wanted) (scope_space l.scope)
    (l.first ∷ names_of l.more)
    ≡ found (scope_heads l.scope) (used_as l.wanted) (scope_space l.scope) (l.first ∷ names_of l.more)

abbrev pub decreases-order : goal.decreases-order
decreases-order l = length l.rest
