use Rattle.std.proofs.Common.{◌≡◌, [], drop, map, take}
use Rattle.planus_resolve.specs.inner.Index.{IsTaken}
use Rattle.planus_resolve.specs.inner.Scopes.{scope_heads, scope_space}
use Rattle.planus_resolve.specs.WrongServices.{wrong_methods}
use Rattle.planus_resolve.proofs.checks.check_methods.Given as goal

abbrev pub invariant-methods : goal.invariant-methods
invariant-methods l = record {
  taken : IsTaken l.names (map (λ m. m.name.items) (take l.method-index l.methods));
  wrong : wrong_methods (scope_heads l.scope) (scope_space l.scope) l.known
      (map (λ m. m.name.items) (take l.method-index l.methods)) (drop l.method-index l.methods)
      ≡ wrong_methods (scope_heads l.scope) (scope_space l.scope) l.known [] l.methods;
}
