use Rattle.std.proofs.Common.{◌∷◌, arith, ◌∙◌}
use Rattle.planus_syntax.specs.Values.{names_of}
use Rattle.planus_resolve.specs.Names.{group_of, is_sought, space_of}
use Rattle.planus_resolve.specs.inner.Scopes.{scope_heads}
use Rattle.planus_resolve.proofs.Lists.{further_out}
use Rattle.planus_resolve.proofs.lookup.found_outwards.Goals as goal

pub overflow_sub-count : goal.overflow_sub-count
overflow_sub-count c = omega arith

pub spaces-preserved : goal.spaces-preserved
spaces-preserved c = record {
  within = omega (arith, c.spaces.invariant.within);
  rest = further_out (scope_heads c.args.scope.now)
      (is_sought (scope_heads c.args.scope.now) c.args.scope.now.begun c.args.full.now (group_of c.args.sought))
      (space_of c.args.scope.now.space)
      (c.args.first.now ∷ names_of c.args.more.now) c.spaces.count _ (omega arith) c.in_default.is
      c.in-Ok.ensures ∙ c.spaces.invariant.rest;
}
