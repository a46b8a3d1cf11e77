use Rattle.std.proofs.Common.{◌≡◌, ◌++◌, map, drop}
use Rattle.planus_resolve.specs.Uses.{spot_of, event_of, methods_used}
use Rattle.planus_resolve.proofs.uses.put_methods.Given as goal

abbrev pub invariant-methods : goal.invariant-methods
invariant-methods l = map event_of l.out.items ++ methods_used (spot_of l.spot) (drop l.method-index l.methods)
    ≡ map event_of l.fn.out.items ++ methods_used (spot_of l.spot) l.methods
