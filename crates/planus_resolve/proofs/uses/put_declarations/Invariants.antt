use Rattle.std.proofs.Common.{◌≡◌, ◌++◌, map, drop}
use Rattle.std.specs.Prelude.{None}
use Rattle.planus_resolve.specs.Names.{path_in}
use Rattle.planus_resolve.specs.Uses.{event_of, declarations_used}
use Rattle.planus_resolve.proofs.uses.put_declarations.Given as goal

abbrev pub invariant-declarations : goal.invariant-declarations
invariant-declarations l =
    map event_of l.out.items ++ declarations_used l.file (path_in l.space)
    (drop l.declaration-index l.declarations)
    ≡ map event_of l.fn.out.items ++ declarations_used l.file None l.declarations
