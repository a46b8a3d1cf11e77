use Rattle.std.proofs.Common.{◌≡◌, ◌++◌, drop}
use Rattle.planus_syntax.specs.Values.{names_of}
use Rattle.planus_resolve.specs.WrongServices.{customs_in}
use Rattle.planus_resolve.proofs.checks.add_customs.Given as goal

abbrev pub invariant-declarations : goal.invariant-declarations
invariant-declarations l = names_of l.known.items ++ customs_in (drop l.declaration-index l.declarations)
    ≡ names_of l.fn.known.items ++ customs_in l.declarations
