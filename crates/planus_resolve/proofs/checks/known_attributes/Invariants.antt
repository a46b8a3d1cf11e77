use Rattle.std.proofs.Common.{◌≡◌, ◌++◌, drop}
use Rattle.planus_syntax.specs.Values.{names_of}
use Rattle.planus_resolve.specs.WrongServices.{customs_of, known_attributes}
use Rattle.planus_resolve.proofs.checks.known_attributes.Given as goal

abbrev pub invariant-files : goal.invariant-files
invariant-files l = names_of l.known.items ++ customs_of (drop l.declarations-index l.files)
    ≡ known_attributes l.files
