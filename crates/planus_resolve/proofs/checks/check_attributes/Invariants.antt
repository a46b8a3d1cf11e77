use Rattle.std.proofs.Common.{◌≡◌, drop}
use Rattle.planus_resolve.specs.WrongServices.{wrong_attributes}
use Rattle.planus_resolve.proofs.checks.check_attributes.Given as goal

abbrev pub invariant-attributes : goal.invariant-attributes
invariant-attributes l = wrong_attributes l.known (drop l.attribute-index l.attributes)
    ≡ wrong_attributes l.known l.attributes
