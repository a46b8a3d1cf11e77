use Rattle.std.proofs.Common.{◌≡◌, drop}
use Rattle.planus_resolve.specs.WrongServices.{wrong_in_fields}
use Rattle.planus_resolve.proofs.checks.check_fields.Given as goal

abbrev pub invariant-fields : goal.invariant-fields
invariant-fields l = wrong_in_fields l.known (drop l.field-index l.fields)
    ≡ wrong_in_fields l.known l.fields
