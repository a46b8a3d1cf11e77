use Rattle.std.proofs.Common.{◌≡◌, length}
use Rattle.planus_pack.specs.Lookup as spec
use Rattle.planus_pack.proofs.lookup.union_typed.Given as goal

abbrev pub invariant-fields : goal.invariant-fields
invariant-fields l = spec.union_typed l.key l.rest ≡ spec.union_typed l.key l.fields

abbrev pub decreases-fields : goal.decreases-fields
decreases-fields l = length l.rest
