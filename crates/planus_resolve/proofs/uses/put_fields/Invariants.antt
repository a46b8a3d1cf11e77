use Rattle.std.proofs.Common.{◌≡◌, ◌++◌, map, drop}
use Rattle.planus_resolve.specs.Uses.{spot_of, event_of, fields_used}
use Rattle.planus_resolve.proofs.uses.put_fields.Given as goal

abbrev pub invariant-fields : goal.invariant-fields
invariant-fields l = map event_of l.out.items ++ fields_used (spot_of l.spot) (drop l.field-index l.fields)
    ≡ map event_of l.fn.out.items ++ fields_used (spot_of l.spot) l.fields
