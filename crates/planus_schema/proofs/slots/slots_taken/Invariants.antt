use Rattle.std.proofs.Common.{◌≡◌, ◌++◌, drop}
use Rattle.planus_schema.specs.Slots.{slots_taken}
use Rattle.planus_schema.proofs.slots.slots_taken.Given as goal

abbrev pub invariant-fields : goal.invariant-fields
invariant-fields l =
    l.slots.items ++ slots_taken (drop l.field-index l.fields) ≡ slots_taken l.fields
