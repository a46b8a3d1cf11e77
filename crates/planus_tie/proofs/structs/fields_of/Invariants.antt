use Rattle.std.proofs.Common.{◌≡◌, ◌++◌, ◌+◌, ◌≤◌, length}
use Rattle.planus_tie.specs.Structs.{fields_from}
use Rattle.planus_tie.proofs.structs.fields_of.Given as goal

abbrev pub invariant-fields : goal.invariant-fields
invariant-fields l = record {
  place : l.place + length l.rest ≤ length l.one.fields.items;
  rest : l.fields.items ++ fields_from l.index l.one.size l.place l.rest
      ≡ fields_from l.index l.one.size 0 l.one.fields.items;
}

abbrev pub decreases-fields : goal.decreases-fields
decreases-fields l = length l.rest
