use Rattle.std.proofs.Common.{◌≡◌, ◌+◌, length, map}
use Rattle.planus.specs.Steps.{bare_field}
use Rattle.planus_pack.specs.Fields as spec
use Rattle.planus_pack.proofs.fields.place_in.Given as goal

abbrev pub invariant-fields : goal.invariant-fields
invariant-fields l = record {
  place : l.place + spec.place_in l.alignment (map bare_field l.rest)
      ≡ spec.place_in l.alignment (map bare_field l.fields);
  within : l.place + length l.rest ≡ length l.fields;
}

abbrev pub decreases-fields : goal.decreases-fields
decreases-fields l = length l.rest
