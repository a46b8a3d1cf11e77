use Rattle.std.proofs.Common.{◌≤◌, length, map}
use Rattle.planus_json_syntax.specs.Reading as spec
use Rattle.planus_json_syntax.specs.Values.{json_view}
use Rattle.planus_json_syntax.proofs.Lists.{MoreValues}
use Rattle.planus_json_syntax.proofs.text.values_at.Given as goal

abbrev pub invariant-values : goal.invariant-values
invariant-values l = record {
  reads : MoreValues l.len (map json_view l.values.items) l.rest (spec.values_at l.len l.bytes);
  shorter : length l.rest ≤ length l.bytes;
}

abbrev pub decreases-values : goal.decreases-values
decreases-values l = length l.rest
