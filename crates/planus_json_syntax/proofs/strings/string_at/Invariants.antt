use Rattle.std.proofs.Common.{◌≤◌, length}
use Rattle.planus_json_syntax.specs.Strings.{string_at}
use Rattle.planus_json_syntax.proofs.Contents.{GoesOn}
use Rattle.planus_json_syntax.proofs.strings.string_at.Given as goal

abbrev pub invariant-bytes : goal.invariant-bytes
invariant-bytes l = record {
  reads : GoesOn l.said.items l.rest (string_at l.bytes);
  shorter : length l.rest ≤ length l.bytes;
}

abbrev pub decreases-bytes : goal.decreases-bytes
decreases-bytes l = length l.rest
