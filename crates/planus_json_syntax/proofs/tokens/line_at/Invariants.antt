use Rattle.std.proofs.Common.{◌≡◌, ◌≤◌, length}
use Rattle.planus_json_syntax.specs.Tokens.{line}
use Rattle.planus_json_syntax.proofs.tokens.line_at.Given as goal

abbrev pub invariant-bytes : goal.invariant-bytes
invariant-bytes l = record {
  skips : line l.rest ≡ line l.bytes;
  shorter : length l.rest ≤ length l.bytes;
}

abbrev pub decreases-bytes : goal.decreases-bytes
decreases-bytes l = length l.rest
