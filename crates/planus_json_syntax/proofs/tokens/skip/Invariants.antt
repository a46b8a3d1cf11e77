use Rattle.std.proofs.Common.{◌≡◌, ◌≤◌, length}
use Rattle.planus_json_syntax.specs.Tokens.{skip}
use Rattle.planus_json_syntax.proofs.tokens.skip.Given as goal

abbrev pub invariant-bytes : goal.invariant-bytes
invariant-bytes l = record {
  skips : skip l.rest ≡ skip l.bytes;
  shorter : length l.rest ≤ length l.bytes;
}

abbrev pub decreases-bytes : goal.decreases-bytes
decreases-bytes l = length l.rest
