use Rattle.std.proofs.Common.{◌≡◌, ◌≤◌, length, false}
use Rattle.planus_json_syntax.specs.Tokens.{block}
use Rattle.planus_json_syntax.proofs.tokens.block_at.Given as goal

abbrev pub invariant-bytes : goal.invariant-bytes
invariant-bytes l = record {
  skips : block l.starred l.rest ≡ block false l.bytes;
  shorter : length l.rest ≤ length l.bytes;
}

abbrev pub decreases-bytes : goal.decreases-bytes
decreases-bytes l = length l.rest
