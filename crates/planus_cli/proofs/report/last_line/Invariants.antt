use Rattle.std.proofs.Common.{◌≡◌, ◌≤◌, ◌+◌, length}
use Rattle.std.specs.Prelude.{count_by}
use Rattle.planus_cli.specs.Reports.{after_last_feed, is_feed, last_line}
use Rattle.planus_cli.proofs.report.last_line.Given as goal

abbrev pub invariant-bytes : goal.invariant-bytes
invariant-bytes l = record {
  feeds : l.feeds + count_by is_feed l.rest ≡ count_by is_feed l.bytes;
  line : after_last_feed l.front l.rest ≡ last_line l.bytes;
  bound : l.feeds + length l.rest ≤ length l.bytes;
  front : length l.front ≤ length l.bytes;
}

abbrev pub decreases-bytes : goal.decreases-bytes
decreases-bytes l = length l.rest
