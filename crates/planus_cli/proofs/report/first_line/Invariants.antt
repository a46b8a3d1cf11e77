use Rattle.std.proofs.Common.{◌≡◌, ◌≤◌, ◌+◌, ◌-◌, drop, length}
use Rattle.std.specs.List.{position_or_len}
use Rattle.planus_cli.specs.Reports.{ends_line}
use Rattle.planus_cli.proofs.report.first_line.Given as goal

abbrev pub invariant-bytes : goal.invariant-bytes
invariant-bytes l = record {
  end : position_or_len ends_line l.bytes ≡ l.n + position_or_len ends_line (drop l.n l.bytes);
  within : l.n ≤ length l.bytes;
}

abbrev pub decreases-bytes : goal.decreases-bytes
decreases-bytes l = length l.bytes - l.n
