use Rattle.std.proofs.Common.{◌≡◌, ◌≤◌, length}
use Rattle.std.specs.Path.{rfind_below}
use Rattle.planus_cli.proofs.include.folder_length.Given as goal

abbrev pub invariant-bytes : goal.invariant-bytes
invariant-bytes l = record {
  within : l.n ≤ length l.name;
  rest : rfind_below 47 l.name l.n ≡ rfind_below 47 l.name (length l.name);
}

abbrev pub decreases-bytes : goal.decreases-bytes
decreases-bytes l = l.n
