use Rattle.std.proofs.Common.{◌≡◌, ◌++◌, length}
use Rattle.planus_cli.specs.Shown.{shown, shown_from}
use Rattle.planus_cli.proofs.shown.put_shown.Given as goal

abbrev pub invariant-bytes : goal.invariant-bytes
invariant-bytes l = l.out.items ++ shown_from l.kept l.rest ≡ l.fn.out.items ++ shown l.bytes

abbrev pub decreases-bytes : goal.decreases-bytes
decreases-bytes l = length l.rest
