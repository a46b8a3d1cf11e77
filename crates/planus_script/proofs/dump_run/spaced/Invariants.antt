use Rattle.std.proofs.Common.{◌≡◌, length}
use Rattle.planus_script.specs.DumpRuns.{spaced_bytes}
use Rattle.planus_script.proofs.Lists.{bytes_before}
use Rattle.planus_script.proofs.dump_run.spaced.Given as goal

abbrev pub invariant-loop-rest : goal.invariant-loop-rest
invariant-loop-rest l = bytes_before l.bytes.items (spaced_bytes l.rest) ≡ spaced_bytes l.line

abbrev pub decreases-loop-rest : goal.decreases-loop-rest
decreases-loop-rest l = length l.rest
