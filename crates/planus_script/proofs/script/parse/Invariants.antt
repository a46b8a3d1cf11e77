use Rattle.std.proofs.Common.{◌≡◌, ◌+◌, ◌≤◌, length}
use Rattle.planus_script.specs.Asking.{AsksForLines}
use Rattle.planus_script.specs.Script.{script_of, read_lines, lines_of}
use Rattle.planus_script.specs.inner.Steps.{read_of}
use Rattle.planus_script.proofs.ReadOn.{onto_front, lines_left, size_left}
use Rattle.planus_script.proofs.script.parse.Given as goal

abbrev pub invariant-loop-rest : goal.invariant-loop-rest
invariant-loop-rest l = record {
  read : onto_front (read_of l.script) (read_lines (l.number + 1) (lines_left l.rest)) ≡ script_of l.input;
  asks : AsksForLines (lines_left l.rest) → AsksForLines (lines_of l.input);
  bound : l.number + size_left l.rest ≤ length l.input + 1;
}

abbrev pub decreases-loop-rest : goal.decreases-loop-rest
decreases-loop-rest l = size_left l.rest
