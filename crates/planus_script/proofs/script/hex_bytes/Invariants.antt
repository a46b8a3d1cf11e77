use Rattle.std.proofs.Common.{◌≡◌, ◌≤◌, length}
use Rattle.planus_script.specs.Script.{hex_bytes}
use Rattle.planus_script.proofs.Lists.{bytes_before}
use Rattle.planus_script.proofs.script.hex_bytes.Given as goal

abbrev pub invariant-loop-rest : goal.invariant-loop-rest
invariant-loop-rest l = record {
  read : bytes_before l.bytes.items (hex_bytes l.rest) ≡ hex_bytes l.digits;
  within : length l.rest ≤ length l.digits;
}

abbrev pub decreases-loop-rest : goal.decreases-loop-rest
decreases-loop-rest l = length l.rest
