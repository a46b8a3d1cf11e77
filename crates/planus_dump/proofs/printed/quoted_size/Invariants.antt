use Rattle.std.proofs.Common.{◌≡◌, ◌+◌, length}
use Rattle.std.specs.Prelude.{min}
use Rattle.std.specs.List.{flat_map}
use Rattle.planus_dump.specs.Lines.{escaped}
use Rattle.planus_dump.proofs.printed.quoted_size.Given as goal

abbrev pub invariant-loop-c : goal.invariant-loop-c
invariant-loop-c l = l.size ≡ min (2 + length (flat_map escaped l.yielded)) 18446744073709551615
