use Rattle.std.proofs.Common.{◌≡◌, ◌++◌}
use Rattle.std.specs.List.{flat_map}
use Rattle.std.specs.String.{string_bytes}
use Rattle.planus_dump.specs.Lines.{escaped}
use Rattle.planus_dump.proofs.printed.push_all_escaped.Given as goal

abbrev pub invariant-loop-c : goal.invariant-loop-c
invariant-loop-c l = string_bytes l.quotation ≡ string_bytes l.initial.quotation ++ flat_map escaped l.yielded
