use Rattle.std.proofs.Common.{◌≡◌, map, take}
use Rattle.std.specs.List.{flat_map}
use Rattle.std.specs.String.{string_bytes}
use Rattle.planus_script.specs.Printed.{hex_line}
use Rattle.planus.specs.Replays.{finish_given}
use Rattle.planus_script.proofs.print.finished_text.Given as goal

abbrev pub invariant-loop-finish : goal.invariant-loop-finish
invariant-loop-finish l = string_bytes l.text ≡ flat_map (λ finish. hex_line finish.bytes) (map finish_given (take l.finish-index l.finished))
