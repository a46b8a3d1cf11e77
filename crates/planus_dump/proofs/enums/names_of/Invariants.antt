use Rattle.std.proofs.Common.{◌≡◌, drop}
use Rattle.std.specs.String.{string_bytes}
use Rattle.planus_dump.specs.Lines.{names_text}
use Rattle.planus_dump.specs.Events.{names_in}
use Rattle.planus_dump.proofs.Names.{closed}
use Rattle.planus_dump.proofs.enums.names_of.Given as goal

abbrev pub invariant-loop-value : goal.invariant-loop-value
invariant-loop-value l = closed (string_bytes l.text) (names_in l.shape.flags l.number (drop l.value-index l.shape.values.items)) ≡ names_text (names_in l.shape.flags l.number l.shape.values.items)
