use Rattle.std.proofs.Common.{◌≡◌, drop}
use Rattle.std.specs.String.{string_bytes}
use Rattle.planus_dump.specs.Events.{names_in}
use Rattle.planus_json.specs.Trees.{spaced_names}
use Rattle.planus_json.proofs.Names.{closed}
use Rattle.planus_json.proofs.enums.spaced_names.Given as goal

abbrev pub invariant-loop-value : goal.invariant-loop-value
invariant-loop-value l = closed l.is_first (string_bytes l.text) (names_in l.shape.flags l.number (drop l.value-index l.shape.values.items)) ≡ spaced_names (names_in l.shape.flags l.number l.shape.values.items)
