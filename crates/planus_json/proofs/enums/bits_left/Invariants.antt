use Rattle.std.proofs.Common.{◌≡◌, drop}
use Rattle.planus_json.specs.Trees.{bits_left}
use Rattle.planus_json.proofs.enums.bits_left.Given as goal

abbrev pub invariant-loop-value : goal.invariant-loop-value
invariant-loop-value l = bits_left l.number l.left (drop l.value-index l.shape.values.items) ≡ bits_left l.number l.number l.shape.values.items
