use Rattle.std.proofs.Common.{◌≡◌, map, take}
use Rattle.std.specs.String.{string_bytes}
use Rattle.planus_inspect.specs.Shown.{value_shown}
use Rattle.planus_inspect.proofs.enums.values_of.Given as goal

abbrev pub invariant-loop-value : goal.invariant-loop-value
invariant-loop-value l = map (λ value. (value.0, string_bytes value.1)) l.shown.items ≡ map (value_shown l.scalar) (take l.value-index l.values)
