use Rattle.std.proofs.Common.{◌≡◌, take}
use Rattle.planus_script.proofs.script.indexes.Given as goal

abbrev pub invariant-loop-number : goal.invariant-loop-number
invariant-loop-number l = l.indexes.items ≡ take l.number-index l.numbers
