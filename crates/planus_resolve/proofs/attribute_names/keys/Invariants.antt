use Rattle.std.proofs.Common.{take}
use Rattle.planus_syntax.specs.Values.{names_of}
use Rattle.planus_resolve.specs.inner.Index.{IsTaken}
use Rattle.planus_resolve.proofs.attribute_names.keys.Given as goal

abbrev pub invariant-names : goal.invariant-names
invariant-names l = IsTaken l.taken (names_of (take l.name-index l.list))
