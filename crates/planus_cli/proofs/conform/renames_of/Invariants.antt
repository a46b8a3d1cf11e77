use Rattle.std.proofs.Common.{take, map}
use Rattle.planus_cli.specs.Conforming.{AreRenamesOf}
use Rattle.planus_cli.proofs.conform.renames_of.Given as goal

abbrev pub invariant-words : goal.invariant-words
invariant-words l = AreRenamesOf (map (λ w. w.now) (take l.word-index l.words)) l.renames.items
