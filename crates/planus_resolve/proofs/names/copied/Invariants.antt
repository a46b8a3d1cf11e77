use Rattle.std.proofs.Common.{◌≡◌, take}
use Rattle.planus_schema.specs.Distinct.{items_of}
use Rattle.planus_resolve.proofs.names.copied.Given as goal

abbrev pub invariant-words : goal.invariant-words
invariant-words l = items_of l.out.items ≡ items_of (take l.word-index l.words)
