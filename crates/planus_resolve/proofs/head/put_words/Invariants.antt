use Rattle.std.proofs.Common.{◌≡◌, take}
use Rattle.std.specs.Prelude.{fold}
use Rattle.planus_syntax.specs.Values.{names_of}
use Rattle.planus_resolve.specs.Names.{with_word}
use Rattle.planus_resolve.proofs.head.put_words.Given as goal

abbrev pub invariant-words : goal.invariant-words
invariant-words l =
    l.out.items ≡ fold with_word l.fn.out.items (names_of (take l.word-index l.words))
