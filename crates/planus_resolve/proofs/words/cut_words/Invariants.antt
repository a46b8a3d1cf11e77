use Rattle.std.proofs.Common.{◌≡◌, ◌++◌, [], drop}
use Rattle.planus_syntax.specs.Values.{names_of}
use Rattle.planus_resolve.specs.Names.{cut_words}
use Rattle.planus_resolve.proofs.words.cut_words.Given as goal

abbrev pub invariant-bytes : goal.invariant-bytes
invariant-bytes l =
    names_of l.words.items ++ cut_words l.word.items (drop l.b-index l.text) ≡ cut_words [] l.text
