use Rattle.std.proofs.Common.{◌≡◌, take}
use Rattle.std.specs.Prelude.{Some}
use Rattle.planus_syntax.specs.Values.{names_of, enumeration_of}
use Rattle.planus_resolve.specs.Defaults.{flags_named}
use Rattle.planus_resolve.proofs.defaults.flags_named.Given as goal

abbrev pub invariant-words : goal.invariant-words
invariant-words l =
    flags_named (enumeration_of l.declared) (names_of (take l.word-index l.words)) ≡ Some l.total
