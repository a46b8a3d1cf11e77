use Rattle.std.proofs.Common.{◌≡◌, [], take}
use Rattle.std.specs.Prelude.{fold}
use Rattle.std.specs.String.{string_bytes}
use Rattle.planus_inspect.specs.Shown.{after_dot}
use Rattle.planus_inspect.proofs.names.last_word.Given as goal

abbrev pub invariant-loop-byte : goal.invariant-loop-byte
invariant-loop-byte l = string_bytes l.word ≡ fold after_dot [] (take l.byte-index l.name)
