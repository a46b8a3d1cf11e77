use Rattle.std.proofs.Common.{◌≡◌, ◌++◌, length, drop}
use Rattle.planus_syntax.specs.Strings.{start, text_from}
use Rattle.planus_syntax.proofs.strings.string_text.Given as goal

abbrev pub invariant-bytes : goal.invariant-bytes
invariant-bytes l =
    l.out.items ++ text_from l.quote l.state l.rest ≡ text_from l.quote start (drop 1 l.string)

abbrev pub decreases-bytes : goal.decreases-bytes
decreases-bytes l = length l.rest
