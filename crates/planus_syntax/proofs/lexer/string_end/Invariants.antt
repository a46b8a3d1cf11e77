use Rattle.std.proofs.Common.{◌≡◌, length}
use Rattle.planus_syntax.specs.Cutting.{string_end}
use Rattle.planus_syntax.specs.Strings.{start}
use Rattle.planus_syntax.proofs.lexer.string_end.Given as goal

abbrev pub invariant-bytes : goal.invariant-bytes
invariant-bytes l = string_end l.quote l.state l.rest ≡ string_end l.quote start l.bytes

abbrev pub decreases-bytes : goal.decreases-bytes
decreases-bytes l = length l.rest
