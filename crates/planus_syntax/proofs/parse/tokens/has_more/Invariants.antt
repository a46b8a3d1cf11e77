use Rattle.std.proofs.Common.{◌≡◌, length}
use Rattle.planus_syntax.specs.Tokens.{pieces_of}
use Rattle.planus_syntax.specs.Reading.{has_more}
use Rattle.planus_syntax.proofs.parse.tokens.has_more.Given as goal

abbrev pub invariant-tokens : goal.invariant-tokens
invariant-tokens l = has_more (pieces_of l.rest) ≡ has_more (pieces_of l.tokens)

abbrev pub decreases-tokens : goal.decreases-tokens
decreases-tokens l = length l.rest
