use Rattle.std.proofs.Common.{◌≡◌, length}
use Rattle.planus_syntax.specs.Tokens.{pieces_of}
use Rattle.planus_syntax.specs.Reading.{begins_closing}
use Rattle.planus_syntax.proofs.parse.tokens.begins_closing.Given as goal

abbrev pub invariant-tokens : goal.invariant-tokens
invariant-tokens l = begins_closing (pieces_of l.rest) ≡ begins_closing (pieces_of l.tokens)

abbrev pub decreases-tokens : goal.decreases-tokens
decreases-tokens l = length l.rest
