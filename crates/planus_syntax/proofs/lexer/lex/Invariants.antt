use Rattle.std.proofs.Common.{◌≡◌, ◌≤◌, length}
use Rattle.planus_syntax.specs.Tokens.{pieces_of}
use Rattle.planus_syntax.specs.Lexing.{with_front, lex_of}
use Rattle.planus_syntax.proofs.lexer.lex.Given as goal

abbrev pub invariant-loop-rest : goal.invariant-loop-rest
invariant-loop-rest l = record {
  read : with_front (pieces_of l.tokens.items) (lex_of l.rest) ≡ lex_of l.text;
  shorter : length l.rest ≤ length l.text;
}

abbrev pub decreases-loop-rest : goal.decreases-loop-rest
decreases-loop-rest l = length l.rest
