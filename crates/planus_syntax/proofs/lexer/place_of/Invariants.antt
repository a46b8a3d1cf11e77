use Rattle.std.proofs.Common.{◌≡◌, ◌≤◌, ◌-◌, List, length, drop, Ok}
use Rattle.planus_syntax.specs.Tokens.{Piece}
use Rattle.planus_syntax.specs.Lexing.{lex_of}
use Rattle.planus_syntax.proofs.Placed.{Reaches}
use Rattle.planus_syntax.proofs.lexer.place_of.Given as goal

abbrev pub invariant-loop-rest : goal.invariant-loop-rest
invariant-loop-rest l = record {
  shorter : length l.rest ≤ length l.text;
  reached : Reaches l.text l.rest (l.index - l.left);
  counted : l.left ≤ l.index;
  tokens : (ps : List Piece) → lex_of l.text ≡ Ok ps → l.index ≤ length ps
      → lex_of l.rest ≡ Ok (drop (l.index - l.left) ps);
}

abbrev pub decreases-loop-rest : goal.decreases-loop-rest
decreases-loop-rest l = length l.rest
