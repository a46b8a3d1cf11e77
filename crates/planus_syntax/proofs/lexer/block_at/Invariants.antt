use Rattle.std.proofs.Common.{◌≡◌, ◌≤◌, ℕ, List, length}
use Rattle.planus_syntax.specs.Lexing.{block, lex_from}
use Rattle.planus_syntax.specs.Cutting.{Closes}
use Rattle.planus_syntax.proofs.lexer.block_at.Given as goal

abbrev pub invariant-bytes : goal.invariant-bytes
invariant-bytes l = record {
  read : lex_from block l.rest ≡ lex_from block l.bytes;
  shorter : length l.rest ≤ length l.bytes;
  closes : (after : List ℕ) → Closes l.rest after → Closes l.bytes after;
}

abbrev pub decreases-bytes : goal.decreases-bytes
decreases-bytes l = length l.rest
