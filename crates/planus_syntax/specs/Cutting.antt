-- One token off the front of a text.
use Rattle.std.specs.Prelude.{◌≡◌, ℕ, Bool, true, false, List, [], ◌∷◌, ◌++◌, Option, Some, None}
use Rattle.std.specs.Prelude.{Result, Ok, Err, length, if◌then◌else◌}
use Rattle.std.specs.List.{list_all}
use Rattle.std.specs.Borrow.{Bor}
use Rattle.planus_syntax.specs.declared.lexer.LexFault.{LexFault}
use Rattle.planus_syntax.specs.declared.lexer.LexFault.TheVariants.{OpenString}
use Rattle.planus_syntax.specs.declared.lexer.PlacedFault.{PlacedFault}
use Rattle.planus_syntax.specs.declared.token.Lexeme.{Lexeme}
use Rattle.planus_syntax.specs.declared.token.Lexeme.TheVariants as token
use Rattle.planus_syntax.specs.declared.run.Run.{Run}
use Rattle.planus_syntax.specs.declared.run.Run.TheVariants as run
use Rattle.planus_syntax.specs.Tokens.{Piece, word, number, text, doc, mark, begins}
use Rattle.planus_syntax.specs.Spelled.{Part, token, part_bytes, is_part, goes_on, tokens_in}
use Rattle.planus_syntax.specs.Spelled.{stays_open}
use Rattle.planus_syntax.specs.Tokens.{is_word_byte, is_number_byte, is_line_byte}
use Rattle.planus_syntax.specs.Strings.{string_step, is_closed, is_wrong}
use Rattle.planus_syntax.specs.declared.strings.StringState.{StringState}
use Rattle.planus_syntax.specs.Lexing.{Read, with_front, lex_of, string_fault}

abbrev pub cut_piece : Lexeme → Piece
cut_piece (token.Word w) = word w.now
cut_piece (token.Number w) = number w.now
cut_piece (token.Text w) = text w.now
cut_piece (token.Doc w) = doc w.now
cut_piece (token.Mark b) = mark b

abbrev pub in_run : Run → ℕ → Bool
in_run run.Word = is_word_byte
in_run run.Number = is_number_byte
in_run run.Line = is_line_byte

-- a front whose bytes all pass, and the rest, whose first byte does not
pub record Splits (p : ℕ → Bool) (bytes front rest : List ℕ) : Type 0 where
  pub whole : bytes ≡ front ++ rest
  pub each : list_all p front ≡ true
  pub stops : begins p rest ≡ false

-- a part at the front, which the rest does not lengthen
pub record Leads (bytes : List ℕ) (p : Part) (rest : List ℕ) : Type 0 where
  pub whole : bytes ≡ part_bytes p ++ rest
  pub lawful : is_part p ≡ true
  pub stops : begins (goes_on p) rest ≡ false

-- this token, or a part that is none, before the rest
abbrev pub Starts : List ℕ → Option Lexeme → List ℕ → Type 0
Starts bytes None rest = (p : Part) × (tokens_in (p ∷ []) ≡ []) × Leads bytes p rest
Starts bytes (Some t) rest = Leads bytes (token (cut_piece t)) rest

-- the rest follows the `*/` that ends a comment
abbrev pub Closes : List ℕ → List ℕ → Type 0
Closes bytes rest = (w : List ℕ) × (bytes ≡ w ++ 42 ∷ 47 ∷ rest) × (stays_open w ≡ true)

abbrev pub pieces_in : Option Lexeme → List Piece
pieces_in None = []
pieces_in (Some t) = cut_piece t ∷ []

-- the token at the front, if there is one, before the tokens of the rest
abbrev pub Cuts : List ℕ → Result (Option Lexeme × Bor (List ℕ)) PlacedFault → Type 0
Cuts bytes (Ok x) = lex_of bytes ≡ with_front (pieces_in x.0) (lex_of x.1.now)
Cuts bytes (Err placed) = lex_of bytes ≡ Err (placed.fault, placed.left)

-- what follows the closing quote of a string, or its error
abbrev pub string_end : ℕ → StringState → List ℕ → Result (List ℕ) (LexFault × ℕ)
string_end q s [] = Err (OpenString, 0)
string_end q s (b ∷ bs) =
    let next = string_step q s b in
    if is_closed next then Ok bs
    else if is_wrong next then Err (string_fault s b, length (b ∷ bs))
    else string_end q next bs

abbrev pub Ends : Result (List ℕ) (LexFault × ℕ) → Result (Bor (List ℕ)) PlacedFault → Type 0
Ends end (Ok rest) = end ≡ Ok rest.now
Ends end (Err placed) = end ≡ Err (placed.fault, placed.left)

-- a comment or documentation; `read` is what is read with it
abbrev pub Skips : Read → Result (Bor (List ℕ)) PlacedFault → Type 0
Skips read (Ok rest) = read ≡ lex_of rest.now
Skips read (Err placed) = read ≡ Err (placed.fault, placed.left)
