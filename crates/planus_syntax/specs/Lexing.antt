-- The tokens of a text: a machine that takes a byte at a time.
use Rattle.std.specs.Prelude.{◌≡◌, ℕ, ◌==◌, ◌+◌, List, [], ◌∷◌, ◌++◌, length, if◌then◌else◌, Result}
use Rattle.std.specs.Prelude.{Ok, Err, not}
use Rattle.std.specs.Global.{Vec}
use Rattle.std.specs.Char.{is_ascii_digit}
use Rattle.std.specs.Str.{is_utf8}
use Rattle.planus_syntax.specs.declared.lexer.LexFault.{LexFault}
use Rattle.planus_syntax.specs.declared.lexer.LexFault.TheVariants.{BadNumber, OpenString, Escape}
use Rattle.planus_syntax.specs.declared.lexer.LexFault.TheVariants.{OpenComment, Strange}
use Rattle.planus_syntax.specs.declared.lexer.LexFault.TheVariants.{Control, NotUtf8}
use Rattle.planus_syntax.specs.declared.lexer.LexError.{LexError}
use Rattle.planus_syntax.specs.declared.lexer.LexError.TheVariants as errors
use Rattle.planus_syntax.specs.declared.token.Token.{Token}
use Rattle.planus_syntax.specs.Tokens.{Piece, word, number, text, doc, mark, pieces_of}
use Rattle.planus_syntax.specs.Tokens.{is_word_byte, is_number_start, is_number_byte, is_number}
use Rattle.planus_syntax.specs.Tokens.{is_blank, is_mark}
use Rattle.planus_syntax.specs.Strings.{is_quote, string_step, is_closed, is_wrong}
use Rattle.planus_syntax.specs.Strings.{start, is_nothing}
use Rattle.planus_syntax.specs.declared.strings.StringState.{StringState}
use Rattle.planus_syntax.specs.declared.strings.StringState.TheVariants as string

-- between tokens; in a word, a number, a string or documentation, with the bytes so far, of a string
-- also with its quote and its state; after a point, which begins a number or is a mark; after one or
-- two slashes; in a comment to the end of the line; in a comment to `*/`, and there after a `*`
pub data LexState : Type 0 where
  between : LexState
  run : List ℕ → LexState
  figures : List ℕ → LexState
  point : LexState
  quoted : ℕ → StringState → List ℕ → LexState
  slash : LexState
  slashes : LexState
  comment : LexState
  documented : List ℕ → LexState
  block : LexState
  starred : LexState

-- the tokens that a byte completes, and the next state
abbrev pub Step : Type 0
Step = Result (List Piece × LexState) LexFault

abbrev pub number_piece : List ℕ → Result Piece LexFault
number_piece w = if is_number w then Ok (number w) else Err BadNumber

abbrev pub text_piece : List ℕ → Result Piece LexFault
text_piece w = if is_utf8 w then Ok (text w) else Err NotUtf8

abbrev pub opened : ℕ → Step
opened b =
    if is_number_start b then Ok ([], figures (b ∷ []))
    else if is_word_byte b then Ok ([], run (b ∷ []))
    else if is_blank b then Ok ([], between)
    else if b == 46 then Ok ([], point)
    else if is_mark b then Ok (mark b ∷ [], between)
    else if is_quote b then Ok ([], quoted b start (b ∷ []))
    else if b == 47 then Ok ([], slash)
    else Err Strange

abbrev pub in_front : Piece → Step → Step
in_front p (Ok x) = Ok (p ∷ x.0, x.1)
in_front p (Err f) = Err f

abbrev pub closed : Result Piece LexFault → Step → Step
closed (Ok p) next = in_front p next
closed (Err f) next = Err f

-- why a string does not go on
abbrev pub string_fault : StringState → ℕ → LexFault
string_fault (string.Plain due) b =
    if not (is_nothing due) then Escape else if b == 10 then OpenString else Control
string_fault (string.Escape due) b = Escape
string_fault (string.HexMark due) b = Escape
string_fault (string.HexDigit due value) b = Escape
string_fault (string.Digits high left value) b = Escape
string_fault string.End b = Escape
string_fault string.Wrong b = Escape

-- the bytes `w` of a string with the byte that leads to the state `next`
abbrev pub in_string : ℕ → List ℕ → LexFault → StringState → Step
in_string q w fault next =
    if is_closed next then closed (text_piece w) (Ok ([], between))
    else if is_wrong next then Err fault
    else Ok ([], quoted q next w)

abbrev pub step : LexState → ℕ → Step
step between b = opened b
step (run w) b =
    if is_word_byte b then Ok ([], run (w ++ b ∷ [])) else closed (Ok (word w)) (opened b)
step (figures w) b =
    if is_number_byte b then Ok ([], figures (w ++ b ∷ [])) else closed (number_piece w) (opened b)
step point b =
    if is_ascii_digit b then Ok ([], figures (46 ∷ b ∷ [])) else closed (Ok (mark 46)) (opened b)
step (quoted q s w) b = in_string q (w ++ b ∷ []) (string_fault s b) (string_step q s b)
step slash b =
    if b == 47 then Ok ([], slashes) else if b == 42 then Ok ([], block) else Err Strange
step slashes b =
    if b == 47 then Ok ([], documented [])
    else if b == 10 then Ok ([], between)
    else Ok ([], comment)
step comment b = if b == 10 then Ok ([], between) else Ok ([], comment)
step (documented w) b =
    if b == 10 then Ok (doc w ∷ [], between) else Ok ([], documented (w ++ b ∷ []))
step block b = if b == 42 then Ok ([], starred) else Ok ([], block)
step starred b =
    if b == 47 then Ok ([], between)
    else if b == 42 then Ok ([], starred)
    else Ok ([], block)

-- at the end of the text
abbrev pub finished : LexState → Step
finished between = Ok ([], between)
finished (run w) = Ok (word w ∷ [], between)
finished (figures w) = closed (number_piece w) (Ok ([], between))
finished point = Ok (mark 46 ∷ [], between)
finished (quoted q s w) = Err OpenString
finished slash = Err Strange
finished slashes = Ok ([], between)
finished comment = Ok ([], between)
finished (documented w) = Ok (doc w ∷ [], between)
finished block = Err OpenComment
finished starred = Err OpenComment

-- the tokens, or the first error and how many bytes are left there
abbrev pub Read : Type 0
Read = Result (List Piece) (LexFault × ℕ)

abbrev pub with_front : List Piece → Read → Read
with_front front (Ok ps) = Ok (front ++ ps)
with_front front (Err e) = Err e

abbrev pub going : ℕ → Step → (LexState → Read) → Read
going left (Ok x) more = with_front x.0 (more x.1)
going left (Err f) more = Err (f, left)

abbrev pub lex_from : LexState → List ℕ → Read
lex_from s [] = going 0 (finished s) (λ _. Ok [])
lex_from s (b ∷ bs) = going (length (b ∷ bs)) (step s b) (λ next. lex_from next bs)

abbrev pub lex_of : List ℕ → Read
lex_of bytes = lex_from between bytes

-- the result for a text of this length
abbrev pub AnswersLex : ℕ → Result (Vec Token) LexError → Read → Type 0
AnswersLex len (Ok tokens) read = read ≡ Ok (pieces_of tokens.items)
AnswersLex len (Err errors.OutOfMemory) read = Unit {0}
AnswersLex len (Err (errors.Fault fault at)) read =
    (left : ℕ) × (read ≡ Err (fault, left)) × (at + left ≡ len)
