-- The tokens of a schema, and how each is written.
use Rattle.std.specs.Prelude.{ℕ, Bool, true, false, ◌==◌, ◌&&◌, ◌||◌, not, List, [], ◌∷◌, map}
use Rattle.std.specs.Prelude.{codes, if◌then◌else◌, fold}
use Rattle.std.specs.List.{list_all, list_any}
use Rattle.std.specs.Str.{str_eq_ignore_ascii_case, is_utf8}
use Rattle.std.specs.Char.{is_ascii_digit, is_ascii_alphabetic, is_ascii_hexdigit}
use Rattle.planus_syntax.specs.declared.number.NumberState.{NumberState}
use Rattle.planus_syntax.specs.declared.number.NumberState.TheVariants.{Start, Sign, Zero, Digits}
use Rattle.planus_syntax.specs.declared.number.NumberState.TheVariants.{Point, Fraction, Exponent}
use Rattle.planus_syntax.specs.declared.number.NumberState.TheVariants.{ExponentSign}
use Rattle.planus_syntax.specs.declared.number.NumberState.TheVariants.{ExponentDigits, HexMark}
use Rattle.planus_syntax.specs.declared.number.NumberState.TheVariants.{HexDigits, HexPoint}
use Rattle.planus_syntax.specs.declared.number.NumberState.TheVariants.{HexFraction, Wrong}
use Rattle.planus_syntax.specs.Strings.{is_string}
use Rattle.planus_syntax.specs.declared.token.Token.{Token}
use Rattle.planus_syntax.specs.declared.token.Token.TheVariants as token

-- an identifier or keyword, a number, a string with its quotes, a line of documentation, a mark
pub data Piece : Type 0 where
  word : List ℕ → Piece
  number : List ℕ → Piece
  text : List ℕ → Piece
  doc : List ℕ → Piece
  mark : ℕ → Piece

abbrev pub piece_of : Token → Piece
piece_of (token.Word w) = word w.items
piece_of (token.Number w) = number w.items
piece_of (token.Text w) = text w.items
piece_of (token.Doc w) = doc w.items
piece_of (token.Mark b) = mark b

abbrev pub pieces_of : List Token → List Piece
pieces_of tokens = map piece_of tokens

-- ---- bytes

-- the first byte passes; false where there is none
abbrev pub begins : (ℕ → Bool) → List ℕ → Bool
begins p [] = false
begins p (b ∷ bs) = p b

abbrev pub is_word_byte : ℕ → Bool
is_word_byte b = is_ascii_alphabetic b || (is_ascii_digit b || b == 95)

abbrev pub is_number_start : ℕ → Bool
is_number_start b = is_ascii_digit b || (b == 43 || b == 45)

-- a digit or a sign, or a point before a digit
abbrev pub starts_number : List ℕ → Bool
starts_number [] = false
starts_number (b ∷ bs) = is_number_start b || (b == 46 && begins is_ascii_digit bs)

abbrev pub is_number_byte : ℕ → Bool
is_number_byte b = is_word_byte b || (b == 46 || (b == 43 || b == 45))

abbrev pub is_blank : ℕ → Bool
is_blank b = b == 32 || (b == 10 || (b == 9 || b == 13))

abbrev pub is_mark : ℕ → Bool
is_mark b = list_any (λ m. m == b) (codes "{}()[]:;,=.")

abbrev pub is_line_byte : ℕ → Bool
is_line_byte b = not (b == 10)

-- ---- numbers

abbrev pub digits_after : NumberState → ℕ → NumberState
digits_after state b =
    if is_ascii_digit b then state
    else if b == 46 then Fraction
    else if b == 101 || b == 69 then Exponent
    else Wrong

abbrev pub first_digit : ℕ → NumberState
first_digit b =
    if b == 48 then Zero
    else if is_ascii_digit b then Digits
    else if b == 46 then Point
    else Wrong

-- after a hexadecimal digit: another, or `p` before the exponent, which is decimal
abbrev pub hex_after : NumberState → ℕ → NumberState
hex_after state b =
    if is_ascii_hexdigit b then state else if b == 112 || b == 80 then Exponent else Wrong

-- A number: a sign or none, and digits with or without a point among them, with an exponent or
-- none. After `0x` the digits are hexadecimal, the exponent follows a `p`, and a point wants one.
abbrev pub number_step : NumberState → ℕ → NumberState
number_step Start b = if b == 43 || b == 45 then Sign else first_digit b
number_step Sign b = first_digit b
number_step Zero b = if b == 120 || b == 88 then HexMark else digits_after Digits b
number_step Digits b = digits_after Digits b
number_step Point b = if is_ascii_digit b then Fraction else Wrong
number_step Fraction b =
    if is_ascii_digit b then Fraction else if b == 101 || b == 69 then Exponent else Wrong
number_step Exponent b =
    if b == 43 || b == 45 then ExponentSign else if is_ascii_digit b then ExponentDigits else Wrong
number_step ExponentSign b = if is_ascii_digit b then ExponentDigits else Wrong
number_step ExponentDigits b = if is_ascii_digit b then ExponentDigits else Wrong
number_step HexMark b =
    if is_ascii_hexdigit b then HexDigits else if b == 46 then HexPoint else Wrong
number_step HexDigits b = if b == 46 then HexFraction else hex_after HexDigits b
number_step HexPoint b = if is_ascii_hexdigit b then HexFraction else Wrong
number_step HexFraction b = hex_after HexFraction b
number_step Wrong b = Wrong

abbrev pub is_end : NumberState → Bool
is_end Start = false
is_end Sign = false
is_end Zero = true
is_end Digits = true
is_end Point = false
is_end Fraction = true
is_end Exponent = false
is_end ExponentSign = false
is_end ExponentDigits = true
is_end HexMark = false
is_end HexDigits = true
is_end HexPoint = false
is_end HexFraction = false
is_end Wrong = false

-- in lower or upper case
abbrev pub is_float_name : List ℕ → Bool
is_float_name w =
    str_eq_ignore_ascii_case w (codes "inf") || (str_eq_ignore_ascii_case w (codes "infinity")
    || str_eq_ignore_ascii_case w (codes "nan"))

abbrev pub is_signed_name : List ℕ → Bool
is_signed_name [] = false
is_signed_name (b ∷ w) = (b == 43 || b == 45) && is_float_name w

abbrev pub is_number : List ℕ → Bool
is_number w = is_end (fold number_step Start w) || is_signed_name w

-- ---- tokens

abbrev pub is_some : List ℕ → Bool
is_some [] = false
is_some (b ∷ bs) = true

-- which tokens there are
abbrev pub is_lawful : Piece → Bool
is_lawful (word w) = is_some w && (list_all is_word_byte w && not (begins is_number_start w))
is_lawful (number w) = starts_number w && (list_all is_number_byte w && is_number w)
is_lawful (text w) = is_string w && is_utf8 w
is_lawful (doc w) = list_all is_line_byte w
is_lawful (mark b) = is_mark b

abbrev pub bytes_of : Piece → List ℕ
bytes_of (word w) = w
bytes_of (number w) = w
bytes_of (text w) = w
bytes_of (doc w) = 47 ∷ 47 ∷ 47 ∷ w
bytes_of (mark b) = b ∷ []
