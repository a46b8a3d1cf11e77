-- Strings: how they are written, and the text that they mean.
use Rattle.std.specs.Prelude.{◌≡◌, ℕ, ◌+◌, ◌-◌, ◌*◌, ◌%◌, Bool, true, false, ◌==◌, ◌&&◌, ◌||◌, not}
use Rattle.std.specs.Prelude.{List, [], ◌∷◌, ◌++◌, Option, Some, None, fold, if◌then◌else◌}
use Rattle.std.specs.Prelude.{nat_le, nat_lt, length, take}
use Rattle.std.specs.Int.{is_in_range}
use Rattle.std.specs.Borrow.{Bor}
use Rattle.std.specs.Char.{encode_utf8, is_ascii_digit}
use Rattle.planus_syntax.specs.declared.strings.StringState.{StringState}
use Rattle.planus_syntax.specs.declared.strings.StringState.TheVariants.{Plain, Escape, HexMark}
use Rattle.planus_syntax.specs.declared.strings.StringState.TheVariants.{HexDigit, Digits, End, Wrong}
use Rattle.planus_syntax.specs.declared.due.Due.{Due}
use Rattle.planus_syntax.specs.declared.due.Due.TheVariants.{Nothing, SecondHalf, NextByte}

abbrev pub is_quote : ℕ → Bool
is_quote b = b == 34 || b == 39

-- ---- escapes

-- what a letter or a mark stands for after a backslash
abbrev pub escaped : ℕ → Option ℕ
escaped b =
    if b == 34 || (b == 39 || (b == 47 || b == 92)) then Some b
    else if b == 98 then Some 8
    else if b == 102 then Some 12
    else if b == 110 then Some 10
    else if b == 114 then Some 13
    else if b == 116 then Some 9
    else None

abbrev pub hex_digit : ℕ → Option ℕ
hex_digit b =
    if is_ascii_digit b then Some (b - 48)
    else if nat_le 97 b && nat_le b 102 then Some (b - 87)
    else if nat_le 65 b && nat_le b 70 then Some (b - 55)
    else None

-- up to four digits
abbrev pub with_digit : ℕ → ℕ → ℕ
with_digit value digit = 16 * (value % 4096) + digit

-- two digits
abbrev pub byte_of : ℕ → ℕ → ℕ
byte_of value digit = 16 * (value % 16) + digit

-- the first half of a character above `\uffff`, and the second
abbrev pub is_high : ℕ → Bool
is_high code = nat_le 55296 code && nat_le code 56319

abbrev pub is_low : ℕ → Bool
is_low code = nat_le 56320 code && nat_le code 57343

-- ---- how strings are written

abbrev pub start : StringState
start = Plain Nothing

abbrev pub is_nothing : Due → Bool
is_nothing Nothing = true
is_nothing (SecondHalf high) = false
is_nothing (NextByte least greatest more) = false

-- after the last digit of `\u`: a second half follows a first, and nothing else does
abbrev pub after_code : ℕ → ℕ → StringState
after_code high code =
    if high == 0 then (if is_high code then Plain (SecondHalf code)
    else if is_low code then Wrong else Plain Nothing)
    else if is_low code then Plain Nothing
    else Wrong

abbrev pub after_digit : ℕ → ℕ → ℕ → StringState
after_digit high left value =
    if nat_le left 1 then after_code high value else Digits high (left - 1) value

-- after the first byte of a character in UTF-8: the range of the next, and how many follow that
abbrev pub after_first : ℕ → StringState
after_first b =
    if nat_lt b 128 then Plain Nothing
    else if is_in_range 194 223 b then Plain (NextByte 128 191 0)
    else if b == 224 then Plain (NextByte 160 191 1)
    else if b == 237 then Plain (NextByte 128 159 1)
    else if is_in_range 225 239 b then Plain (NextByte 128 191 1)
    else if b == 240 then Plain (NextByte 144 191 2)
    else if is_in_range 241 243 b then Plain (NextByte 128 191 2)
    else if b == 244 then Plain (NextByte 128 143 2)
    else Wrong

abbrev pub after_next : ℕ → ℕ → ℕ → ℕ → StringState
after_next least greatest more b =
    if nat_le least b && nat_le b greatest then
    Plain (if more == 0 then Nothing else NextByte 128 191 (more - 1))
    else Wrong

-- after the last digit of `\x`
abbrev pub after_byte : Due → ℕ → StringState
after_byte Nothing b = after_first b
after_byte (SecondHalf high) b = Wrong
after_byte (NextByte least greatest more) b = after_next least greatest more b

abbrev pub after_u : Due → StringState
after_u Nothing = Digits 0 4 0
after_u (SecondHalf high) = Digits high 4 0
after_u (NextByte least greatest more) = Wrong

abbrev pub after_x : Due → StringState
after_x Nothing = HexMark Nothing
after_x (SecondHalf high) = Wrong
after_x (NextByte least greatest more) = HexMark (NextByte least greatest more)

abbrev pub after_backslash : Due → ℕ → StringState
after_backslash due b =
    if b == 117 then after_u due
    else if b == 120 then after_x due
    else if is_nothing due && stands (escaped b) then Plain Nothing
    else Wrong
  where
    stands : Option ℕ → Bool
    stands None = false
    stands (Some c) = true

-- The bytes after the opening quote `q`: any byte but a control character and the quote, or a
-- backslash with what follows it. After `\x` are two hexadecimal digits, after `\u` four. The bytes
-- of `\x` that follow each other are UTF-8.
abbrev pub string_step : ℕ → StringState → ℕ → StringState
string_step q (Plain due) b =
    if b == 92 then Escape due
    else if not (is_nothing due) then Wrong
    else if b == q then End
    else if nat_lt b 32 then Wrong
    else Plain Nothing
string_step q (Escape due) b = after_backslash due b
string_step q (HexMark due) b = with_first (hex_digit b)
  where
    with_first : Option ℕ → StringState
    with_first None = Wrong
    with_first (Some digit) = HexDigit due digit
string_step q (HexDigit due value) b = with_second (hex_digit b)
  where
    with_second : Option ℕ → StringState
    with_second None = Wrong
    with_second (Some digit) = after_byte due (byte_of value digit)
string_step q (Digits high left value) b = with_next (hex_digit b)
  where
    with_next : Option ℕ → StringState
    with_next None = Wrong
    with_next (Some digit) = after_digit high left (with_digit value digit)
string_step q End b = Wrong
string_step q Wrong b = Wrong

abbrev pub is_closed : StringState → Bool
is_closed (Plain due) = false
is_closed (Escape due) = false
is_closed (HexMark due) = false
is_closed (HexDigit due value) = false
is_closed (Digits high left value) = false
is_closed End = true
is_closed Wrong = false

abbrev pub is_wrong : StringState → Bool
is_wrong (Plain due) = false
is_wrong (Escape due) = false
is_wrong (HexMark due) = false
is_wrong (HexDigit due value) = false
is_wrong (Digits high left value) = false
is_wrong End = false
is_wrong Wrong = true

-- a quote, and what follows it up to the same quote
abbrev pub is_string : List ℕ → Bool
is_string [] = false
is_string (q ∷ w) = is_quote q && is_closed (fold (string_step q) start w)

-- what is between the quotes, as it is written
abbrev pub between_quotes : List ℕ → List ℕ
between_quotes [] = []
between_quotes (q ∷ w) = take (length w - 1) w

-- ---- what strings mean

-- the character of an escape, which may follow the first half of one
abbrev pub code_of : ℕ → ℕ → ℕ
code_of high code = if high == 0 then code else 65536 + 1024 * (high % 1024) + code % 1024

-- a half of a character is none
abbrev pub character : ℕ → List ℕ
character code = if is_high code || is_low code then [] else encode_utf8 code

-- the bytes that a byte of a string ends
abbrev pub written : ℕ → StringState → ℕ → List ℕ
written q (Plain due) b = if b == q || b == 92 then [] else b ∷ []
written q (Escape due) b = meant (escaped b)
  where
    meant : Option ℕ → List ℕ
    meant None = []
    meant (Some c) = c ∷ []
written q (HexMark due) b = []
written q (HexDigit due value) b = byte (hex_digit b)
  where
    byte : Option ℕ → List ℕ
    byte None = []
    byte (Some digit) = byte_of value digit ∷ []
written q (Digits high left value) b = if nat_le left 1 then ended (hex_digit b) else []
  where
    ended : Option ℕ → List ℕ
    ended None = []
    ended (Some digit) = character (code_of high (with_digit value digit))
written q End b = []
written q Wrong b = []

abbrev pub text_from : ℕ → StringState → List ℕ → List ℕ
text_from q s [] = []
text_from q s (b ∷ w) = written q s b ++ text_from q (string_step q s b) w

-- the text that a string means
abbrev pub string_text : List ℕ → List ℕ
string_text [] = []
string_text (q ∷ w) = text_from q start w

-- the rest of a text after these bytes, if it begins with them
abbrev pub Strips : List ℕ → List ℕ → Option (Bor (List ℕ)) → Type 0
Strips front text None = (rest : List ℕ) → text ≡ front ++ rest → ⊥
Strips front text (Some rest) = text ≡ front ++ rest.now
