-- Strings: what stands between two quotes, and what it says.
use Rattle.std.specs.Prelude.{ℕ, zero, suc, ◌+◌, ◌-◌, ◌*◌, nat_lt, nat_le, ◌==◌}
use Rattle.std.specs.Prelude.{Bool, ◌&&◌, ◌||◌, if◌then◌else◌}
use Rattle.std.specs.Prelude.{List, [], ◌∷◌, ◌++◌, length, Option, Some, None, Result, Ok, Err}
use Rattle.std.specs.Str.{is_utf8}
use Rattle.std.specs.Char.{encode_utf8, digit_value}
use Rattle.planus_json_syntax.specs.declared.fault_kind.FaultKind.{FaultKind}
use Rattle.planus_json_syntax.specs.declared.fault_kind.FaultKind.TheVariants.{OpenString, Control}
use Rattle.planus_json_syntax.specs.declared.fault_kind.FaultKind.TheVariants.{Letter, Digits, Half}
use Rattle.planus_json_syntax.specs.declared.fault_kind.FaultKind.TheVariants.{NotUtf8}

-- what is wrong, and how many bytes of the text are left there
abbrev pub Fault : Type 0
Fault = FaultKind × ℕ

-- ---- escapes

abbrev pub is_hex : ℕ → Bool
is_hex b = nat_lt (digit_value b) 16

abbrev pub number_of : ℕ → ℕ → ℕ → ℕ → ℕ
number_of a b c d =
    ((digit_value a * 16 + digit_value b) * 16 + digit_value c) * 16 + digit_value d

-- the number of four hexadecimal digits, and what follows them
abbrev pub four_at : List ℕ → Option (ℕ × List ℕ)
four_at (a ∷ b ∷ c ∷ d ∷ bs) =
    if is_hex a && (is_hex b && (is_hex c && is_hex d)) then Some (number_of a b c d, bs) else None
four_at bs = None

-- the first and the second half of a character beyond U+FFFF
abbrev pub is_high : ℕ → Bool
is_high n = nat_le 55296 n && nat_lt n 56320

abbrev pub is_low : ℕ → Bool
is_low n = nat_le 56320 n && nat_lt n 57344

abbrev pub both_halves : ℕ → ℕ → ℕ
both_halves high low = 65536 + (high - 55296) * 1024 + (low - 56320)

-- a character, and what follows its escape
abbrev pub Escape : Type 0
Escape = Result (ℕ × List ℕ) FaultKind

abbrev pub low_of : ℕ → Option (ℕ × List ℕ) → Escape
low_of high None = Err Half
low_of high (Some (low, bs)) = if is_low low then Ok (both_halves high low, bs) else Err Half

-- after the first half: `\u` and the second
abbrev pub low_at : ℕ → List ℕ → Escape
low_at high (b ∷ c ∷ bs) = if b == 92 && c == 117 then low_of high (four_at bs) else Err Half
low_at high bs = Err Half

abbrev pub code_of : Option (ℕ × List ℕ) → Escape
code_of None = Err Digits
code_of (Some (n, bs)) =
    if is_low n then Err Half else if is_high n then low_at n bs else Ok (n, bs)

-- the character of the letter after a backslash
abbrev pub short_value : ℕ → Option ℕ
short_value b =
    if b == 34 || (b == 92 || b == 47) then Some b
    else if b == 98 then Some 8
    else if b == 102 then Some 12
    else if b == 110 then Some 10
    else if b == 114 then Some 13
    else if b == 116 then Some 9
    else None

abbrev pub short_of : Option ℕ → List ℕ → Escape
short_of None bs = Err Letter
short_of (Some c) bs = Ok (c, bs)

-- an escape, from the letter after its backslash on
abbrev pub escape_at : ℕ → List ℕ → Escape
escape_at b bs = if b == 117 then code_of (four_at bs) else short_of (short_value b) bs

-- ---- whole strings

-- the content of a string, and what follows its closing quote
abbrev pub Content : Type 0
Content = Result (List ℕ × List ℕ) Fault

abbrev pub closed : List ℕ → List ℕ → Content
closed said bs = if is_utf8 said then Ok (said, bs) else Err (NotUtf8, suc (length bs))

-- goes on by `more` after an escape, whose backslash had so many bytes left
abbrev pub escaped : (List ℕ → List ℕ → Content) → List ℕ → ℕ → Escape → Content
escaped more said left (Ok x) = more (said ++ encode_utf8 x.0) x.1
escaped more said left (Err kind) = Err (kind, left)

abbrev pub backslash : (List ℕ → List ℕ → Content) → List ℕ → List ℕ → Content
backslash more said [] = Err (OpenString, 0)
backslash more said (b ∷ bs) = escaped more said (suc (suc (length bs))) (escape_at b bs)

abbrev pub string_step : (List ℕ → List ℕ → Content) → List ℕ → List ℕ → Content
string_step more said [] = Err (OpenString, 0)
string_step more said (b ∷ bs) =
    if b == 34 then closed said bs
    else if b == 92 then backslash more said bs
    else if nat_lt b 32 then Err (Control, suc (length bs))
    else more (said ++ b ∷ []) bs

-- a string that said this so far, in at most so many steps
unfoldable pub string_from : ℕ → List ℕ → List ℕ → Content
string_from zero said bytes = Err (OpenString, 0)
string_from (suc n) said bytes = string_step (string_from n) said bytes

-- the string whose opening quote stood before these bytes
abbrev pub string_at : List ℕ → Content
string_at bytes = string_from (suc (length bytes)) [] bytes
