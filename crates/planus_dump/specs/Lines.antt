-- The lines of a dump, in UTF-8.
use Rattle.std.specs.Prelude.{ℕ, ◌/◌, ◌%◌, nat_lt, ◌==◌, List, [], ◌∷◌, ◌++◌, codes}
use Rattle.std.specs.Int.{is_in_range}
use Rattle.std.specs.Prelude.{Bool, true, false, ◌||◌, if◌then◌else◌}
use Rattle.std.specs.Char.{encode_utf8, digit_char}
use Rattle.std.specs.Fmt.{decimal, signed_decimal}
use Rattle.std.specs.List.{flat_map}
use Rattle.std.specs.Str.{chars}
use Rattle.planus_dump.specs.declared.values.Value.{Value}
use Rattle.planus_dump.specs.declared.values.Value.TheVariants.{Unsigned, Signed, Truth, Text}
use Rattle.planus_dump.specs.declared.values.Value.TheVariants.{Bytes}

-- the path of a field
abbrev pub field_path : List ℕ → List ℕ → List ℕ
field_path path name = path ++ (codes "." ++ name)

abbrev pub item_path : List ℕ → ℕ → List ℕ
item_path path i = path ++ (codes "[" ++ (decimal i ++ codes "]"))

-- two hexadecimal digits, in lower case
abbrev pub hex_of : ℕ → List ℕ
hex_of byte = digit_char (byte / 16) ∷ digit_char (byte % 16) ∷ []

-- U+061C, U+200E, U+200F, U+202A to U+202E, U+2066 to U+2069: they turn the direction of text
abbrev pub is_direction_mark : ℕ → Bool
is_direction_mark c =
    c == 0x61c || is_in_range 0x200e 0x200f c || is_in_range 0x202a 0x202e c
    || is_in_range 0x2066 0x2069 c

-- U+0080 to U+009F are control characters too
abbrev pub is_unseen : ℕ → Bool
is_unseen c = is_in_range 0x80 0x9f c || is_direction_mark c

-- `\x` and two digits below U+0020 and for U+007F, `\u` and four for what isn't seen, `\` before a
-- quote and `\`
abbrev pub escaped : ℕ → List ℕ
escaped c =
    if nat_lt c 32 || c == 127 then 92 ∷ 120 ∷ hex_of c
    else (if is_unseen c then 92 ∷ 117 ∷ hex_of (c / 256) ++ hex_of (c % 256)
    else (if c == 34 || c == 92 then 92 ∷ c ∷ [] else encode_utf8 c))

-- a string within quotes
abbrev pub quoted : List ℕ → List ℕ
quoted text = 34 ∷ [] ++ (flat_map escaped (chars text) ++ 34 ∷ [])

-- a byte vector in hexadecimal, without spaces
abbrev pub bytes_text : List ℕ → List ℕ
bytes_text [] = codes "bytes"
bytes_text (byte ∷ bytes) = codes "bytes " ++ flat_map hex_of (byte ∷ bytes)

abbrev pub truth_text : Bool → List ℕ
truth_text true = codes "true"
truth_text false = codes "false"

-- a printed value
abbrev pub value_text : Value → List ℕ
value_text (Unsigned n) = decimal n
value_text (Signed n) = signed_decimal n
value_text (Truth b) = truth_text b
value_text (Text text) = quoted text.now
value_text (Bytes bytes) = bytes_text bytes.now

-- the line of a value
abbrev pub value_line : List ℕ → List ℕ → List ℕ
value_line path text = path ++ (codes " = " ++ text)

abbrev pub fault_line : List ℕ → List ℕ → List ℕ
fault_line path fault = path ++ (codes " ! " ++ fault)

abbrev pub table_line : List ℕ → List ℕ → List ℕ
table_line path name = path ++ (codes ": table " ++ name)

abbrev pub list_line : List ℕ → ℕ → List ℕ
list_line path count = path ++ (codes ": list " ++ decimal count)

-- a variant's name in parentheses, if it has one
abbrev pub variant_text : List ℕ → List ℕ
variant_text [] = []
variant_text (byte ∷ bytes) = codes " (" ++ ((byte ∷ bytes) ++ codes ")")

abbrev pub union_line : List ℕ → ℕ → List ℕ → List ℕ
union_line path tag name = path ++ (codes ": union " ++ (decimal tag ++ variant_text name))

abbrev pub unions_line : List ℕ → ℕ → List ℕ
unions_line path count = path ++ (codes ": unions " ++ decimal count)

abbrev pub struct_line : List ℕ → List ℕ → List ℕ
struct_line path name = path ++ (codes ": struct " ++ name)

-- the names of an enum's values in parentheses, ` | ` between them
abbrev pub other_names : List (List ℕ) → List ℕ
other_names names = flat_map (λ name. codes " | " ++ name) names

abbrev pub names_text : List (List ℕ) → List ℕ
names_text [] = []
names_text (name ∷ names) = codes " (" ++ (name ++ (other_names names ++ codes ")"))

-- the error for a number, as it is printed, that no value of its enum has
abbrev pub unknown_enum_text : List ℕ → List ℕ
unknown_enum_text number = codes "Unknown enum (tag = " ++ number ++ codes ")"

-- the error for a union that has this tag and no value
abbrev pub lone_tag_text : ℕ → List ℕ
lone_tag_text tag = codes "Union without a value (tag = " ++ decimal tag ++ codes ")"
