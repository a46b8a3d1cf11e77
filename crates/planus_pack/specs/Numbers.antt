-- Numbers of words.
use Rattle.std.specs.Prelude.{ℕ, ◌-◌, ◌==◌, Bool, false, ◌&&◌, nat_lt, if◌then◌else◌, fold}
use Rattle.std.specs.Prelude.{List, [], ◌∷◌, length, take, codes, Option, Some, None, Result, Ok, Err}
use Rattle.std.specs.Int.{w64, to_le_bytes}
use Rattle.std.specs.Int.Bits.{bit_or}
use Rattle.std.specs.List.{slice_split}
use Rattle.std.specs.Option.{option_map}
use Rattle.std.specs.Str.{bytes_eq}
use Rattle.planus_schema.specs.declared.number.Number.{Number}
use Rattle.planus_schema.specs.declared.scalar.Scalar.{Scalar}
use Rattle.planus_schema.specs.declared.schema.Enum.{Enum}
use Rattle.planus_schema.specs.declared.schema.EnumValue.{EnumValue}
use Rattle.planus_schema.specs.Numbers.{fits, integer_said, is_bool, is_hexadecimal, without_sign}
use Rattle.planus_json_syntax.specs.Values.{JsonV}
use Rattle.planus_pack.specs.declared.pack_fault.PackFault.TheVariants as fault
use Rattle.planus_pack.specs.Faults.{Fault, ◌>>=◌, wanted}
use Rattle.planus_pack.specs.Parts.{word_of}

-- something follows the sign and `0x`
abbrev pub has_digits : List ℕ → Bool
has_digits w =
    nat_lt (if is_hexadecimal (without_sign w) then 2 else 0) (length (without_sign w))

-- an integer whose distance from zero is below 2^64
abbrev pub integer_in : List ℕ → Option Number
integer_in w = if has_digits w then integer_said w else None

abbrev pub natural : ℕ → Number
natural n = record { negative = false; magnitude = n }

-- `true` and `false` are 1 and 0 where a `bool` is wanted
abbrev pub number_in : Scalar → List ℕ → Option Number
number_in s w =
    if is_bool s && bytes_eq w (codes "true") then Some (natural 1)
    else if is_bool s && bytes_eq w (codes "false") then Some (natural 0)
    else integer_in w

-- the number, if the type holds it
abbrev pub fitting : Scalar → ℕ → Number → Result Number Fault
fitting s at n = if fits s n then Ok n else Err (fault.OutOfRange, at)

abbrev pub integer_at : Scalar → JsonV → Result Number Fault
integer_at s json = wanted fault.NotANumber json.at (word_of json.value)
    >>= λ w. wanted fault.NotANumber json.at (number_in s w) >>= fitting s json.at

-- the first value with this name
abbrev pub value_named : List ℕ → List EnumValue → Option Number
value_named w [] = None
value_named w (v ∷ vs) = if bytes_eq v.name.items w then Some v.number else value_named w vs

-- the bits so far and those of a flag, if each name is one's
abbrev pub with_flag : List EnumValue → Option ℕ → List ℕ → Option ℕ
with_flag vs None w = None
with_flag vs (Some bits) [] = Some bits
with_flag vs (Some bits) (b ∷ w) =
    option_map (λ n. bit_or bits n.magnitude) (value_named (b ∷ w) vs)

abbrev pub is_space : ℕ → Bool
is_space b = b == 32

-- no flag has no bit
abbrev pub some_flags : Option ℕ → Option Number
some_flags None = None
some_flags (Some n) = if n == 0 then None else Some (natural n)

-- the flags of a text, with spaces between their names
abbrev pub flags_named : List ℕ → List EnumValue → Option Number
flags_named w vs = some_flags (fold (with_flag vs) (Some 0) (slice_split is_space w))

-- the number that a text names
abbrev pub named : Enum → List ℕ → Option Number
named e w = if e.flags then flags_named w e.values.items else value_named w e.values.items

-- what a name says, else the number that a word is, which no value need have
abbrev pub named_or : Scalar → ℕ → List ℕ → Option Number → Result Number Fault
named_or s at w (Some n) = Ok n
named_or s at w None = wanted fault.UnknownName at (integer_in w) >>= fitting s at

abbrev pub enum_at : Enum → JsonV → Result Number Fault
enum_at e json = wanted fault.UnknownName json.at (word_of json.value)
    >>= λ w. named_or e.scalar json.at w (named e w)

-- two's complement, in 64 bits
abbrev pub bits : Number → ℕ
bits n = if n.negative && nat_lt 0 n.magnitude
    then 18446744073709551616 - n.magnitude else n.magnitude

-- its lowest bytes, the least first
abbrev pub number_bytes : ℕ → Number → List ℕ
number_bytes size n = take size (to_le_bytes w64 (bits n))
