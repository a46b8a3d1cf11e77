-- Numbers of digits, and values of scalar types.
use Rattle.std.specs.Prelude.{ℕ, ◌+◌, ◌-◌, ◌*◌, Bool, true, false, ◌==◌, ◌&&◌, ◌||◌, not}
use Rattle.std.specs.Prelude.{nat_le, nat_lt, if◌then◌else◌, List, [], ◌∷◌, drop, fold, Option}
use Rattle.std.specs.Prelude.{Some, None}
use Rattle.std.specs.Prelude.{codes}
use Rattle.std.specs.List.{list_all}
use Rattle.std.specs.Str.{bytes_eq}
use Rattle.planus_schema.specs.declared.number.Number.{Number}
use Rattle.planus_schema.specs.declared.scalar.Scalar.{Scalar}
use Rattle.planus_schema.specs.declared.scalar.Scalar.TheVariants.{Bool as Boolean, Byte, UByte}
use Rattle.planus_schema.specs.declared.scalar.Scalar.TheVariants.{Short, UShort, Int, UInt, Long}
use Rattle.planus_schema.specs.declared.scalar.Scalar.TheVariants.{ULong, Float, Double}

abbrev pub digit_value : ℕ → ℕ
digit_value b = if nat_le 97 b then b - 87 else if nat_le 65 b then b - 55 else b - 48

abbrev pub is_decimal : ℕ → Bool
is_decimal b = nat_le 48 b && nat_le b 57

abbrev pub is_digit : Bool → ℕ → Bool
is_digit true b = is_decimal b || (nat_le 65 b && nat_le b 70) || (nat_le 97 b && nat_le b 102)
is_digit false b = is_decimal b

abbrev pub base : Bool → ℕ
base true = 16
base false = 10

abbrev pub value_in : ℕ → List ℕ → ℕ
value_in n digits = fold (λ total b. total * n + digit_value b) 0 digits

abbrev pub has_minus : List ℕ → Bool
has_minus [] = false
has_minus (b ∷ bs) = b == 45

abbrev pub without_sign : List ℕ → List ℕ
without_sign [] = []
without_sign (b ∷ bs) = if b == 43 || b == 45 then bs else b ∷ bs

abbrev pub is_hexadecimal : List ℕ → Bool
is_hexadecimal (a ∷ b ∷ bs) = a == 48 && (b == 120 || b == 88)
is_hexadecimal bs = false

abbrev pub without_mark : List ℕ → List ℕ
without_mark bs = if is_hexadecimal bs then drop 2 bs else bs

-- no float, and no name
abbrev pub is_integer : List ℕ → Bool
is_integer word =
    let bs = without_sign word in list_all (is_digit (is_hexadecimal bs)) (without_mark bs)

abbrev pub magnitude_of : List ℕ → ℕ
magnitude_of word =
    let bs = without_sign word in value_in (base (is_hexadecimal bs)) (without_mark bs)

abbrev pub integer_of : List ℕ → Number
integer_of word = record {
  negative = has_minus word && not (magnitude_of word == 0);
  magnitude = magnitude_of word;
}

-- a number below 2^64
abbrev pub held : ℕ → Option ℕ
held n = if nat_lt n 18446744073709551616 then Some n else None

abbrev pub digits_said : Bool → List ℕ → Option ℕ
digits_said hexadecimal digits =
    if list_all (is_digit hexadecimal) digits then held (value_in (base hexadecimal) digits)
    else None

-- an integer whose distance from zero is below 2^64
abbrev pub integer_said : List ℕ → Option Number
integer_said word = if is_integer word && nat_lt (magnitude_of word) 18446744073709551616
    then Some (integer_of word) else None

abbrev pub zero_number : Number
zero_number = record { negative = false; magnitude = 0 }

abbrev pub following : Number → Number
following n = if n.negative
    then record { negative = not (n.magnitude == 1); magnitude = n.magnitude - 1 }
    else record { negative = false; magnitude = n.magnitude + 1 }

abbrev pub following_said : Number → Option Number
following_said n = if n.negative || nat_lt (n.magnitude + 1) 18446744073709551616
    then Some (following n) else None

abbrev pub scalar_size : Scalar → ℕ
scalar_size Boolean = 1
scalar_size Byte = 1
scalar_size UByte = 1
scalar_size Short = 2
scalar_size UShort = 2
scalar_size Int = 4
scalar_size UInt = 4
scalar_size Long = 8
scalar_size ULong = 8
scalar_size Float = 4
scalar_size Double = 8

abbrev pub is_float : Scalar → Bool
is_float Float = true
is_float Double = true
is_float s = false

abbrev pub is_bool : Scalar → Bool
is_bool Boolean = true
is_bool s = false

-- a `bool` is 0 or 1
abbrev pub greatest : Scalar → ℕ
greatest Boolean = 1
greatest Byte = 127
greatest UByte = 255
greatest Short = 32767
greatest UShort = 65535
greatest Int = 2147483647
greatest UInt = 4294967295
greatest Long = 9223372036854775807
greatest ULong = 18446744073709551615
greatest Float = 0
greatest Double = 0

abbrev pub least : Scalar → ℕ
least Byte = 128
least Short = 32768
least Int = 2147483648
least Long = 9223372036854775808
least s = 0

abbrev pub fits : Scalar → Number → Bool
fits s n = if n.negative then nat_le n.magnitude (least s) else nat_le n.magnitude (greatest s)

unfoldable pub scalar_named : List ℕ → Option Scalar
scalar_named w =
    if bytes_eq w (codes "bool") then Some Boolean
    else if bytes_eq w (codes "byte") || bytes_eq w (codes "int8") then Some Byte
    else if bytes_eq w (codes "ubyte") || bytes_eq w (codes "uint8") then Some UByte
    else if bytes_eq w (codes "short") || bytes_eq w (codes "int16") then Some Short
    else if bytes_eq w (codes "ushort") || bytes_eq w (codes "uint16") then Some UShort
    else if bytes_eq w (codes "int") || bytes_eq w (codes "int32") then Some Int
    else if bytes_eq w (codes "uint") || bytes_eq w (codes "uint32") then Some UInt
    else if bytes_eq w (codes "long") || bytes_eq w (codes "int64") then Some Long
    else if bytes_eq w (codes "ulong") || bytes_eq w (codes "uint64") then Some ULong
    else if bytes_eq w (codes "float") || bytes_eq w (codes "float32") then Some Float
    else if bytes_eq w (codes "double") || bytes_eq w (codes "float64") then Some Double
    else None
