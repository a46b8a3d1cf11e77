-- Floats as they are printed.
use Rattle.std.specs.Prelude.{◌≡◌, ℕ, ◌%◌, ◌<◌, ◌==◌, List, ◌++◌, ◌⊎◌, Some, codes, to_bits}
use Rattle.std.specs.Prelude.{if◌then◌else◌}
use Rattle.std.specs.Fmt.{decimal}
use Rattle.std.specs.Float.Parse.{parse_float}
use lib.Ieee.{Float, Format, binary32, binary64}
use Rattle.planus_dump.specs.declared.line.Bits.{Bits}
use Rattle.planus_dump.specs.declared.line.Bits.TheVariants as bits

abbrev pub number_of : Bits → ℕ
number_of (bits.F32 n) = n
number_of (bits.F64 n) = n

abbrev pub format_of : Bits → Format
format_of (bits.F32 n) = binary32
format_of (bits.F64 n) = binary64

-- the bits without the sign, and those of an infinite number
abbrev pub magnitude : Bits → ℕ
magnitude (bits.F32 n) = n % 0x8000_0000
magnitude (bits.F64 n) = n % 0x8000_0000_0000_0000

abbrev pub infinite_magnitude : Bits → ℕ
infinite_magnitude (bits.F32 n) = 0x7f80_0000
infinite_magnitude (bits.F64 n) = 0x7ff0_0000_0000_0000

-- all bits of the exponent are set, and not all others are 0; or all others are 0
abbrev pub IsNan : Bits → Type 0
IsNan b = infinite_magnitude b < magnitude b

abbrev pub IsInfinite : Bits → Type 0
IsInfinite b = magnitude b ≡ infinite_magnitude b

abbrev pub IsFinite : Bits → Type 0
IsFinite b = magnitude b < infinite_magnitude b

-- `-inf` where the sign is set
abbrev pub infinity_text : Bits → List ℕ
infinity_text b =
    if magnitude b == number_of b then codes "inf" else codes "-inf"

-- a decimal that reads back to the same bits
pub record ReadsBackTo (b : Bits) (text : List ℕ) : Type 0 where
  pub float : Float
  pub parsed : parse_float (format_of b) text ≡ Some float
  pub same : to_bits (format_of b) float ≡ number_of b

-- `nan` for what is no number, `inf` or `-inf` for an infinite one; for any other a decimal that
-- reads back to the same bits, or where `std` prints none, the bits as a number.
abbrev pub PrintsFloat : Bits → List ℕ → Type 0
PrintsFloat b text =
    (IsNan b × (text ≡ codes "nan"))
    ⊎ (IsInfinite b × (text ≡ infinity_text b))
    ⊎ (IsFinite b × (ReadsBackTo b text ⊎ (text ≡ codes "bits " ++ decimal (number_of b))))
