-- Numbers and bytes at a position, counted from 0 at the front.
use Rattle.std.specs.Prelude.{◌≡◌, ℕ, ◌+◌, ◌-◌, List, length, take, drop, nat_le}
use Rattle.std.specs.Prelude.{if◌then◌else◌, Option, Some, None, ℤ}
use Rattle.std.specs.Int.{Width, w32, byte_len, from_le_bytes, cast_signed}
use Rattle.std.specs.Option.{option_map}

abbrev pub position_of : List ℕ → ℕ → ℕ
position_of B distance = length B - distance

-- The number at the position, if all its bytes are in B.
-- The format: numbers are little-endian.
abbrev pub Num : List ℕ → ℕ → Width → Option ℕ
Num B position width =
    if nat_le (position + byte_len width) (length B)
    then Some (from_le_bytes width (take (byte_len width) (drop position B)))
    else None

-- the signed number of 4 bytes
-- The format: signed numbers are two's complement.
abbrev pub Int : List ℕ → ℕ → Option ℤ
Int B position = option_map (cast_signed w32) (Num B position w32)

-- these bytes are at the position
abbrev pub BytesStand : List ℕ → ℕ → List ℕ → Type 0
BytesStand B position bytes = take (length bytes) (drop position B) ≡ bytes
