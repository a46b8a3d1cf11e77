-- Vectors of signed bytes.
use Rattle.std.specs.Prelude.{◌≡◌, ℕ, ℤ, List, Option, slice_get}
use Rattle.std.specs.Int.{w8, cast_signed}
use Rattle.std.specs.Option.{option_map}
use Rattle.planus_read.specs.declared.signed_bytes.SignedBytes.{SignedBytes}

-- the bytes of the vector
abbrev pub signed_bytes : SignedBytes → List ℕ
signed_bytes list = list.bytes.now

-- the byte at an index, in two's complement
abbrev pub signed_item : List ℕ → ℕ → Option ℤ
signed_item bytes index = option_map (cast_signed w8) (slice_get bytes index)

-- the vector has these bytes
abbrev pub ShowsSigned : List ℕ → SignedBytes → Type 0
ShowsSigned bytes list = signed_bytes list ≡ bytes
