-- Floats, encoded as their bits.
use Rattle.std.specs.Prelude.{◌≡◌, ℕ, List, Some, T, from_bits}
use Rattle.std.specs.Int.{Width}
use Rattle.std.specs.Option.{option_map}
use lib.Ieee.{Float, Format, fits}
use Rattle.planus_read.specs.Bytes.{Num}

-- the format can hold the float
abbrev pub FloatFits : Format → Float → Type 0
FloatFits format x = T (fits format x)

-- A float at f. Every NaN pattern is the one NaN.
abbrev pub FloatThere : List ℕ → ℕ → Width → Format → Float → Type 0
FloatThere S f width format x = option_map (from_bits format) (Num S f width) ≡ Some x
