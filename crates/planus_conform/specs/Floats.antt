-- Floats of schemas' texts, by their bits.
use Rattle.std.specs.Prelude.{ℕ, List, Option, Some, None, to_bits, if◌then◌else◌}
use Rattle.std.specs.Float.Parse.{parse_float}
use Rattle.std.specs.Option.{option_map}
use Rattle.std.specs.Str.{is_utf8}
use Rattle.planus_schema.specs.declared.scalar.Scalar.TheVariants as scalar
use Rattle.planus_schema.specs.declared.schema.Base.{Base}
use Rattle.planus_schema.specs.declared.schema.Base.TheVariants as base
use Rattle.planus_resolve.specs.Defaults.{ValueV, float}
use lib.Ieee.{Format, binary32, binary64}

-- the nearest float of the format to the number that the text is, or an infinity or NaN; none of a
-- hexadecimal one
abbrev pub bits_in : Format → List ℕ → Option ℕ
bits_in f w = if is_utf8 w then option_map (to_bits f) (parse_float f w) else None

abbrev pub float_bits : Base → List ℕ → Option ℕ
float_bits (base.Scalar scalar.Float) w = bits_in binary32 w
float_bits (base.Scalar scalar.Double) w = bits_in binary64 w
float_bits b w = None

-- A default as code returns it: a float by its bits, unless it is hexadecimal, anything else as it
-- is written.
pub data DefaultV : Type 0 where
  written : ValueV → DefaultV
  float_of : ℕ → DefaultV

-- the bits of a value of this type, if it is such a float
abbrev pub value_bits : Base → ValueV → Option ℕ
value_bits b (float w) = float_bits b w
value_bits b v = None

abbrev pub default_by : ValueV → Option ℕ → DefaultV
default_by v None = written v
default_by v (Some n) = float_of n

abbrev pub default_as : Base → ValueV → DefaultV
default_as b v = default_by v (value_bits b v)
