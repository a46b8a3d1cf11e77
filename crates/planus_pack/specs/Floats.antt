-- Floats of words.
use Rattle.std.specs.Prelude.{ℕ, if◌then◌else◌, List, take, drop, codes, Option, Some, None}
use Rattle.std.specs.Prelude.{Result, Ok, to_bits}
use Rattle.std.specs.Option.{option_map}
use Rattle.std.specs.Str.{bytes_eq}
use Rattle.std.specs.Float.Parse.{parse_float}
use lib.Ieee.{Format, binary32, binary64}
use Rattle.planus_schema.specs.declared.number.Number.{Number}
use Rattle.planus_schema.specs.declared.scalar.Scalar.{Scalar}
use Rattle.planus_schema.specs.declared.scalar.Scalar.TheVariants as scalars
use Rattle.planus_schema.specs.Numbers.{is_float}
use Rattle.planus_json_syntax.specs.Values.{JsonV}
use Rattle.planus_pack.specs.declared.pack_fault.PackFault.TheVariants as fault
use Rattle.planus_pack.specs.Faults.{Fault, ◌>>=◌, wanted}
use Rattle.planus_pack.specs.Parts.{word_of}
use Rattle.planus_pack.specs.Numbers.{natural, integer_in, fitting, integer_at}

-- the bits of the float that a word spells, as std reads it: also `nan`, `inf` and `infinity`
abbrev pub bits_of : Format → List ℕ → Option ℕ
bits_of format w = option_map (to_bits format) (parse_float format w)

abbrev pub float_bits : Scalar → List ℕ → Option ℕ
float_bits scalars.Float w = bits_of binary32 w
float_bits scalars.Double w = bits_of binary64 w
float_bits _ w = None

-- what follows `bits `
abbrev pub after_bits : List ℕ → Option (List ℕ)
after_bits w = if bytes_eq (take 5 w) (codes "bits ") then Some (drop 5 w) else None

-- the type of as many bits without a sign
abbrev pub raw : Scalar → Scalar
raw scalars.Float = scalars.UInt
raw _ = scalars.ULong

abbrev pub float_or : Scalar → ℕ → List ℕ → Option (List ℕ) → Result Number Fault
float_or s at w (Some digits) =
    wanted fault.NotANumber at (integer_in digits) >>= fitting (raw s) at
float_or s at w None = wanted fault.NotANumber at (float_bits s w) >>= λ n. Ok (natural n)

-- the bits of a float, which `bits ` and a number spell too
abbrev pub float_at : Scalar → JsonV → Result Number Fault
float_at s json = wanted fault.NotANumber json.at (word_of json.value)
    >>= λ w. float_or s json.at w (after_bits w)

-- the number or the bits of a scalar
abbrev pub scalar_at : Scalar → JsonV → Result Number Fault
scalar_at s json = if is_float s then float_at s json else integer_at s json
