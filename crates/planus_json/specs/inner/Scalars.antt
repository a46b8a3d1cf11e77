-- Scalars that were read.
use Rattle.std.specs.Prelude.{ℕ, List}
use Rattle.std.specs.Fmt.{decimal, signed_decimal}
use Rattle.planus_json.specs.declared.readings.Scalar.{Scalar}
use Rattle.planus_json.specs.declared.readings.Scalar.TheVariants.{Unsigned, Signed}

abbrev pub scalar_text : Scalar → List ℕ
scalar_text (Unsigned n) = decimal n
scalar_text (Signed n) = signed_decimal n
