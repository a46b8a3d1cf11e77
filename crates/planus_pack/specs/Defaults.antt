-- What fields hold where they are absent.
use Rattle.std.specs.Prelude.{Bool, false, if◌then◌else◌, List, ℕ, Option, Some, None}
use Rattle.std.specs.Option.{option_map}
use Rattle.std.specs.Str.{bytes_eq, is_utf8}
use Rattle.planus.specs.Steps.{FieldStep, number_field, struct_field, ref_field, tags_field}
use Rattle.planus.specs.Steps.{values_field}
use Rattle.planus_schema.specs.declared.number.Number.{Number}
use Rattle.planus_schema.specs.declared.scalar.Scalar.{Scalar}
use Rattle.planus_schema.specs.declared.schema.Base.{Base}
use Rattle.planus_schema.specs.declared.schema.Base.TheVariants as base
use Rattle.planus_schema.specs.declared.schema.Declared.{Declared}
use Rattle.planus_schema.specs.declared.schema.TableField.{TableField}
use Rattle.planus_schema.specs.declared.schema.Value.{Value}
use Rattle.planus_schema.specs.declared.schema.Value.TheVariants as value
use Rattle.planus_schema.specs.Numbers.{scalar_size}
use Rattle.planus_pack.specs.Floats.{float_bits}
use Rattle.planus_pack.specs.Lookup.{enum_at}
use Rattle.planus_pack.specs.Numbers.{natural, number_bytes}

-- the scalar as which a value is written
abbrev pub scalar_of : List Declared → Base → Option Scalar
scalar_of declared (base.Scalar s) = Some s
scalar_of declared base.Text = None
scalar_of declared (base.Enum i) = option_map (λ e. e.scalar) (enum_at declared i)
scalar_of declared (base.Struct i) = None
scalar_of declared (base.Table i) = None
scalar_of declared (base.Union i) = None

abbrev pub text_said : List ℕ → Option (List ℕ)
text_said w = if is_utf8 w then Some w else None

-- the bits of a float as a schema has it
abbrev pub float_said : Scalar → Option (List ℕ) → Option Number
float_said s None = None
float_said s (Some w) = option_map natural (float_bits s w)

-- the number of an absent field, if it has one
abbrev pub default_number : Scalar → Option Value → Option Number
default_number s None = Some (natural 0)
default_number s (Some value.Absent) = None
default_number s (Some (value.Integer n)) = Some n
default_number s (Some (value.Float w)) = float_said s (text_said w.items)
default_number s (Some (value.Text w)) = None
default_number s (Some value.EmptyVector) = None

-- whether these are the bytes of a number
abbrev pub is_number : Scalar → List ℕ → Option Number → Bool
is_number s content None = false
is_number s content (Some n) = bytes_eq content (number_bytes (scalar_size s) n)

abbrev pub is_absence : TableField → List ℕ → Option Scalar → Bool
is_absence f content None = false
is_absence f content (Some s) = is_number s content (default_number s f.default)

-- Whether a field's absence reads as this: a number, a truth or an enum's, bit for bit.
abbrev pub is_default : List Declared → TableField → FieldStep → Bool
is_default declared f (number_field width n) = false
is_default declared f (struct_field alignment content) =
    is_absence f content (scalar_of declared f.kind.base)
is_default declared f (ref_field n) = false
is_default declared f (tags_field n) = false
is_default declared f (values_field n) = false
