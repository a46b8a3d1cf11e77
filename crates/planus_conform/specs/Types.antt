-- Types that are the same in both schemas.
use Rattle.std.specs.Prelude.{ℕ, ◌==◌, ◌&&◌, not, List, Bool, true, false, Option, Some, None}
use Rattle.planus_schema.specs.declared.scalar.Scalar.{Scalar}
use Rattle.planus_schema.specs.declared.scalar.Scalar.TheVariants as scalar
use Rattle.planus_schema.specs.declared.schema.Base.{Base}
use Rattle.planus_schema.specs.declared.schema.Base.TheVariants as base
use Rattle.planus_schema.specs.declared.schema.FieldType.{FieldType}
use Rattle.planus_schema.specs.declared.schema.StructField.{StructField}
use Rattle.planus_conform.specs.Matching.{match_at, is_index}

abbrev pub scalar_code : Scalar → ℕ
scalar_code scalar.Bool = 0
scalar_code scalar.Byte = 1
scalar_code scalar.UByte = 2
scalar_code scalar.Short = 3
scalar_code scalar.UShort = 4
scalar_code scalar.Int = 5
scalar_code scalar.UInt = 6
scalar_code scalar.Long = 7
scalar_code scalar.ULong = 8
scalar_code scalar.Float = 9
scalar_code scalar.Double = 10

-- declaration j of the new schema is that of declaration i of the old one
abbrev pub are_matched : List (Option ℕ) → ℕ → ℕ → Bool
are_matched m i j = is_index (match_at m i) j

-- the same scalar type, or declarations of one kind that belong together
abbrev pub same_base : List (Option ℕ) → Base → Base → Bool
same_base m (base.Scalar s) (base.Scalar t) = scalar_code s == scalar_code t
same_base m base.Text base.Text = true
same_base m (base.Enum i) (base.Enum j) = are_matched m i j
same_base m (base.Struct i) (base.Struct j) = are_matched m i j
same_base m (base.Table i) (base.Table j) = are_matched m i j
same_base m (base.Union i) (base.Union j) = are_matched m i j
same_base m a b = false

abbrev pub same_truth : Bool → Bool → Bool
same_truth true b = b
same_truth false b = not b

abbrev pub same_type : List (Option ℕ) → FieldType → FieldType → Bool
same_type m t u = same_truth t.vector u.vector && same_base m t.base u.base

-- two single values, or two arrays of as many items
abbrev pub same_count : Option ℕ → Option ℕ → Bool
same_count None None = true
same_count (Some a) (Some b) = a == b
same_count a b = false

-- a field of a struct has the same type
abbrev pub same_part : List (Option ℕ) → StructField → StructField → Bool
same_part m f g = same_base m f.base g.base && same_count f.count g.count
