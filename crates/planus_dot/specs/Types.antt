-- The names of types.
use Rattle.std.specs.Prelude.{ℕ, List, [], ◌∷◌, ◌++◌, codes, Option, Some, None, slice_get}
use Rattle.std.specs.Prelude.{if◌then◌else◌, Bool as Truth, true, false, ◌||◌}
use Rattle.std.specs.Fmt.{decimal}
use Rattle.planus_schema.specs.declared.scalar.Scalar.{Scalar}
use Rattle.planus_schema.specs.declared.scalar.Scalar.TheVariants as scalar
use Rattle.planus_schema.specs.declared.schema.Base.{Base}
use Rattle.planus_schema.specs.declared.schema.Base.TheVariants as base
use Rattle.planus_schema.specs.declared.schema.Declared.{Declared}
use Rattle.planus_schema.specs.declared.schema.FieldType.{FieldType}

abbrev pub scalar_name : Scalar → List ℕ
scalar_name scalar.Bool = codes "bool"
scalar_name scalar.Byte = codes "byte"
scalar_name scalar.UByte = codes "ubyte"
scalar_name scalar.Short = codes "short"
scalar_name scalar.UShort = codes "ushort"
scalar_name scalar.Int = codes "int"
scalar_name scalar.UInt = codes "uint"
scalar_name scalar.Long = codes "long"
scalar_name scalar.ULong = codes "ulong"
scalar_name scalar.Float = codes "float"
scalar_name scalar.Double = codes "double"

abbrev pub name_of : Option Declared → List ℕ
name_of None = []
name_of (Some d) = d.name.items

-- the full name of a declaration
abbrev pub name_at : List Declared → ℕ → List ℕ
name_at ds i = name_of (slice_get ds i)

abbrev pub base_name : List Declared → Base → List ℕ
base_name ds (base.Scalar s) = scalar_name s
base_name ds base.Text = codes "string"
base_name ds (base.Enum i) = name_at ds i
base_name ds (base.Struct i) = name_at ds i
base_name ds (base.Table i) = name_at ds i
base_name ds (base.Union i) = name_at ds i

-- the end of an array's type: a colon and how many items it has
abbrev pub count_text : Option ℕ → List ℕ
count_text None = []
count_text (Some n) = codes ":" ++ decimal n

abbrev pub is_some : Option ℕ → Truth
is_some None = false
is_some (Some n) = true

-- a type, as a schema has it, with how many items an array has; a declaration by its full name
abbrev pub type_text : List Declared → FieldType → Option ℕ → List ℕ
type_text ds kind count =
    if kind.vector || is_some count then 91 ∷ (base_name ds kind.base ++ (count_text count ++ 93 ∷ []))
    else base_name ds kind.base
