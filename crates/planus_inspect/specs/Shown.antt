-- What a dump reads for what a schema means.
use Rattle.std.specs.Prelude.{ℕ, ◌-◌, ◌%◌, ◌==◌, ◌&&◌, not, false, List, [], ◌∷◌}
use Rattle.std.specs.Prelude.{◌++◌}
use Rattle.std.specs.Prelude.{map, fold, Option, Some, None, if◌then◌else◌}
use Rattle.planus_schema.specs.declared.number.Number.{Number}
use Rattle.planus_schema.specs.declared.scalar.Scalar.{Scalar}
use Rattle.planus_schema.specs.declared.scalar.Scalar.TheVariants as scalar
use Rattle.planus_schema.specs.declared.schema.Base.{Base}
use Rattle.planus_schema.specs.declared.schema.Base.TheVariants as base
use Rattle.planus_schema.specs.declared.schema.Body.{Body}
use Rattle.planus_schema.specs.declared.schema.Body.TheVariants as body
use Rattle.planus_schema.specs.declared.schema.Declared.{Declared}
use Rattle.planus_schema.specs.declared.schema.EnumValue.{EnumValue}
use Rattle.planus_schema.specs.declared.schema.FieldType.{FieldType}
use Rattle.planus_schema.specs.declared.schema.Schema.{Schema}
use Rattle.planus_schema.specs.declared.schema.StructField.{StructField}
use Rattle.planus_schema.specs.declared.schema.TableField.{TableField}
use Rattle.planus_schema.specs.declared.schema.UnionMember.{UnionMember}
use Rattle.planus_schema.specs.Numbers.{scalar_size}
use Rattle.planus_schema.specs.Slots.{is_union}
use Rattle.planus_dump.specs.declared.schemas.Schema as dump
use Rattle.planus_dump.specs.declared.schemas.Fixed.{Fixed}
use Rattle.planus_dump.specs.declared.schemas.Fixed.TheVariants as fixed
use Rattle.planus_dump.specs.declared.schemas.Item.TheVariants as item
use Rattle.planus_dump.specs.declared.schemas.Kind.{Kind}
use Rattle.planus_dump.specs.declared.schemas.Kind.TheVariants as kind
use Rattle.planus_dump.specs.declared.schemas.VariantKind.{VariantKind}
use Rattle.planus_dump.specs.declared.schemas.VariantKind.TheVariants as member
use Rattle.planus_dump.specs.declared.schemas.Number as numbers
use Rattle.planus_dump.specs.declared.schemas.Number.TheVariants as number
use Rattle.planus_dump.specs.Schemas.{is_name_byte}
use Rattle.planus_dump.specs.Shapes.{FieldShape, TableShape, EnumShape, StructFieldShape}
use Rattle.planus_dump.specs.Shapes.{StructShape, VariantShape, HasShapes}

-- a byte of a name; `_` replaces any other
abbrev pub shown_byte : ℕ → ℕ
shown_byte b = if is_name_byte b then b else 95

-- what follows the last dot
abbrev pub after_dot : List ℕ → ℕ → List ℕ
after_dot word b = if b == 46 then [] else word ++ shown_byte b ∷ []

abbrev pub last_word : List ℕ → List ℕ
last_word name = fold after_dot [] name

abbrev pub some_word : List ℕ → List ℕ
some_word [] = 95 ∷ []
some_word (b ∷ bs) = b ∷ bs

-- the name in a dump's lines: the last word, and `_` for an empty one
abbrev pub shown_name : List ℕ → List ℕ
shown_name name = some_word (last_word name)

-- the integer type of an enum
abbrev pub scalar_number : Scalar → numbers.Number
scalar_number scalar.Bool = number.U8
scalar_number scalar.Byte = number.I8
scalar_number scalar.UByte = number.U8
scalar_number scalar.Short = number.I16
scalar_number scalar.UShort = number.U16
scalar_number scalar.Int = number.I32
scalar_number scalar.UInt = number.U32
scalar_number scalar.Long = number.I64
scalar_number scalar.ULong = number.U64
scalar_number scalar.Float = number.U32
scalar_number scalar.Double = number.U64

-- a scalar in a struct
abbrev pub scalar_fixed : Scalar → Fixed
scalar_fixed scalar.Bool = fixed.Bool
scalar_fixed scalar.Float = fixed.F32
scalar_fixed scalar.Double = fixed.F64
scalar_fixed s = fixed.Number (scalar_number s)

abbrev pub scalar_kind : Scalar → Kind
scalar_kind scalar.Bool = kind.One item.Bool
scalar_kind scalar.Float = kind.Fixed fixed.F32
scalar_kind scalar.Double = kind.Fixed fixed.F64
scalar_kind s = kind.One (item.Number (scalar_number s))

abbrev pub scalar_list : Scalar → Kind
scalar_list scalar.Bool = kind.List item.Bool
scalar_list scalar.UByte = kind.Bytes
scalar_list scalar.Float = kind.FixedList fixed.F32
scalar_list scalar.Double = kind.FixedList fixed.F64
scalar_list s = kind.List (item.Number (scalar_number s))

-- a value in a struct: a scalar, an enum or a struct
abbrev pub base_fixed : Base → Fixed
base_fixed (base.Scalar s) = scalar_fixed s
base_fixed base.Text = fixed.Bool
base_fixed (base.Enum i) = fixed.Enum i
base_fixed (base.Struct i) = fixed.Struct i
base_fixed (base.Table i) = fixed.Bool
base_fixed (base.Union i) = fixed.Bool

abbrev pub one_kind : Base → Kind
one_kind (base.Scalar s) = scalar_kind s
one_kind base.Text = kind.One item.Text
one_kind (base.Enum i) = kind.Fixed (fixed.Enum i)
one_kind (base.Struct i) = kind.Fixed (fixed.Struct i)
one_kind (base.Table i) = kind.One (item.Table i)
one_kind (base.Union i) = kind.Union i

abbrev pub list_kind : Base → Kind
list_kind (base.Scalar s) = scalar_list s
list_kind base.Text = kind.List item.Text
list_kind (base.Enum i) = kind.FixedList (fixed.Enum i)
list_kind (base.Struct i) = kind.FixedList (fixed.Struct i)
list_kind (base.Table i) = kind.List (item.Table i)
list_kind (base.Union i) = kind.UnionVector i

-- a field, which may be a buffer of its own
abbrev pub kind_of : FieldType → Option ℕ → Kind
kind_of t (Some i) = kind.Nested i
kind_of t None = if t.vector then list_kind t.base else one_kind t.base

-- the first slot of a field, for a union that of its type
abbrev pub first_slot : TableField → ℕ
first_slot f = if is_union f.kind then f.slot - 1 else f.slot

-- One that is deprecated isn't written, so not required either.
abbrev pub field_shown : TableField → FieldShape
field_shown f = record {
  slot = first_slot f;
  name = shown_name f.name.items;
  kind = kind_of f.kind f.nested;
  deprecated = f.deprecated;
  required = f.required && not f.deprecated;
}

abbrev pub fields_shown : Body → List FieldShape
fields_shown (body.Table t) = map field_shown t.fields.items
fields_shown (body.Struct s) = []
fields_shown (body.Enum e) = []
fields_shown (body.Union u) = []

-- Each declaration has a table, whose fields are none where it isn't one; so have structs, enums
-- and unions.
abbrev pub table_shown : Declared → TableShape
table_shown d = record { name = shown_name d.name.items; fields = fields_shown d.body }

-- a member of a union: a table, a struct or a string
abbrev pub member_kind : Base → VariantKind
member_kind (base.Scalar s) = member.Text
member_kind base.Text = member.Text
member_kind (base.Enum i) = member.Text
member_kind (base.Struct i) = member.Struct i
member_kind (base.Table i) = member.Table i
member_kind (base.Union i) = member.Text

abbrev pub member_shown : UnionMember → VariantShape
member_shown m =
    record { tag = m.tag; name = shown_name m.name.items; kind = member_kind m.base }

abbrev pub union_shown : Declared → List VariantShape
union_shown d = members_of d.body
  where
    members_of : Body → List VariantShape
    members_of (body.Table t) = []
    members_of (body.Struct s) = []
    members_of (body.Enum e) = []
    members_of (body.Union u) = map member_shown u.members.items

-- the last bytes of a number
abbrev pub low_bytes : ℕ → ℕ → ℕ
low_bytes size n =
    if size == 1 then n % 256 else if size == 2 then n % 65536
    else if size == 4 then n % 4294967296 else n

-- the bits of a number in two's complement
abbrev pub bits_of : ℕ → Number → ℕ
bits_of size n = low_bytes size (if n.negative && not (n.magnitude == 0)
    then 18446744073709551615 - (n.magnitude - 1) else n.magnitude)

abbrev pub value_shown : Scalar → EnumValue → ℕ × List ℕ
value_shown s v = (bits_of (scalar_size s) v.number, shown_name v.name.items)

abbrev pub enum_shown : Declared → EnumShape
enum_shown d = enum_of d.body
  where
    nothing : EnumShape
    nothing = record { number = number.U8; flags = false; values = [] }

    enum_of : Body → EnumShape
    enum_of (body.Table t) = nothing
    enum_of (body.Struct s) = nothing
    enum_of (body.Enum e) = record {
      number = scalar_number e.scalar;
      flags = e.flags;
      values = map (value_shown e.scalar) e.values.items;
    }
    enum_of (body.Union u) = nothing

abbrev pub field_in_struct : StructField → StructFieldShape
field_in_struct f = record {
  distance = f.distance;
  name = shown_name f.name.items;
  fixed = base_fixed f.base;
  count = f.count;
}

abbrev pub size_shown : Body → ℕ
size_shown (body.Table t) = 0
size_shown (body.Struct s) = s.size
size_shown (body.Enum e) = 0
size_shown (body.Union u) = 0

abbrev pub struct_fields_shown : Body → List StructFieldShape
struct_fields_shown (body.Table t) = []
struct_fields_shown (body.Struct s) = map field_in_struct s.fields.items
struct_fields_shown (body.Enum e) = []
struct_fields_shown (body.Union u) = []

abbrev pub struct_shown : Declared → StructShape
struct_shown d = record {
  name = shown_name d.name.items;
  size = size_shown d.body;
  fields = struct_fields_shown d.body;
}

-- With this a dump reads what the schema means, from the table of this index on.
abbrev pub Shows : Schema → ℕ → dump.Schema → Type 0
Shows schema root shown =
    HasShapes shown (map table_shown schema.declarations.items)
    (map union_shown schema.declarations.items) (map enum_shown schema.declarations.items)
    (map struct_shown schema.declarations.items) root
