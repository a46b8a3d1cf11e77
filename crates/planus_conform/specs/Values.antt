-- The values of each type, as functions of the bytes.
use Rattle.std.specs.Prelude.{ℕ, ◌+◌, ◌==◌, ◌||◌, nat_le, List, [], ◌∷◌, length, take, drop}
use Rattle.std.specs.Prelude.{Bool, false, Option, Some, None, Result, Ok, Err, slice_get}
use Rattle.std.specs.Prelude.{if◌then◌else◌}
use Rattle.std.specs.Int.{Width, w8, w16, w32, w64}
use Rattle.planus_read.specs.declared.errors.ErrorKind.TheVariants.{InvalidOffset}
use Rattle.planus_dump.specs.Answers.{Seen, SeenItems, table_at, vector_at, leaf_at, bits_at}
use Rattle.planus_dump.specs.Tests.{fault_text}
use Rattle.planus_dump.specs.declared.values.Leaf.TheVariants as leaf
use Rattle.planus_inspect.specs.Shown.{bits_of, scalar_number}
use Rattle.planus_schema.specs.declared.scalar.Scalar.{Scalar}
use Rattle.planus_schema.specs.declared.scalar.Scalar.TheVariants as scalar
use Rattle.planus_schema.specs.declared.schema.Base.{Base}
use Rattle.planus_schema.specs.declared.schema.Base.TheVariants as base
use Rattle.planus_schema.specs.declared.schema.Body.{Body}
use Rattle.planus_schema.specs.declared.schema.Body.TheVariants as body
use Rattle.planus_schema.specs.declared.schema.Declared.{Declared}
use Rattle.planus_schema.specs.declared.schema.Enum.{Enum}
use Rattle.planus_schema.specs.declared.schema.EnumValue.{EnumValue}
use Rattle.planus_schema.specs.declared.schema.Struct.{Struct}
use Rattle.planus_schema.specs.declared.schema.TableField.{TableField}
use Rattle.planus_schema.specs.declared.schema.Union.{Union}
use Rattle.planus_schema.specs.declared.schema.UnionMember.{UnionMember}
use Rattle.planus_schema.specs.Numbers.{scalar_size}
use Rattle.planus_conform.specs.Found.{Found, unknown, shown, bits, known, stranger, fault, table}
use Rattle.planus_conform.specs.Found.{structure, member, items}

-- ---- declarations

abbrev pub body_of : Option Declared → Option Body
body_of None = None
body_of (Some d) = Some d.body

abbrev pub body_at : List Declared → ℕ → Option Body
body_at ds i = body_of (slice_get ds i)

abbrev pub fields_in : Option Body → List TableField
fields_in (Some (body.Table t)) = t.fields.items
fields_in o = []

abbrev pub struct_in : Option Body → Option Struct
struct_in (Some (body.Struct s)) = Some s
struct_in o = None

abbrev pub enum_in : Option Body → Option Enum
enum_in (Some (body.Enum e)) = Some e
enum_in o = None

abbrev pub union_in : Option Body → Option Union
union_in (Some (body.Union u)) = Some u
union_in o = None

-- ---- scalars

abbrev pub said : Result (List ℕ) (List ℕ) → Found
said (Ok w) = shown w
said (Err message) = fault message

abbrev pub said_bits : Result ℕ (List ℕ) → Found
said_bits (Ok n) = bits n
said_bits (Err message) = fault message

abbrev pub scalar_found : Scalar → List ℕ → ℕ → Found
scalar_found scalar.Bool S f = said (leaf_at leaf.Bool S f)
scalar_found scalar.Float S f = said_bits (bits_at w32 S f)
scalar_found scalar.Double S f = said_bits (bits_at w64 S f)
scalar_found s S f = said (leaf_at (leaf.Number (scalar_number s)) S f)

-- ---- tables and structs

-- the table of this index among the declarations, or its error
abbrev pub table_found : ℕ → Result Seen (List ℕ) → Found
table_found i (Ok seen) = table i seen
table_found i (Err message) = fault message

-- the bytes of a struct of this size at f of S, if all are there
abbrev pub bytes_found : ℕ → ℕ → List ℕ → ℕ → Found
bytes_found i size S f = if nat_le (f + size) (length S) then structure i (take size (drop f S))
    else fault (fault_text InvalidOffset)

abbrev pub struct_found : ℕ → Option Struct → List ℕ → ℕ → Found
struct_found i None S f = unknown
struct_found i (Some s) S f = bytes_found i s.size S f

-- ---- enums

abbrev pub width_of : Scalar → Width
width_of s = by_size (scalar_size s)
  where
    by_size : ℕ → Width
    by_size n = if n == 1 then w8 else if n == 2 then w16 else if n == 4 then w32 else w64

-- one of the values has these bits
abbrev pub is_value : Scalar → List EnumValue → ℕ → Bool
is_value s [] n = false
is_value s (v ∷ vs) n = bits_of (scalar_size s) v.number == n || is_value s vs n

-- any number is a set of flags
abbrev pub is_known : Enum → ℕ → Bool
is_known e n = e.flags || is_value e.scalar e.values.items n

abbrev pub number_found : Enum → Result ℕ (List ℕ) → Found
number_found e (Ok n) = if is_known e n then known n else stranger n
number_found e (Err message) = fault message

abbrev pub enum_found : Option Enum → List ℕ → ℕ → Found
enum_found None S f = unknown
enum_found (Some e) S f = number_found e (bits_at (width_of e.scalar) S f)

-- ---- unions

-- the member with this tag
abbrev pub member_in : List UnionMember → ℕ → Option UnionMember
member_in [] tag = None
member_in (m ∷ ms) tag = if m.tag == tag then Some m else member_in ms tag

-- the struct to which the reference at f of S leads, by the reference's number
abbrev pub led_found : ℕ → Option Struct → List ℕ → ℕ → Result ℕ (List ℕ) → Found
led_found i o S f (Ok n) = struct_found i o S (f + n)
led_found i o S f (Err message) = fault message

-- a table, a struct or a string, to which the reference at f of S leads
abbrev pub member_found : List Declared → Base → List ℕ → ℕ → Found
member_found ds (base.Table i) S f = table_found i (table_at S f)
member_found ds (base.Struct i) S f = led_found i (struct_in (body_at ds i)) S f (bits_at w32 S f)
member_found ds base.Text S f = said (leaf_at leaf.Text S f)
member_found ds b S f = unknown

abbrev pub tagged_found : List Declared → ℕ → Option UnionMember → List ℕ → ℕ → Found
tagged_found ds tag None S f = stranger tag
tagged_found ds tag (Some m) S f = member tag (member_found ds m.base S f)

-- the union of this tag, whose reference is at f of S
abbrev pub union_found : List Declared → Option Union → ℕ → List ℕ → ℕ → Found
union_found ds None tag S f = unknown
union_found ds (Some u) tag S f = tagged_found ds tag (member_in u.members.items tag) S f

-- ---- all values with one place

-- a value at f of S
abbrev pub value_found : List Declared → Base → List ℕ → ℕ → Found
value_found ds (base.Scalar s) S f = scalar_found s S f
value_found ds base.Text S f = said (leaf_at leaf.Text S f)
value_found ds (base.Enum i) S f = enum_found (enum_in (body_at ds i)) S f
value_found ds (base.Struct i) S f = struct_found i (struct_in (body_at ds i)) S f
value_found ds (base.Table i) S f = table_found i (table_at S f)
value_found ds (base.Union i) S f = unknown

-- ---- vectors

abbrev pub items_found : Base → Result SeenItems (List ℕ) → Found
items_found b (Ok seen) = items b seen
items_found b (Err message) = fault message

abbrev pub enum_size : Option Enum → ℕ
enum_size None = 0
enum_size (Some e) = scalar_size e.scalar

abbrev pub struct_size : Option Struct → ℕ
struct_size None = 0
struct_size (Some s) = s.size

-- the size of an item
abbrev pub stride : List Declared → Base → ℕ
stride ds (base.Scalar s) = scalar_size s
stride ds base.Text = 4
stride ds (base.Enum i) = enum_size (enum_in (body_at ds i))
stride ds (base.Struct i) = struct_size (struct_in (body_at ds i))
stride ds (base.Table i) = 4
stride ds (base.Union i) = 0

abbrev pub sized_list : Base → ℕ → List ℕ → ℕ → Found
sized_list b size S f = items_found b (vector_at size S f)

abbrev pub enum_list : ℕ → Option Enum → List ℕ → ℕ → Found
enum_list i None S f = unknown
enum_list i (Some e) S f = sized_list (base.Enum i) (scalar_size e.scalar) S f

abbrev pub struct_list : ℕ → Option Struct → List ℕ → ℕ → Found
struct_list i None S f = unknown
struct_list i (Some s) S f = sized_list (base.Struct i) s.size S f

-- a vector, to which the reference at f of S leads
abbrev pub list_found : List Declared → Base → List ℕ → ℕ → Found
list_found ds (base.Scalar s) S f = sized_list (base.Scalar s) (scalar_size s) S f
list_found ds base.Text S f = sized_list base.Text 4 S f
list_found ds (base.Enum i) S f = enum_list i (enum_in (body_at ds i)) S f
list_found ds (base.Struct i) S f = struct_list i (struct_in (body_at ds i)) S f
list_found ds (base.Table i) S f = sized_list (base.Table i) 4 S f
list_found ds (base.Union i) S f = unknown
