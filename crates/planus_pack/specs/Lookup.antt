-- Names and indices in a schema.
use Rattle.std.specs.Prelude.{ℕ, ◌==◌, Bool, false, ◌&&◌, ◌||◌, not, nat_le, if◌then◌else◌}
use Rattle.std.specs.Prelude.{List, [], ◌∷◌, length, take, drop, codes, Option, Some, None}
use Rattle.std.specs.Prelude.{slice_get}
use Rattle.std.specs.Str.{bytes_eq}
use Rattle.planus_schema.specs.declared.number.Number.{Number}
use Rattle.planus_schema.specs.declared.schema.Body.{Body}
use Rattle.planus_schema.specs.declared.schema.Body.TheVariants as body
use Rattle.planus_schema.specs.declared.schema.Declared.{Declared}
use Rattle.planus_schema.specs.declared.schema.Enum.{Enum}
use Rattle.planus_schema.specs.declared.schema.Struct.{Struct}
use Rattle.planus_schema.specs.declared.schema.StructField.{StructField}
use Rattle.planus_schema.specs.declared.schema.Table.{Table}
use Rattle.planus_schema.specs.declared.schema.TableField.{TableField}
use Rattle.planus_schema.specs.declared.schema.Union.{Union}
use Rattle.planus_schema.specs.declared.schema.UnionMember.{UnionMember}
use Rattle.planus_schema.specs.Slots.{is_union}
use Rattle.planus_json_syntax.specs.Values.{JsonV, MemberV}
use Rattle.planus_pack.specs.Numbers.{integer_in}
use Rattle.planus_pack.specs.Parts.{is_null}

-- ---- declarations

abbrev pub enum_of : Body → Option Enum
enum_of (body.Table t) = None
enum_of (body.Struct s) = None
enum_of (body.Enum e) = Some e
enum_of (body.Union u) = None

abbrev pub struct_of : Body → Option Struct
struct_of (body.Table t) = None
struct_of (body.Struct s) = Some s
struct_of (body.Enum e) = None
struct_of (body.Union u) = None

abbrev pub table_of : Body → Option Table
table_of (body.Table t) = Some t
table_of (body.Struct s) = None
table_of (body.Enum e) = None
table_of (body.Union u) = None

abbrev pub union_of : Body → Option Union
union_of (body.Table t) = None
union_of (body.Struct s) = None
union_of (body.Enum e) = None
union_of (body.Union u) = Some u

abbrev pub declared_as : {A : Type 0} → (Body → Option A) → Option Declared → Option A
declared_as of None = None
declared_as of (Some d) = of d.body

abbrev pub enum_at : List Declared → ℕ → Option Enum
enum_at ds i = declared_as enum_of (slice_get ds i)

abbrev pub struct_at : List Declared → ℕ → Option Struct
struct_at ds i = declared_as struct_of (slice_get ds i)

abbrev pub table_at : List Declared → ℕ → Option Table
table_at ds i = declared_as table_of (slice_get ds i)

abbrev pub union_at : List Declared → ℕ → Option Union
union_at ds i = declared_as union_of (slice_get ds i)

-- ---- fields

-- `NAME_type`, the key of the type of a union NAME
abbrev pub is_type_key : List ℕ → List ℕ → Bool
is_type_key name key = nat_le (length name) (length key)
    && (bytes_eq (take (length name) key) name && bytes_eq (drop (length name) key) (codes "_type"))

abbrev pub is_type_of : List ℕ → TableField → Bool
is_type_of key f = is_union f.kind && is_type_key f.name.items key

-- the first field with this name
abbrev pub field_named : List ℕ → List TableField → Option TableField
field_named key [] = None
field_named key (f ∷ fs) = if bytes_eq f.name.items key then Some f else field_named key fs

-- the first union of whose type this is the key
abbrev pub union_typed : List ℕ → List TableField → Option TableField
union_typed key [] = None
union_typed key (f ∷ fs) = if is_type_of key f then Some f else union_typed key fs

abbrev pub is_struct_field : List ℕ → List StructField → Bool
is_struct_field key [] = false
is_struct_field key (f ∷ fs) = bytes_eq f.name.items key || is_struct_field key fs

-- the type of a union: what the first member with its key gives
abbrev pub type_given : List ℕ → List MemberV → Option JsonV
type_given name [] = None
type_given name (m ∷ ms) =
    if is_type_key name m.key && not (is_null m.value.value) then Some m.value
    else type_given name ms

-- ---- members of unions

-- `NONE` or 0
abbrev pub is_zero : Option Number → Bool
is_zero None = false
is_zero (Some n) = n.magnitude == 0

abbrev pub is_no_member : List ℕ → Bool
is_no_member w = bytes_eq w (codes "NONE") || is_zero (integer_in w)

abbrev pub is_number : ℕ → Option Number → Bool
is_number tag None = false
is_number tag (Some n) = not n.negative && n.magnitude == tag

-- the first member with this name or number
abbrev pub member_called : List ℕ → List UnionMember → Option UnionMember
member_called w [] = None
member_called w (m ∷ ms) =
    if bytes_eq m.name.items w || is_number m.tag (integer_in w) then Some m
    else member_called w ms
