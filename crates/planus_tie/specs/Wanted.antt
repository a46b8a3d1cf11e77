-- What the code of a table has to be.
use Rattle.std.specs.Prelude.{ℕ, ◌-◌, Bool, true, false, ◌==◌, ◌&&◌, not, List, []}
use Rattle.std.specs.Prelude.{◌∷◌, ◌++◌, map, take, drop, codes, Option, Some, None, if◌then◌else◌, decimal}
use Rattle.std.specs.Global.{Vec}
use Rattle.std.specs.List.{slice_get, flat_map, position_or_len}
use Rattle.std.specs.Char.{to_ascii_uppercase, to_ascii_lowercase}
use Rattle.std.specs.Str.{bytes_eq}
use Rattle.planus_schema.specs.Slots.{is_union}
use Rattle.planus_schema.specs.declared.number.Number.{Number}
use Rattle.planus_schema.specs.declared.scalar.Scalar.{Scalar}
use Rattle.planus_schema.specs.declared.scalar.Scalar.TheVariants as scalar
use Rattle.planus_schema.specs.declared.schema.Base.{Base}
use Rattle.planus_schema.specs.declared.schema.Base.TheVariants as base
use Rattle.planus_schema.specs.declared.schema.Body.{Body}
use Rattle.planus_schema.specs.declared.schema.Body.TheVariants as body
use Rattle.planus_schema.specs.declared.schema.Declared.{Declared}
use Rattle.planus_schema.specs.declared.schema.EnumValue.{EnumValue}
use Rattle.planus_schema.specs.declared.schema.FieldType.{FieldType}
use Rattle.planus_schema.specs.declared.schema.TableField.{TableField}
use Rattle.planus_schema.specs.declared.schema.Value.{Value}
use Rattle.planus_schema.specs.declared.schema.Value.TheVariants as value
use Rattle.planus_schema.specs.Plans.{LineV, line_of}
use Rattle.planus_schema.specs.declared.plan.Line.{Line}
use Rattle.planus_tie.specs.declared.groups.Entry.{Entry}
use Rattle.planus_tie.specs.declared.naming.Naming.{Naming}

-- names

abbrev pub name_in : Option (Vec ℕ) → List ℕ
name_in None = []
name_in (Some name) = name.items

abbrev pub type_of : Naming → ℕ → List ℕ
type_of n i = name_in (slice_get n.types.now i)

abbrev pub module_of : Naming → ℕ → List ℕ
module_of n i = name_in (slice_get n.modules.now i)

abbrev pub names_in : Option (Vec (Vec ℕ)) → List (Vec ℕ)
names_in None = []
names_in (Some names) = names.items

-- of a table's field, or an enum's value
abbrev pub member_of : Naming → ℕ → ℕ → List ℕ
member_of n i place = name_in (slice_get (names_in (slice_get n.members.now i)) place)

-- in small letters, without `_`
abbrev pub letters_of : List ℕ → List ℕ
letters_of [] = []
letters_of (b ∷ bs) = if b == 95 then letters_of bs else to_ascii_lowercase b ∷ letters_of bs

-- the name in code is that of the schema, but for case and `_`
abbrev pub is_spelled : Naming → LineV → Bool
is_spelled n l = bytes_eq (letters_of (member_of n l.table l.place)) (letters_of l.field.name.items)

-- kinds

abbrev pub scalar_word : Scalar → List ℕ
scalar_word scalar.Bool = codes "bool"
scalar_word scalar.Byte = codes "i8"
scalar_word scalar.UByte = codes "u8"
scalar_word scalar.Short = codes "i16"
scalar_word scalar.UShort = codes "u16"
scalar_word scalar.Int = codes "i32"
scalar_word scalar.UInt = codes "u32"
scalar_word scalar.Long = codes "i64"
scalar_word scalar.ULong = codes "u64"
scalar_word scalar.Float = codes "f32"
scalar_word scalar.Double = codes "f64"

abbrev pub base_word : Naming → Base → List ℕ
base_word n (base.Scalar s) = scalar_word s
base_word n base.Text = codes "Text"
base_word n (base.Enum i) = type_of n i
base_word n (base.Struct i) = type_of n i
base_word n (base.Table i) = type_of n i
base_word n (base.Union i) = type_of n i

abbrev pub is_ubyte : Base → Bool
is_ubyte (base.Scalar scalar.UByte) = true
is_ubyte b = false

abbrev pub is_bytes : FieldType → Bool
is_bytes t = t.vector && is_ubyte t.base

abbrev pub is_number : Base → Bool
is_number (base.Scalar s) = true
is_number (base.Enum i) = true
is_number b = false

abbrev pub is_absent : Option Value → Bool
is_absent (Some value.Absent) = true
is_absent v = false

-- a number that isn't `null` by default, which is left out where it equals its default
abbrev pub has_default : TableField → Bool
has_default f = is_number f.kind.base && not f.kind.vector && not (is_absent f.default)

-- defaults

abbrev pub default_number : Option Value → Number
default_number (Some (value.Integer n)) = n
default_number v = record { negative = false; magnitude = 0 }

abbrev pub integer_text : Number → List ℕ
integer_text n = (if n.negative then codes "-" else []) ++ decimal n.magnitude

abbrev pub truth_text : Number → List ℕ
truth_text n = if n.magnitude == 0 then codes "false" else codes "true"

-- a constant's name; nothing is said of its value
abbrev pub constant_text : List ℕ → List ℕ
constant_text name = codes "DEFAULT_" ++ map to_ascii_uppercase name

abbrev pub scalar_default : Scalar → List ℕ → Number → List ℕ
scalar_default scalar.Bool name n = truth_text n
scalar_default scalar.Float name n = constant_text name
scalar_default scalar.Double name n = constant_text name
scalar_default s name n = integer_text n

abbrev pub is_same : Number → Number → Bool
is_same a b = (if a.negative then b.negative else not b.negative) && a.magnitude == b.magnitude

-- the first value with this number
abbrev pub place_of : Number → List EnumValue → ℕ
place_of d values = position_or_len (λ v. is_same v.number d) values

abbrev pub enum_default : Naming → ℕ → Option Declared → List ℕ → Number → List ℕ
enum_default n i None name d = []
enum_default n i (Some declared) name d = body_default n i declared.body name d
  where
    body_default : Naming → ℕ → Body → List ℕ → Number → List ℕ
    body_default n i (body.Enum one) name d = if one.flags then constant_text name
        else type_of n i ++ (codes "::" ++ member_of n i (place_of d one.values.items))
    body_default n i b name d = []

abbrev pub default_by : Naming → Base → List ℕ → Number → List ℕ
default_by n (base.Scalar s) name d = scalar_default s name d
default_by n (base.Enum i) name d = enum_default n i (slice_get n.declared.now i) name d
default_by n b name d = []

abbrev pub default_text : Naming → LineV → List ℕ
default_text n l = default_by n l.field.kind.base (member_of n l.table l.place)
    (default_number l.field.default)

-- accessors

-- of a union the tag's, before its own
abbrev pub read_slot : TableField → ℕ
read_slot f = if is_union f.kind then f.slot - 1 else f.slot

abbrev pub kind_word : FieldType → List ℕ
kind_word t = if is_bytes t then codes "bytes" else kind_by t.base
  where
    kind_by : Base → List ℕ
    kind_by base.Text = codes "text"
    kind_by (base.Table i) = codes "table"
    kind_by (base.Union i) = codes "union"
    kind_by b = codes "plain"

abbrev pub ending : TableField → List ℕ
ending f =
    if f.kind.vector && not (is_bytes f.kind)
    then (if f.required then codes "_vector_required" else codes "_vector")
    else if has_default f then codes "_field_or"
    else if f.required then codes "_required" else codes "_field"

-- `text_field`, `plain_vector_required` ..
abbrev pub function_of : TableField → List ℕ
function_of f = kind_word f.kind ++ ending f

abbrev pub default_argument : Naming → LineV → List ℕ
default_argument n l = if has_default l.field then default_text n l ++ codes "," else []

-- of a union
abbrev pub type_arguments : Naming → TableField → List ℕ
type_arguments n f =
    if is_union f.kind && not f.kind.vector
    then codes "::<" ++ ((if f.required then [] else base_word n f.kind.base ++ codes ",")
    ++ (base_word n f.kind.base ++ codes "Ref<'a>>"))
    else []

-- the names for an error
abbrev pub place_text : Naming → LineV → List ℕ
place_text n l = codes "\"" ++ (type_of n l.table ++ (codes "\",\"" ++ (l.field.name.items
    ++ codes "\")}")))

-- the body of an accessor
abbrev pub call_text : Naming → LineV → List ℕ
call_text n l = function_of l.field ++ (type_arguments n l.field
    ++ (codes "(&self.0," ++ (decimal (read_slot l.field) ++ (codes ","
    ++ (default_argument n l ++ place_text n l)))))

-- lines of what is created

abbrev pub is_reference : Base → Bool
is_reference base.Text = true
is_reference (base.Table i) = true
is_reference b = false

abbrev pub around : Bool → List ℕ → List ℕ → List ℕ → List ℕ
around true before text end = before ++ (text ++ end)
around false before text end = text

-- a union has two
abbrev pub slots_text : TableField → List ℕ
slots_text f = if is_union f.kind
    then codes "(" ++ (decimal (f.slot - 1) ++ (codes "," ++ (decimal f.slot ++ codes ")")))
    else decimal f.slot

-- as it is encoded
abbrev pub encoded : Naming → FieldType → List ℕ
encoded n t = around t.vector (codes "Offset<List<")
    (around (is_reference t.base) (codes "Offset<") (base_word n t.base) (codes ">")) (codes ">>")

abbrev pub kind_text : Naming → FieldType → List ℕ
kind_text n t = if is_union t
    then (if t.vector then codes "unions " else codes "union ") ++ base_word n t.base
    else encoded n t

abbrev pub given_text : Naming → LineV → List ℕ
given_text n l = codes "fields." ++ member_of n l.table l.place

abbrev pub or_default_text : Naming → LineV → List ℕ
or_default_text n l = codes "OrDefault{value:" ++ (given_text n l ++ codes ",default:")

-- a vector of unions is left out where it is empty
abbrev pub value_text : Naming → LineV → List ℕ
value_text n l =
    if has_default l.field then or_default_text n l ++ (default_text n l ++ codes "}")
    else if is_union l.field.kind && l.field.kind.vector && not l.field.required
    then or_default_text n l ++ codes "()}"
    else given_text n l

abbrev pub entry_text : Naming → LineV → List ℕ
entry_text n l = slots_text l.field ++ (codes ":" ++ (kind_text n l.field.kind ++ (codes "="
    ++ (value_text n l ++ codes ","))))

abbrev pub lines_text : Naming → List Line → List ℕ
lines_text n ls = flat_map (entry_text n) (map line_of ls)

-- the lines themselves, or the name of their group
abbrev pub part_text : Naming → ℕ → List Line → List ℕ
part_text n group ls = if group == 0 then lines_text n ls
    else codes "group group" ++ (decimal group ++ codes ",")

-- each entry has the next lines
abbrev pub parts_text : Naming → List Entry → List Line → List ℕ
parts_text n [] ls = lines_text n ls
parts_text n (e ∷ es) ls =
    part_text n e.group (take e.count ls) ++ parts_text n es (drop e.count ls)

abbrev pub list_text : Naming → ℕ → List Entry → List Line → List ℕ
list_text n table es ls = parts_text n es ls ++ (codes "];create_table::<"
    ++ (type_of n table ++ codes ",_>(builder,lines)}"))

abbrev pub group_mark : ℕ → List ℕ
group_mark group = codes "let group" ++ (decimal group ++ codes "=")

abbrev pub group_head : Naming → ℕ → ℕ → List ℕ
group_head n table group = type_of n table ++ (decimal group ++ codes "FieldGroup{lines:fields![")

abbrev pub group_text : Naming → ℕ → ℕ → List Line → List ℕ
group_text n table group ls = group_head n table group ++ (lines_text n ls ++ codes "]};")
