-- What the code of a schema returns, call after call, of any bytes.
use Rattle.std.specs.Prelude.{ℕ, ◌-◌, ◌*◌, ◌==◌, not, nat_lt, List, [], ◌∷◌, Bool, true, false}
use Rattle.std.specs.Prelude.{Option, Some, None, Result, Ok, Err, drop, slice_index}
use Rattle.std.specs.Prelude.{if◌then◌else◌}
use Rattle.std.specs.Option.{option_map}
use Rattle.planus_read.specs.Tables.{Slot}
use Rattle.planus_dump.specs.Answers.{Seen, SeenItems, SeenUnion, SeenUnions, table_at}
use Rattle.planus_dump.specs.Answers.{union_at, unions_at}
use Rattle.planus_dump.specs.Tests.{answered, byte_list_tests, content_at}
use Rattle.planus_schema.specs.declared.schema.Base.{Base}
use Rattle.planus_schema.specs.declared.schema.Base.TheVariants as base
use Rattle.planus_schema.specs.declared.schema.Declared.{Declared}
use Rattle.planus_schema.specs.declared.schema.FieldType.{FieldType}
use Rattle.planus_schema.specs.declared.schema.Schema.{Schema}
use Rattle.planus_schema.specs.declared.schema.Struct.{Struct}
use Rattle.planus_schema.specs.declared.schema.StructField.{StructField}
use Rattle.planus_schema.specs.declared.schema.TableField.{TableField}
use Rattle.planus_schema.specs.Numbers.{zero_number}
use Rattle.planus_resolve.specs.Defaults.{ValueV, absent as nothing, integer, float, text, empty}
use Rattle.planus_resolve.specs.Defaults.{value_of}
use Rattle.planus_resolve.specs.Tables.{is_number}
use Rattle.planus_conform.specs.Floats.{DefaultV, written, default_as}
use Rattle.planus_conform.specs.Found.{Call, field, part, item, buffer, Found, unknown, withdrawn}
use Rattle.planus_conform.specs.Found.{unopened}
use Rattle.planus_conform.specs.Found.{absent, missing, default, fault, table, structure, member}
use Rattle.planus_conform.specs.Found.{items, unions}
use Rattle.planus_conform.specs.Values.{body_at, fields_in, struct_in, union_in, table_found}
use Rattle.planus_conform.specs.Values.{union_found, value_found, stride, list_found}

-- ---- absent fields

-- `None` is returned: the default is `null`, or there is none and the field is no number
abbrev pub is_nothing : FieldType → Option ValueV → Bool
is_nothing t None = not (is_number t)
is_nothing t (Some nothing) = true
is_nothing t (Some (integer n)) = false
is_nothing t (Some (float w)) = false
is_nothing t (Some (text w)) = false
is_nothing t (Some empty) = false

-- a number has the default 0
abbrev pub given : Base → Option ValueV → DefaultV
given b None = written (integer zero_number)
given b (Some v) = default_as b v

abbrev pub default_found : FieldType → Option ValueV → Found
default_found t v = if is_nothing t v then absent else default (given t.base v)

abbrev pub default_of : TableField → Option ValueV
default_of f = option_map value_of f.default

abbrev pub absent_found : TableField → Found
absent_found f = if f.required then missing else default_found f.kind (default_of f)

-- ---- fields of tables

abbrev pub field_in : List TableField → ℕ → Option TableField
field_in [] n = None
field_in (f ∷ fs) n = if f.slot == n then Some f else field_in fs n

abbrev pub present_found : List Declared → FieldType → List ℕ → ℕ → Found
present_found ds t S f = if t.vector then list_found ds t.base S f else value_found ds t.base S f

-- a field with one slot, by its distance: 0 for an absent field
abbrev pub placed_found : List Declared → TableField → Seen → Found
placed_found ds f seen = if Slot seen.slots f.slot == 0 then absent_found f
    else present_found ds f.kind seen.object (Slot seen.slots f.slot)

abbrev pub one_union_found :
    List Declared → TableField → ℕ → Seen → Result (Option SeenUnion) (List ℕ) → Found
one_union_found ds f i seen (Ok None) = absent_found f
one_union_found ds f i seen (Ok (Some u)) =
    union_found ds (union_in (body_at ds i)) u.tag seen.object u.offset
one_union_found ds f i seen (Err message) = fault message

abbrev pub unions_found : TableField → ℕ → Result (Option SeenUnions) (List ℕ) → Found
unions_found f i (Ok None) = absent_found f
unions_found f i (Ok (Some us)) = unions i us
unions_found f i (Err message) = fault message

-- a union, or a vector of unions, whose type has the slot before
abbrev pub union_field_found : List Declared → TableField → ℕ → Seen → Found
union_field_found ds f i seen = if f.kind.vector then unions_found f i (unions_at seen (f.slot - 1))
    else one_union_found ds f i seen (union_at seen (f.slot - 1))

abbrev pub found_by : List Declared → TableField → Base → Seen → Found
found_by ds f (base.Union i) seen = union_field_found ds f i seen
found_by ds f b seen = placed_found ds f seen

abbrev pub field_found : List Declared → TableField → Seen → Found
field_found ds f seen = found_by ds f f.kind.base seen

-- code has no accessor for a deprecated field
abbrev pub found_if : List Declared → Option TableField → Seen → Found
found_if ds None seen = unknown
found_if ds (Some f) seen = if f.deprecated then withdrawn else field_found ds f seen

-- ---- buffers in byte vectors

-- the table at the root of these bytes
abbrev pub inner_root : ℕ → Result (List ℕ) (List ℕ) → Found
inner_root i (Ok content) = table_found i (table_at content 0)
inner_root i (Err message) = fault message

abbrev pub inner_found : TableField → Option ℕ → Seen → Found
inner_found f None seen = unopened
inner_found f (Some i) seen = if Slot seen.slots f.slot == 0 then absent_found f
    else inner_root i (answered (byte_list_tests seen.object (Slot seen.slots f.slot))
    (content_at seen.object (Slot seen.slots f.slot)))

abbrev pub buffer_found : TableField → Seen → Found
buffer_found f seen = inner_found f f.nested seen

abbrev pub buffer_if : Option TableField → Seen → Found
buffer_if None seen = unknown
buffer_if (Some f) seen = if f.deprecated then withdrawn else buffer_found f seen

-- ---- fields of structs

abbrev pub part_in : List StructField → ℕ → Option StructField
part_in [] n = None
part_in (f ∷ fs) n = if f.distance == n then Some f else part_in fs n

abbrev pub parts_of : Option Struct → List StructField
parts_of None = []
parts_of (Some s) = s.fields.items

-- a single value at this distance, or an array whose first item is there
abbrev pub counted_found : List Declared → Option ℕ → Base → List ℕ → ℕ → Found
counted_found ds None b S n = value_found ds b S n
counted_found ds (Some count) b S n = items b (record { bytes = drop n S; count = count })

-- the field at this distance
abbrev pub part_found : List Declared → Option StructField → List ℕ → ℕ → Found
part_found ds None S n = unknown
part_found ds (Some f) S n = counted_found ds f.count f.base S n

-- ---- items

abbrev pub item_found : List Declared → Base → SeenItems → ℕ → Found
item_found ds b seen k =
    if nat_lt k seen.count then value_found ds b seen.bytes (k * stride ds b) else absent

abbrev pub union_item_found : List Declared → ℕ → SeenUnions → ℕ → Found
union_item_found ds i seen k =
    if nat_lt k seen.count
    then union_found ds (union_in (body_at ds i)) (slice_index seen.tags k) seen.references (k * 4)
    else absent

-- ---- calls

abbrev pub table_called : List Declared → ℕ → Seen → Call → Found
table_called ds i seen (field n) = found_if ds (field_in (fields_in (body_at ds i)) n) seen
table_called ds i seen (buffer n) = buffer_if (field_in (fields_in (body_at ds i)) n) seen
table_called ds i seen c = unknown

abbrev pub struct_called : List Declared → ℕ → List ℕ → Call → Found
struct_called ds i S (part n) =
    part_found ds (part_in (parts_of (struct_in (body_at ds i))) n) S n
struct_called ds i S c = unknown

abbrev pub items_called : List Declared → Base → SeenItems → Call → Found
items_called ds b seen (item k) = item_found ds b seen k
items_called ds b seen c = unknown

abbrev pub unions_called : List Declared → ℕ → SeenUnions → Call → Found
unions_called ds i seen (item k) = union_item_found ds i seen k
unions_called ds i seen c = unknown

abbrev pub called : List Declared → Found → Call → Found
called ds (table i seen) c = table_called ds i seen c
called ds (member tag value) c = called ds value c
called ds (structure i S) c = struct_called ds i S c
called ds (items b seen) c = items_called ds b seen c
called ds (unions i seen) c = unions_called ds i seen c
called ds found c = unknown

-- what the last of these calls returns, each of what the one before returned
abbrev pub answer : List Declared → Found → List Call → Found
answer ds found [] = found
answer ds found (c ∷ cs) = answer ds (called ds found c) cs

-- the table to which the reference at f of S leads
abbrev pub root : ℕ → List ℕ → ℕ → Found
root i S f = table_found i (table_at S f)

-- the root of a whole buffer
abbrev pub root_found : Option ℕ → List ℕ → Found
root_found None S = unknown
root_found (Some i) S = root i S 0

abbrev pub opened : Schema → List ℕ → Found
opened schema S = root_found schema.statements.root S
