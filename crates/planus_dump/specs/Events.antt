-- The events of a dump, line by line.
use Rattle.std.specs.Prelude.{ℕ, zero, suc, ◌+◌, ◌*◌, ◌/◌, ◌%◌, ◌==◌, List, [], ◌∷◌, ◌++◌, Vec}
use Rattle.std.specs.Prelude.{slice_get, slice_index, drop, length, nat_le, codes, String}
use Rattle.std.specs.Prelude.{Bool as Truth, true, false, not, ◌&&◌}
use Rattle.std.specs.Prelude.{Option, Some, None, Result, Ok, Err, if◌then◌else◌}
use Rattle.std.specs.Int.{Width, w8, w16, w32, w64, byte_len}
use Rattle.std.specs.String.{string_bytes}
use Rattle.std.specs.declared.alloc.Global.{Global}
use Rattle.planus_read.specs.declared.errors.ErrorKind.TheVariants.{UnknownUnionTag}
use Rattle.planus_read.specs.declared.errors.ErrorKind.TheVariants.{InvalidOffset}
use Rattle.planus_read.specs.declared.errors.ErrorKind.TheVariants.{MissingRequired}
use Rattle.planus_read.specs.Reading.{number}
use Rattle.planus_read.specs.Tables.{Slot}
use Rattle.planus_dump.specs.Lines.{field_path, item_path, value_line, fault_line, table_line}
use Rattle.planus_dump.specs.Lines.{list_line, union_line, unions_line, struct_line, names_text}
use Rattle.planus_dump.specs.Lines.{bytes_text, unknown_enum_text, lone_tag_text}
use Rattle.planus_dump.specs.Tests.{fault_text, answered, byte_list_tests, content_at}
use Rattle.planus_dump.specs.Answers.{leaf_at, bits_at, Seen, table_at, SeenItems, vector_at}
use Rattle.planus_dump.specs.Answers.{SeenUnion, SeenUnions, union_at, unions_at}
use Rattle.planus_dump.specs.Answers.{lone_tag}
use Rattle.planus_dump.specs.declared.line.Bits.{Bits}
use Rattle.planus_dump.specs.declared.line.Bits.TheVariants as bits
use Rattle.planus_dump.specs.declared.schemas.EnumSchema.{EnumSchema}
use Rattle.planus_dump.specs.declared.schemas.StructSchema.{StructSchema}
use Rattle.planus_dump.specs.declared.schemas.StructFieldSchema.{StructFieldSchema}
use Rattle.planus_dump.specs.declared.schemas.Number.{Number}
use Rattle.planus_dump.specs.declared.schemas.Number.TheVariants as numbers
use Rattle.planus_dump.specs.declared.schemas.Fixed.{Fixed}
use Rattle.planus_dump.specs.declared.schemas.Fixed.TheVariants as fixed
use Rattle.planus_dump.specs.declared.schemas.Schema.{Schema}
use Rattle.planus_dump.specs.declared.schemas.TableSchema.{TableSchema}
use Rattle.planus_dump.specs.declared.schemas.FieldSchema.{FieldSchema}
use Rattle.planus_dump.specs.declared.schemas.VariantSchema.{VariantSchema}
use Rattle.planus_dump.specs.declared.schemas.VariantKind.{VariantKind}
use Rattle.planus_dump.specs.declared.schemas.VariantKind.TheVariants as member
use Rattle.planus_dump.specs.declared.schemas.Kind.{Kind}
use Rattle.planus_dump.specs.declared.schemas.Kind.TheVariants.{One, List as ListOf, Union}
use Rattle.planus_dump.specs.declared.schemas.Kind.TheVariants.{UnionVector, Bytes}
use Rattle.planus_dump.specs.declared.schemas.Kind.TheVariants.{Fixed as FixedKind, FixedList}
use Rattle.planus_dump.specs.declared.schemas.Kind.TheVariants.{Nested}
use Rattle.planus_dump.specs.declared.schemas.Item.{Item}
use Rattle.planus_dump.specs.declared.schemas.Item.TheVariants.{Number as NumberItem, Bool, Text, Table}
use Rattle.planus_dump.specs.declared.values.Leaf.{Leaf}
use Rattle.planus_dump.specs.declared.values.Leaf.TheVariants.{Number as LeafNumber, Bool as LeafBool, Text as LeafText}
use Rattle.planus_dump.specs.declared.values.Leaf.TheVariants.{Bytes as LeafBytes}

-- a line, one that states an error, the mark of a table or a struct that is too deep and isn't read,
-- or a float at a path
pub data Event : Type 0 where
  line : List ℕ → Event
  faulty : List ℕ → Event
  deep : Event
  float : List ℕ → Bits → Event

-- the name of a field in its path
abbrev pub field_label : FieldSchema → List ℕ
field_label field =
    if field.deprecated then string_bytes field.name ++ codes " (deprecated)"
    else string_bytes field.name

abbrev pub fault_event : List ℕ → List ℕ → Event
fault_event path fault = faulty (fault_line path fault)

-- the line for a field that is required and absent; none for another
abbrev pub absent_events : Truth → List ℕ → List Event
absent_events true path = fault_event path (fault_text MissingRequired) ∷ []
absent_events false path = []

-- the tag of a union without a value, where the schema takes that for wrong
abbrev pub wrong_tag : Schema → Seen → ℕ → Option ℕ
wrong_tag schema table i = if schema.tags_need_values then lone_tag table i else None

-- the line for an absent union with a wrong tag, or as for any absent field
abbrev pub no_union_events : Truth → List ℕ → Option ℕ → List Event
no_union_events required path (Some tag) = fault_event path (lone_tag_text tag) ∷ []
no_union_events required path None = absent_events required path

-- a scalar, or its error
abbrev pub answer_event : List ℕ → Result (List ℕ) (List ℕ) → Event
answer_event path (Ok text) = line (value_line path text)
answer_event path (Err fault) = fault_event path fault

-- a scalar at f of S
abbrev pub leaf_events : Leaf → List ℕ → ℕ → List ℕ → List Event
leaf_events leaf S f path = answer_event path (leaf_at leaf S f) ∷ []

-- the width of an integer
abbrev pub number_width : Number → Width
number_width numbers.U8 = w8
number_width numbers.U16 = w16
number_width numbers.U32 = w32
number_width numbers.U64 = w64
number_width numbers.I8 = w8
number_width numbers.I16 = w16
number_width numbers.I32 = w32
number_width numbers.I64 = w64

-- the size of an item in a vector
abbrev pub stride_of : Item → ℕ
stride_of (NumberItem number) = byte_len (number_width number)
stride_of Bool = 1
stride_of Text = 4
stride_of (Table index) = 4

-- the variant with this tag
abbrev pub variant_of : List VariantSchema → ℕ → Option VariantSchema
variant_of [] tag = None
variant_of (variant ∷ rest) tag =
    if variant.tag == tag then Some variant else variant_of rest tag

-- by a table's index in the schema, bytes, the offset of its reference, and its path
abbrev pub TableEvents : Type 0
TableEvents = ℕ → List ℕ → ℕ → List ℕ → List Event

-- ---- values of a fixed size

abbrev pub float_event : (ℕ → Bits) → List ℕ → Result ℕ (List ℕ) → Event
float_event make path (Ok n) = float path (make n)
float_event make path (Err fault) = fault_event path fault

-- whether a number is this value, or has this flag
abbrev pub has_value : Truth → ℕ → ℕ → Truth
has_value true number value = not (value == 0) && number / value % 2 == 1
has_value false number value = number == value

-- the names of the values that a number has
abbrev pub names_in : Truth → ℕ → List (ℕ × String Global) → List (List ℕ)
names_in flags number [] = []
names_in flags number (value ∷ values) =
    if has_value flags number value.0 then string_bytes value.1 ∷ names_in flags number values
    else names_in flags number values

-- A number and its names. None is an error, unless a number is a set of flags.
abbrev pub text_named : Truth → List ℕ → List (List ℕ) → Result (List ℕ) (List ℕ)
text_named true text names = Ok (text ++ names_text names)
text_named false text [] = Err (unknown_enum_text text)
text_named false text (name ∷ names) = Ok (text ++ names_text (name ∷ names))

abbrev pub named : Truth → Result (List ℕ) (List ℕ) → List (List ℕ) → Result (List ℕ) (List ℕ)
named flags (Ok text) names = text_named flags text names
named flags (Err fault) names = Err fault

-- the number of an enum at f of S
abbrev pub enum_at : EnumSchema → List ℕ → ℕ → Result (List ℕ) (List ℕ)
enum_at shape S f =
    named shape.flags (leaf_at (LeafNumber shape.number) S f)
    (names_in shape.flags (number S f (number_width shape.number)) shape.values.items)

abbrev pub enum_events : Option EnumSchema → List ℕ → ℕ → List ℕ → List Event
enum_events None S f path = []
enum_events (Some shape) S f path = answer_event path (enum_at shape S f) ∷ []

-- the size of an enum's number
abbrev pub enum_size : Option EnumSchema → ℕ
enum_size None = 1
enum_size (Some shape) = byte_len (number_width shape.number)

abbrev pub struct_size : Option StructSchema → ℕ
struct_size None = 1
struct_size (Some shape) = shape.size

abbrev pub fixed_size : Schema → Fixed → ℕ
fixed_size schema (fixed.Number number) = byte_len (number_width number)
fixed_size schema fixed.Bool = 1
fixed_size schema fixed.F32 = 4
fixed_size schema fixed.F64 = 8
fixed_size schema (fixed.Enum index) = enum_size (slice_get schema.enums.items index)
fixed_size schema (fixed.Struct index) = struct_size (slice_get schema.structs.items index)

-- T has a struct's events, by its index in the schema, bytes, its offset in them, and its path.
module _ (schema : Schema) (T : TableEvents) where
  -- a value of a fixed size at f of S
  abbrev pub fixed_events : Fixed → List ℕ → ℕ → List ℕ → List Event
  fixed_events (fixed.Number number) S f path = leaf_events (LeafNumber number) S f path
  fixed_events fixed.Bool S f path = leaf_events LeafBool S f path
  fixed_events fixed.F32 S f path = float_event bits.F32 path (bits_at w32 S f) ∷ []
  fixed_events fixed.F64 S f path = float_event bits.F64 path (bits_at w64 S f) ∷ []
  fixed_events (fixed.Enum index) S f path =
      enum_events (slice_get schema.enums.items index) S f path
  fixed_events (fixed.Struct index) S f path = T index S f path

  -- n values one after another, from item i on; item 0 is at f of S
  abbrev pub values_events : Fixed → List ℕ → ℕ → List ℕ → ℕ → ℕ → List Event
  values_events value S f path zero i = []
  values_events value S f path (suc n) i =
      fixed_events value S (f + i * fixed_size schema value) (item_path path i)
      ++ values_events value S f path n (i + 1)

  -- a single value, or the items of an array
  abbrev pub counted_events : Option ℕ → Fixed → List ℕ → ℕ → List ℕ → List Event
  counted_events None value S f path = fixed_events value S f path
  counted_events (Some count) value S f path = values_events value S f path count 0

  abbrev pub struct_fields_events : List StructFieldSchema → List ℕ → List ℕ → List Event
  struct_fields_events [] S path = []
  struct_fields_events (field ∷ fields) S path =
      counted_events field.count field.fixed S field.distance
      (field_path path (string_bytes field.name))
      ++ struct_fields_events fields S path

  -- a struct at f of S, or its error
  abbrev pub struct_events : Option StructSchema → List ℕ → ℕ → List ℕ → List Event
  struct_events None S f path = []
  struct_events (Some shape) S f path =
      if nat_le (f + shape.size) (length S) then line (struct_line path (string_bytes shape.name))
      ∷ struct_fields_events shape.fields.items (drop f S) path
      else fault_event path (fault_text InvalidOffset) ∷ []

-- a struct, with up to left - 1 levels of structs in it
unfoldable pub structs : Schema → ℕ → TableEvents
structs schema zero index S f path = deep ∷ []
structs schema (suc left) index S f path =
    struct_events schema (structs schema left) (slice_get schema.structs.items index) S f path

abbrev pub greatest_nesting : ℕ
greatest_nesting = 64

-- any value of a fixed size
abbrev pub value_events : Schema → Fixed → List ℕ → ℕ → List ℕ → List Event
value_events schema value S f path =
    fixed_events schema (structs schema greatest_nesting) value S f path

-- the struct to which the reference at f of S leads, by the reference's number or its error
abbrev pub led_events : Schema → ℕ → List ℕ → ℕ → List ℕ → Result ℕ (List ℕ) → List Event
led_events schema index S f path (Ok n) = value_events schema (fixed.Struct index) S (f + n) path
led_events schema index S f path (Err fault) = fault_event path fault ∷ []

-- a vector of such values, or its error
abbrev pub fixed_list_events : Schema → Fixed → List ℕ → Result SeenItems (List ℕ) → List Event
fixed_list_events schema value path (Ok items) =
    line (list_line path items.count)
    ∷ values_events schema (structs schema greatest_nesting) value items.bytes 0 path items.count 0
fixed_list_events schema value path (Err fault) = fault_event path fault ∷ []

-- ---- what has parts

module _ (E : TableEvents) where
  abbrev pub item_events : Item → List ℕ → ℕ → List ℕ → List Event
  item_events (NumberItem number) S f path = leaf_events (LeafNumber number) S f path
  item_events Bool S f path = leaf_events LeafBool S f path
  item_events Text S f path = leaf_events LeafText S f path
  item_events (Table index) S f path = E index S f path

  abbrev pub items_events : Item → List ℕ → List ℕ → ℕ → ℕ → List Event
  items_events item S path zero i = []
  items_events item S path (suc n) i =
      item_events item S (i * stride_of item) (item_path path i)
      ++ items_events item S path n (i + 1)

  -- a vector, or its error
  abbrev pub list_events : Item → List ℕ → Result SeenItems (List ℕ) → List Event
  list_events item path (Ok items) =
      line (list_line path items.count) ∷ items_events item items.bytes path items.count 0
  list_events item path (Err fault) = fault_event path fault ∷ []

  -- a byte vector that is a buffer: its root, or its bytes where that can't be read
  abbrev pub buffer_events : ℕ → List ℕ → List ℕ → Result Seen (List ℕ) → List Event
  buffer_events index path content (Ok table) = E index content 0 path
  buffer_events index path content (Err fault) = line (value_line path (bytes_text content)) ∷ []

  abbrev pub nested_events : ℕ → List ℕ → Result (List ℕ) (List ℕ) → List Event
  nested_events index path (Ok content) = buffer_events index path content (table_at content 0)
  nested_events index path (Err fault) = fault_event path fault ∷ []

  -- a field with one place, of no fixed size
  abbrev pub place_events : Kind → List ℕ → ℕ → List ℕ → List Event
  place_events (One item) S f path = item_events item S f path
  place_events Bytes S f path = leaf_events LeafBytes S f path
  place_events (ListOf item) S f path = list_events item path (vector_at (stride_of item) S f)
  place_events (Union index) S f path = []
  place_events (UnionVector index) S f path = []
  place_events (FixedKind value) S f path = []
  place_events (FixedList value) S f path = []
  place_events (Nested index) S f path =
      nested_events index path (answered (byte_list_tests S f) (content_at S f))

  module _ (schema : Schema) where
    -- a variant's value, to which the reference at f of S leads
    abbrev pub member_events : VariantKind → List ℕ → ℕ → List ℕ → List Event
    member_events (member.Table index) S f path = E index S f path
    member_events (member.Struct index) S f path = led_events schema index S f path (bits_at w32 S f)
    member_events member.Text S f path = leaf_events LeafText S f path

    abbrev pub variant_events : ℕ → List ℕ → ℕ → List ℕ → Option VariantSchema → List Event
    variant_events tag S f path (Some one) =
        line (union_line path tag (string_bytes one.name)) ∷ member_events one.kind S f path
    variant_events tag S f path None = fault_event path (fault_text (UnknownUnionTag tag)) ∷ []

    -- a union of these variants, if the schema has them
    abbrev pub union_events :
        Option (Vec VariantSchema Global) → ℕ → List ℕ → ℕ → List ℕ → List Event
    union_events None tag S f path = []
    union_events (Some variants) tag S f path =
        variant_events tag S f path (variant_of variants.items tag)

    -- `wrong`: the tag of a union without a value
    abbrev pub union_field_events : Truth → ℕ → List ℕ → List ℕ → Option ℕ
        → Result (Option SeenUnion) (List ℕ) → List Event
    union_field_events required index object path wrong (Ok None) =
        no_union_events required path wrong
    union_field_events required index object path wrong (Ok (Some union)) =
        union_events (slice_get schema.unions.items index) union.tag object union.offset path
    union_field_events required index object path wrong (Err fault) = fault_event path fault ∷ []

    abbrev pub union_items_events : ℕ → SeenUnions → List ℕ → ℕ → ℕ → List Event
    union_items_events index items path zero i = []
    union_items_events index items path (suc n) i =
        union_events (slice_get schema.unions.items index) (slice_index items.tags i)
        items.references (i * 4) (item_path path i)
        ++ union_items_events index items path n (i + 1)

    -- a union vector, or its error
    abbrev pub unions_events :
        Truth → ℕ → List ℕ → Result (Option SeenUnions) (List ℕ) → List Event
    unions_events required index path (Ok None) = absent_events required path
    unions_events required index path (Ok (Some items)) =
        line (unions_line path items.count) ∷ union_items_events index items path items.count 0
    unions_events required index path (Err fault) = fault_event path fault ∷ []

    -- absent where the distance is 0
    abbrev pub present : Truth → List ℕ → ℕ → List Event → List Event
    present required path distance events =
        if distance == 0 then absent_events required path else events

    -- a field of this kind in this slot
    abbrev pub kind_events : Truth → Kind → ℕ → Seen → List ℕ → List Event
    kind_events required (Union index) i table path =
        union_field_events required index table.object path (wrong_tag schema table i)
        (union_at table i)
    kind_events required (UnionVector index) i table path =
        unions_events required index path (unions_at table i)
    kind_events required (FixedKind value) i table path =
        present required path (Slot table.slots i)
        (value_events schema value table.object (Slot table.slots i) path)
    kind_events required (FixedList value) i table path =
        present required path (Slot table.slots i) (fixed_list_events schema value path
        (vector_at (fixed_size schema value) table.object (Slot table.slots i)))
    kind_events required kind i table path =
        present required path (Slot table.slots i)
        (place_events kind table.object (Slot table.slots i) path)

    abbrev pub fields_events : Seen → List ℕ → List FieldSchema → List Event
    fields_events table path [] = []
    fields_events table path (field ∷ fields) =
        kind_events field.required field.kind field.slot table
        (field_path path (field_label field))
        ++ fields_events table path fields

    -- a table, or its error
    abbrev pub table_events : TableSchema → List ℕ → Result Seen (List ℕ) → List Event
    table_events shape path (Ok table) =
        line (table_line path (string_bytes shape.name))
        ∷ fields_events table path shape.fields.items
    table_events shape path (Err fault) = fault_event path fault ∷ []

    abbrev pub shape_events : Option TableSchema → List ℕ → ℕ → List ℕ → List Event
    shape_events None S f path = []
    shape_events (Some shape) S f path = table_events shape path (table_at S f)

-- a table, with up to left - 1 levels of tables below it, so finitely many events
unfoldable pub events : Schema → ℕ → TableEvents
events schema zero index S f path = deep ∷ []
events schema (suc left) index S f path =
    shape_events (events schema left) schema (slice_get schema.tables.items index) S f path
