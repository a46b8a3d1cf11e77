-- What the readers return of a buffer, as a tree.
use Rattle.std.specs.Prelude.{ℕ, zero, suc, ◌+◌, ◌-◌, ◌*◌, ◌==◌, not, ◌&&◌, List, [], ◌∷◌, ◌++◌}
use Rattle.std.specs.Prelude.{Vec, String, slice_get, slice_index, drop, length, nat_le, codes}
use Rattle.std.specs.Prelude.{Bool as Truth, true, false, if◌then◌else◌}
use Rattle.std.specs.Prelude.{Option, Some, None, Result, Ok, Err}
use Rattle.std.specs.Int.{w32, w64}
use Rattle.std.specs.Fmt.{decimal}
use Rattle.std.specs.String.{string_bytes}
use Rattle.std.specs.declared.alloc.Global.{Global}
use Rattle.planus_read.specs.declared.errors.ErrorKind.TheVariants.{UnknownUnionTag}
use Rattle.planus_read.specs.declared.errors.ErrorKind.TheVariants.{InvalidOffset}
use Rattle.planus_read.specs.declared.errors.ErrorKind.TheVariants.{MissingRequired}
use Rattle.planus_read.specs.Reading.{number}
use Rattle.planus_read.specs.Tables.{Slot}
use Rattle.planus_dump.specs.Lines.{field_path, item_path, lone_tag_text}
use Rattle.planus_dump.specs.Tests.{fault_text, answered, text_tests, byte_list_tests, content_at}
use Rattle.planus_dump.specs.Answers.{leaf_at, bits_at, Seen, table_at, SeenItems, vector_at}
use Rattle.planus_dump.specs.Answers.{SeenUnion, SeenUnions, union_at, unions_at}
use Rattle.planus_dump.specs.Events.{stride_of, variant_of, number_width, has_value}
use Rattle.planus_dump.specs.Events.{names_in, fixed_size, greatest_nesting, wrong_tag, field_label}
use Rattle.planus_dump.specs.Dumped.{greatest_depth}
use Rattle.planus_dump.specs.declared.line.Bits.{Bits}
use Rattle.planus_dump.specs.declared.line.Bits.TheVariants as bits
use Rattle.planus_dump.specs.declared.schemas.EnumSchema.{EnumSchema}
use Rattle.planus_dump.specs.declared.schemas.StructSchema.{StructSchema}
use Rattle.planus_dump.specs.declared.schemas.StructFieldSchema.{StructFieldSchema}
use Rattle.planus_dump.specs.declared.schemas.Fixed.{Fixed}
use Rattle.planus_dump.specs.declared.schemas.Fixed.TheVariants as fixed
use Rattle.planus_dump.specs.declared.schemas.Schema.{Schema}
use Rattle.planus_dump.specs.declared.schemas.TableSchema.{TableSchema}
use Rattle.planus_dump.specs.declared.schemas.FieldSchema.{FieldSchema}
use Rattle.planus_dump.specs.declared.schemas.VariantSchema.{VariantSchema}
use Rattle.planus_dump.specs.declared.schemas.VariantKind.{VariantKind}
use Rattle.planus_dump.specs.declared.schemas.VariantKind.TheVariants as member_kinds
use Rattle.planus_dump.specs.declared.schemas.Kind.{Kind}
use Rattle.planus_dump.specs.declared.schemas.Kind.TheVariants.{One, List as ListOf, Union}
use Rattle.planus_dump.specs.declared.schemas.Kind.TheVariants.{UnionVector, Bytes}
use Rattle.planus_dump.specs.declared.schemas.Kind.TheVariants.{Fixed as FixedKind, FixedList}
use Rattle.planus_dump.specs.declared.schemas.Kind.TheVariants.{Nested}
use Rattle.planus_dump.specs.declared.schemas.Item.{Item}
use Rattle.planus_dump.specs.declared.schemas.Item.TheVariants as items
use Rattle.planus_dump.specs.declared.values.Leaf.TheVariants.{Number as LeafNumber, Bool as LeafBool}

-- a number, or true or false, as it is printed; a float; a string; a list; an object; an error, of a
-- path; a table or a struct that is too deep and isn't read; what the schema doesn't have
mutual
  pub data Tree : Type 0 where
    word : List ℕ → Tree
    float : Bits → Tree
    string : List ℕ → Tree
    list : Trees → Tree
    object : Members → Tree
    fault : List ℕ → List ℕ → Tree
    deep : Tree
    nothing : Tree

  -- the items of a list
  pub data Trees : Type 0 where
    none : Trees
    item : Tree → Trees → Trees

  -- the members of an object, with their names
  pub data Members : Type 0 where
    empty : Members
    member : List ℕ → Tree → Members → Members

-- members one after another
abbrev pub join : Members → Members → Members
join empty others = others
join (member name t rest) others = member name t (join rest others)

-- a word, or its error
abbrev pub word_tree : List ℕ → Result (List ℕ) (List ℕ) → Tree
word_tree path (Ok text) = word text
word_tree path (Err message) = fault path message

abbrev pub string_tree : List ℕ → Result (List ℕ) (List ℕ) → Tree
string_tree path (Ok content) = string content
string_tree path (Err message) = fault path message

-- the string to which the reference at f of S leads
abbrev pub text_at : List ℕ → ℕ → Result (List ℕ) (List ℕ)
text_at S f = answered (text_tests S f) (content_at S f)

-- the byte vector to which the reference at f of S leads
abbrev pub bytes_at : List ℕ → ℕ → Result (List ℕ) (List ℕ)
bytes_at S f = answered (byte_list_tests S f) (content_at S f)

abbrev pub byte_trees : List ℕ → Trees
byte_trees [] = none
byte_trees (byte ∷ bytes) = item (word (decimal byte)) (byte_trees bytes)

abbrev pub bytes_tree : List ℕ → Result (List ℕ) (List ℕ) → Tree
bytes_tree path (Ok content) = list (byte_trees content)
bytes_tree path (Err message) = fault path message

-- by a table's index in the schema, bytes, the offset of its reference, and its path
abbrev pub TableTree : Type 0
TableTree = ℕ → List ℕ → ℕ → List ℕ → Tree

-- ---- values of a fixed size

abbrev pub float_tree : (ℕ → Bits) → List ℕ → Result ℕ (List ℕ) → Tree
float_tree make path (Ok n) = float (make n)
float_tree make path (Err message) = fault path message

-- the bits of a number that no flag of it has
abbrev pub bits_left : ℕ → ℕ → List (ℕ × String Global) → ℕ
bits_left number left [] = left
bits_left number left (value ∷ values) =
    if has_value true number value.0 then bits_left number (left - value.0) values
    else bits_left number left values

-- whether the number is printed: a set of flags with a bit that none has
abbrev pub is_unnamed : EnumSchema → ℕ → Truth
is_unnamed shape number =
    shape.flags && not (bits_left number number shape.values.items == 0)

-- names with a space between each two
abbrev pub spaced : Truth → List (List ℕ) → List ℕ
spaced first [] = []
spaced true (name ∷ names) = name ++ spaced false names
spaced false (name ∷ names) = codes " " ++ (name ++ spaced false names)

abbrev pub spaced_names : List (List ℕ) → Option (List ℕ)
spaced_names [] = None
spaced_names (name ∷ names) = Some (spaced true (name ∷ names))

abbrev pub named_tree : Truth → List ℕ → Option (List ℕ) → Tree
named_tree true text names = word text
named_tree false text None = word text
named_tree false text (Some names) = string names

abbrev pub number_tree : EnumSchema → ℕ → List ℕ → Result (List ℕ) (List ℕ) → Tree
number_tree shape number path (Ok text) =
    named_tree (is_unnamed shape number) text
    (spaced_names (names_in shape.flags number shape.values.items))
number_tree shape number path (Err message) = fault path message

-- the names of an enum's number at f of S, or the number where it has none
abbrev pub enum_tree : Option EnumSchema → List ℕ → ℕ → List ℕ → Tree
enum_tree None S f path = nothing
enum_tree (Some shape) S f path =
    number_tree shape (number S f (number_width shape.number)) path
    (leaf_at (LeafNumber shape.number) S f)

-- T has a struct's tree, by its index in the schema, bytes, its offset in them, and its path.
module _ (schema : Schema) (T : TableTree) where
  -- a value of a fixed size at f of S
  abbrev pub fixed_tree : Fixed → List ℕ → ℕ → List ℕ → Tree
  fixed_tree (fixed.Number number) S f path = word_tree path (leaf_at (LeafNumber number) S f)
  fixed_tree fixed.Bool S f path = word_tree path (leaf_at LeafBool S f)
  fixed_tree fixed.F32 S f path = float_tree bits.F32 path (bits_at w32 S f)
  fixed_tree fixed.F64 S f path = float_tree bits.F64 path (bits_at w64 S f)
  fixed_tree (fixed.Enum index) S f path = enum_tree (slice_get schema.enums.items index) S f path
  fixed_tree (fixed.Struct index) S f path = T index S f path

  -- n values one after another, from item i on; item 0 is at f of S
  abbrev pub values_trees : Fixed → List ℕ → ℕ → List ℕ → ℕ → ℕ → Trees
  values_trees value S f path zero i = none
  values_trees value S f path (suc n) i =
      item (fixed_tree value S (f + i * fixed_size schema value) (item_path path i))
      (values_trees value S f path n (i + 1))

  -- a single value, or an array
  abbrev pub counted_tree : Option ℕ → Fixed → List ℕ → ℕ → List ℕ → Tree
  counted_tree None value S f path = fixed_tree value S f path
  counted_tree (Some count) value S f path = list (values_trees value S f path count 0)

  abbrev pub struct_members : List StructFieldSchema → List ℕ → List ℕ → Members
  struct_members [] S path = empty
  struct_members (field ∷ fields) S path =
      member (string_bytes field.name) (counted_tree field.count field.fixed S field.distance
      (field_path path (string_bytes field.name))) (struct_members fields S path)

  -- a struct at f of S, or its error
  abbrev pub struct_tree : Option StructSchema → List ℕ → ℕ → List ℕ → Tree
  struct_tree None S f path = nothing
  struct_tree (Some shape) S f path =
      if nat_le (f + shape.size) (length S)
      then object (struct_members shape.fields.items (drop f S) path)
      else fault path (fault_text InvalidOffset)

-- a struct, with up to left - 1 levels of structs in it
unfoldable pub structs : Schema → ℕ → TableTree
structs schema zero index S f path = deep
structs schema (suc left) index S f path =
    struct_tree schema (structs schema left) (slice_get schema.structs.items index) S f path

-- any value of a fixed size
abbrev pub value_tree : Schema → Fixed → List ℕ → ℕ → List ℕ → Tree
value_tree schema value S f path = fixed_tree schema (structs schema greatest_nesting) value S f path

-- the struct to which the reference at f of S leads, by the reference's number or its error
abbrev pub led_tree : Schema → ℕ → List ℕ → ℕ → List ℕ → Result ℕ (List ℕ) → Tree
led_tree schema index S f path (Ok n) = value_tree schema (fixed.Struct index) S (f + n) path
led_tree schema index S f path (Err message) = fault path message

-- a vector of such values, or its error
abbrev pub fixed_list_tree : Schema → Fixed → List ℕ → Result SeenItems (List ℕ) → Tree
fixed_list_tree schema value path (Ok seen) =
    list (values_trees schema (structs schema greatest_nesting) value seen.bytes 0 path seen.count 0)
fixed_list_tree schema value path (Err message) = fault path message

-- ---- what has parts

-- the name of the type of a union of this name
abbrev pub type_name : List ℕ → List ℕ
type_name name = name ++ codes "_type"

-- a field that is absent
abbrev pub absent_members : Truth → List ℕ → List ℕ → Members
absent_members true name path = member name (fault path (fault_text MissingRequired)) empty
absent_members false name path = empty

-- an absent union, by its tag where that is wrong
abbrev pub no_union_members : Truth → List ℕ → List ℕ → Option ℕ → Members
no_union_members required name path (Some tag) =
    member name (fault path (lone_tag_text tag)) empty
no_union_members required name path None = absent_members required name path

-- the type of a union: its variant's name, or the tag where it has none
abbrev pub type_named : ℕ → List ℕ → Tree
type_named tag [] = word (decimal tag)
type_named tag (byte ∷ bytes) = string (byte ∷ bytes)

abbrev pub type_of : ℕ → Option VariantSchema → Tree
type_of tag None = word (decimal tag)
type_of tag (Some variant) = type_named tag (string_bytes variant.name)

abbrev pub type_tree : Option (Vec VariantSchema Global) → ℕ → Tree
type_tree None tag = nothing
type_tree (Some variants) tag = type_of tag (variant_of variants.items tag)

-- the types of the items of a union vector, from item i on
abbrev pub types_trees : Schema → ℕ → SeenUnions → ℕ → ℕ → Trees
types_trees schema index seen zero i = none
types_trees schema index seen (suc n) i =
    item (type_tree (slice_get schema.unions.items index) (slice_index seen.tags i))
    (types_trees schema index seen n (i + 1))

module _ (E : TableTree) where
  abbrev pub item_tree : Item → List ℕ → ℕ → List ℕ → Tree
  item_tree (items.Number number) S f path = word_tree path (leaf_at (LeafNumber number) S f)
  item_tree items.Bool S f path = word_tree path (leaf_at LeafBool S f)
  item_tree items.Text S f path = string_tree path (text_at S f)
  item_tree (items.Table index) S f path = E index S f path

  abbrev pub items_trees : Item → List ℕ → List ℕ → ℕ → ℕ → Trees
  items_trees one S path zero i = none
  items_trees one S path (suc n) i =
      item (item_tree one S (i * stride_of one) (item_path path i))
      (items_trees one S path n (i + 1))

  -- a vector, or its error
  abbrev pub list_tree : Item → List ℕ → Result SeenItems (List ℕ) → Tree
  list_tree one path (Ok seen) = list (items_trees one seen.bytes path seen.count 0)
  list_tree one path (Err message) = fault path message

  -- a byte vector that is a buffer: its root, or its bytes where that can't be read
  abbrev pub buffer_tree : ℕ → List ℕ → List ℕ → Result Seen (List ℕ) → Tree
  buffer_tree index path content (Ok table) = E index content 0 path
  buffer_tree index path content (Err message) = list (byte_trees content)

  abbrev pub nested_tree : ℕ → List ℕ → Result (List ℕ) (List ℕ) → Tree
  nested_tree index path (Ok content) = buffer_tree index path content (table_at content 0)
  nested_tree index path (Err message) = fault path message

  -- a field with one place
  abbrev pub place_tree : Schema → Kind → List ℕ → ℕ → List ℕ → Tree
  place_tree schema (One one) S f path = item_tree one S f path
  place_tree schema Bytes S f path = bytes_tree path (bytes_at S f)
  place_tree schema (ListOf one) S f path = list_tree one path (vector_at (stride_of one) S f)
  place_tree schema (Union index) S f path = nothing
  place_tree schema (UnionVector index) S f path = nothing
  place_tree schema (FixedKind value) S f path = value_tree schema value S f path
  place_tree schema (FixedList value) S f path =
      fixed_list_tree schema value path (vector_at (fixed_size schema value) S f)
  place_tree schema (Nested index) S f path = nested_tree index path (bytes_at S f)

  module _ (schema : Schema) where
    -- a variant's value, to which the reference at f of S leads
    abbrev pub member_tree : VariantKind → List ℕ → ℕ → List ℕ → Tree
    member_tree (member_kinds.Table index) S f path = E index S f path
    member_tree (member_kinds.Struct index) S f path = led_tree schema index S f path (bits_at w32 S f)
    member_tree member_kinds.Text S f path = string_tree path (text_at S f)

    abbrev pub variant_tree : ℕ → List ℕ → ℕ → List ℕ → Option VariantSchema → Tree
    variant_tree tag S f path (Some one) = member_tree one.kind S f path
    variant_tree tag S f path None = fault path (fault_text (UnknownUnionTag tag))

    -- the value of a union of these variants, if the schema has them
    abbrev pub union_tree : Option (Vec VariantSchema Global) → ℕ → List ℕ → ℕ → List ℕ → Tree
    union_tree None tag S f path = nothing
    union_tree (Some variants) tag S f path =
        variant_tree tag S f path (variant_of variants.items tag)

    -- a union's type and value; `wrong`: the tag of a union without a value
    abbrev pub union_members : Truth → ℕ → List ℕ → List ℕ → List ℕ → Option ℕ
        → Result (Option SeenUnion) (List ℕ) → Members
    union_members required index content name path wrong (Ok None) =
        no_union_members required name path wrong
    union_members required index content name path wrong (Ok (Some union)) =
        member (type_name name) (type_tree (slice_get schema.unions.items index) union.tag)
        (member name (union_tree (slice_get schema.unions.items index) union.tag content union.offset
        path) empty)
    union_members required index content name path wrong (Err message) =
        member name (fault path message) empty

    abbrev pub unions_trees : ℕ → SeenUnions → List ℕ → ℕ → ℕ → Trees
    unions_trees index seen path zero i = none
    unions_trees index seen path (suc n) i =
        item (union_tree (slice_get schema.unions.items index) (slice_index seen.tags i)
        seen.references (i * 4) (item_path path i)) (unions_trees index seen path n (i + 1))

    -- a union vector's types and values, or its error
    abbrev pub unions_members :
        Truth → ℕ → List ℕ → List ℕ → Result (Option SeenUnions) (List ℕ) → Members
    unions_members required index name path (Ok None) = absent_members required name path
    unions_members required index name path (Ok (Some seen)) =
        member (type_name name) (list (types_trees schema index seen seen.count 0))
        (member name (list (unions_trees index seen path seen.count 0)) empty)
    unions_members required index name path (Err message) = member name (fault path message) empty

    -- absent where the distance is 0
    abbrev pub present : Truth → List ℕ → List ℕ → ℕ → Tree → Members
    present required name path distance t =
        if distance == 0 then absent_members required name path else member name t empty

    -- a field of this kind in this slot, with its name and its path
    abbrev pub kind_members : Truth → Kind → ℕ → Seen → List ℕ → List ℕ → Members
    kind_members required (Union index) i table name path =
        union_members required index table.object name path (wrong_tag schema table i)
        (union_at table i)
    kind_members required (UnionVector index) i table name path =
        unions_members required index name path (unions_at table i)
    kind_members required kind i table name path =
        present required name path (Slot table.slots i)
        (place_tree schema kind table.object (Slot table.slots i) path)

    abbrev pub fields_members : Seen → List ℕ → List FieldSchema → Members
    fields_members table path [] = empty
    fields_members table path (field ∷ fields) =
        join (kind_members field.required field.kind field.slot table (string_bytes field.name)
        (field_path path (field_label field)))
        (fields_members table path fields)

    -- a table, or its error
    abbrev pub table_tree : TableSchema → List ℕ → Result Seen (List ℕ) → Tree
    table_tree shape path (Ok table) = object (fields_members table path shape.fields.items)
    table_tree shape path (Err message) = fault path message

    abbrev pub shape_tree : Option TableSchema → List ℕ → ℕ → List ℕ → Tree
    shape_tree None S f path = nothing
    shape_tree (Some shape) S f path = table_tree shape path (table_at S f)

-- a table, with up to left - 1 levels of tables below it
unfoldable pub tree : Schema → ℕ → TableTree
tree schema zero index S f path = deep
tree schema (suc left) index S f path =
    shape_tree (tree schema left) schema (slice_get schema.tables.items index) S f path

-- the tree of the table at 0, with the path `root`
abbrev pub tree_of : Schema → List ℕ → Tree
tree_of schema bytes = tree schema greatest_depth schema.root bytes 0 (codes "root")
