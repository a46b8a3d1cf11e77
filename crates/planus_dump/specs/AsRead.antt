-- The tests of a dump are the clauses of `planus_read`.
use Rattle.std.specs.Prelude.{◌≡◌, ◌≢◌, ◌↔◌, ℕ, ℤ, ◌+◌, ◌*◌, ◌/◌, ◌%◌, ◌<◌, ◌≤◌, ◌⊎◌, List, [], ◌∷◌, ◌++◌, map}
use Rattle.std.specs.Prelude.{length, drop, take, Option, Some, None, Result, Ok, Err, true, false, String}
use Rattle.std.specs.Prelude.{nat_eq, slice_get, from_bits, FitsSigned}
use Rattle.std.specs.Fmt.{decimal, signed_decimal}
use Rattle.std.specs.Int.{Width, w8, w16, w32, w64, byte_len, cast_unsigned}
use Rattle.std.specs.List.{AllByRecursion}
use Rattle.std.specs.Ordering.{int_eq}
use Rattle.std.specs.String.{string_bytes}
use Rattle.std.specs.declared.alloc.Global.{Global}
use lib.Ieee.{Float, Format, binary32, binary64}
use Rattle.planus_read.specs.declared.errors.ErrorKind.{ErrorKind}
use Rattle.planus_read.specs.declared.errors.ErrorKind.TheVariants.{InvalidOffset}
use Rattle.planus_read.specs.declared.table_reader.Table.{Table}
use Rattle.planus_read.specs.Clauses.{Reading, AllHold, Answer}
use Rattle.planus_read.specs.Reading.{number, number_reading, signed_reading, truth_reading}
use Rattle.planus_read.specs.Reading.{text_reading}
use Rattle.planus_read.specs.Reading.{byte_list_reading, vector_reading, union_vector_reading}
use Rattle.planus_read.specs.Reading.{table_reading, Items, UnionItems, TableLayout}
use Rattle.planus_read.specs.Plain.{IsLayout, NumberFits, plain_reading}
use Rattle.planus_read.specs.Shapes.{f32_shape, f64_shape}
use Rattle.planus_read.specs.Enums.{variant_in, Numbered, unsigned_enum, signed_enum}
use Rattle.planus_read.specs.lemmas.NumberLaws.{AreBytes}
use Rattle.planus_read.specs.Tables.{table_object, table_slots, slot_of, tag_of, BothSlots, HalfVector}
use Rattle.planus_read.specs.Tables.{UnionAbsent, UnionThere, UnionBroken, UnionVectorSlots}
use Rattle.planus_read.specs.Reading.{plain_ref_reading}
use Rattle.planus_dump.specs.Lines.{quoted, bytes_text, truth_text, names_text, field_path}
use Rattle.planus_dump.specs.Lines.{struct_line, value_line}
use Rattle.planus_dump.specs.Tests.{fault_text}
use Rattle.planus_dump.specs.Answers.{bits_at, unsigned_at, signed_at, leaf_at, vector_at}
use Rattle.planus_dump.specs.Answers.{union_vector_at}
use Rattle.planus_dump.specs.Answers.{table_at, union_at, unions_at, Seen, SeenItems, SeenUnion, lone_tag}
use Rattle.planus_dump.specs.Answers.{SeenUnions, some_of}
use Rattle.planus_dump.specs.ReadingViews.{answer_seen, table_seen}
use Rattle.planus_dump.specs.Events.{Event, line, TableEvents, fault_event, counted_events}
use Rattle.planus_dump.specs.Events.{led_events}
use Rattle.planus_dump.specs.Events.{struct_events, structs, enum_at, number_width, names_in, place_events}
use Rattle.planus_dump.specs.declared.values.Leaf.TheVariants.{Number as LeafNumber, Bool, Text, Bytes}
use Rattle.planus_dump.specs.declared.schemas.Schema.{Schema}
use Rattle.planus_dump.specs.declared.schemas.EnumSchema.{EnumSchema}
use Rattle.planus_dump.specs.declared.schemas.StructSchema.{StructSchema}
use Rattle.planus_dump.specs.declared.schemas.StructFieldSchema.{StructFieldSchema}
use Rattle.planus_dump.specs.declared.schemas.Number.{Number}
use Rattle.planus_dump.specs.declared.schemas.Number.TheVariants as numbers
use Rattle.planus_dump.specs.declared.schemas.Kind.TheVariants.{Nested}

-- the value if one is encoded, else the message of an error
pub record SaysAsRead {A B : Type 0} (reading : Reading A) (sees : A → B)
    (said : Result B (List ℕ)) : Type 0 where
  pub answer : (r : Result A ErrorKind) → Answer reading r → said ≡ answer_seen sees r
  pub value : (b : B) → said ≡ Ok b → (x : A) × reading.There x × (b ≡ sees x)
  pub fault : (text : List ℕ) → said ≡ Err text → AllHold reading.clauses → ⊥

abbrev pub items_in : List ℕ → Items → SeenItems
items_in S items = record { bytes = drop items.position S; count = items.count }

abbrev pub unions_in : List ℕ → UnionItems → SeenUnions
unions_in S items =
    record {
      tags = drop items.tags S;
      references = drop items.references S;
      count = items.count;
    }

abbrev pub layout_in : List ℕ → TableLayout → Seen
layout_in S layout =
    record {
      object = drop layout.object S;
      slots = drop 4 (take layout.size (drop layout.vtable S));
    }

-- ---- numbers, bools, strings, vectors, tables

-- A dump has the result of each kind of reading.
pub record ReadingsAreSaid (S : List ℕ) (f : ℕ) : Type 0 where
  pub unsigned :
      (width : Width) → SaysAsRead (number_reading S f width) decimal (unsigned_at width S f)
  pub signed :
      (width : Width) → SaysAsRead (signed_reading S f width) signed_decimal (signed_at width S f)
  pub truth : SaysAsRead (truth_reading S f) truth_text (leaf_at Bool S f)
  pub text : SaysAsRead (text_reading S f) quoted (leaf_at Text S f)
  pub byte_list : SaysAsRead (byte_list_reading S f) bytes_text (leaf_at Bytes S f)
  pub vector :
      (stride : ℕ) → SaysAsRead (vector_reading S f stride) (items_in S) (vector_at stride S f)
  pub union_vector :
      (g : ℕ) → SaysAsRead (union_vector_reading S f g) (unions_in S) (union_vector_at S f g)
  pub table : SaysAsRead (table_reading S f) (layout_in S) (table_at S f)

-- ---- floats

-- the float with these bits
abbrev pub as_float : Format → Result ℕ (List ℕ) → Result Float (List ℕ)
as_float format (Ok n) = Ok (from_bits format n)
as_float format (Err fault) = Err fault

-- The bits that a dump prints are those of the reader's float.
pub record FloatsAreSaid (S : List ℕ) (f : ℕ) : Type 0 where
  pub single :
      SaysAsRead (plain_reading f32_shape S f) (λ x. x) (as_float binary32 (bits_at w32 S f))
  pub double :
      SaysAsRead (plain_reading f64_shape S f) (λ x. x) (as_float binary64 (bits_at w64 S f))

-- ---- enums

-- unsigned numbers of this width
abbrev pub IsUnsigned : Width → Number → Type 0
IsUnsigned width numbers.U8 = width ≡ w8
IsUnsigned width numbers.U16 = width ≡ w16
IsUnsigned width numbers.U32 = width ≡ w32
IsUnsigned width numbers.U64 = width ≡ w64
IsUnsigned width _ = ⊥

abbrev pub IsSigned : Width → Number → Type 0
IsSigned width numbers.I8 = width ≡ w8
IsSigned width numbers.I16 = width ≡ w16
IsSigned width numbers.I32 = width ≡ w32
IsSigned width numbers.I64 = width ≡ w64
IsSigned width _ = ⊥

-- Where a reader returns a variant, its number and names are said; where it fails, its error is.
pub record EnumIsSaid {E N : Type 0} (reading : Reading E) (variant : N → Option E)
    (bits : N → ℕ) (number_text : N → List ℕ) (shape : EnumSchema) (S : List ℕ) (f : ℕ)
    : Type 0 where
  pub value :
      (x : E) → Answer reading (Ok x)
      → (n : N) × (variant n ≡ Some x) × (enum_at shape S f
      ≡ Ok (number_text n ++ names_text (names_in false (bits n) shape.values.items)))
  pub fault : (e : ErrorKind) → Answer reading (Err e) → enum_at shape S f ≡ Err (fault_text e)

-- An enum of the schema is read as one of `planus_read` with the same numbers.
pub record EnumsAreSaid (E : Type 0) (S : List ℕ) (f : ℕ) : Type 0 where
  pub unsigned :
      (width : Width) (are : AreBytes width)
      (layout : IsLayout (byte_len width) (byte_len width)) (variants : List (ℕ × E))
      (numbers_are : (x : E) → Numbered nat_eq variants x) (shape : EnumSchema)
      → IsUnsigned width shape.number → shape.flags ≡ false
      → map (λ value. value.0) shape.values.items ≡ map (λ one. one.0) variants
      → EnumIsSaid (plain_reading (unsigned_enum width are layout variants numbers_are) S f)
      (variant_in nat_eq variants) (λ n. n) decimal shape S f
  pub signed :
      (width : Width) (are : AreBytes width)
      (layout : IsLayout (byte_len width) (byte_len width)) (variants : List (ℤ × E))
      (numbers_are : (x : E) → Numbered int_eq variants x) (shape : EnumSchema)
      → IsSigned width shape.number → shape.flags ≡ false
      → NumberFits width (number S f width)
      → AllByRecursion (λ one. FitsSigned width one.0) variants
      → map (λ value. value.0) shape.values.items ≡ map (λ one. cast_unsigned width one.0) variants
      → EnumIsSaid (plain_reading (signed_enum width are layout variants numbers_are) S f)
      (variant_in int_eq variants) (cast_unsigned width) signed_decimal shape S f

-- ---- flags

-- the number has the bit of this value, a power of two
abbrev pub HasFlag : ℕ → ℕ → Type 0
HasFlag n value = (value ≢ 0) × (n / value % 2 ≡ 1)

-- the names of the flags that a number has, in the schema's order
abbrev pub AreFlags : ℕ → List (ℕ × String Global) → List (List ℕ) → Type 0
AreFlags n [] names = names ≡ []
AreFlags n (value ∷ values) names =
    (HasFlag n value.0 × ((more : List (List ℕ)) × (names ≡ string_bytes value.1 ∷ more)
    × AreFlags n values more))
    ⊎ ((HasFlag n value.0 → ⊥) × AreFlags n values names)

-- An enum with `bit_flags` is said as its integer, with the names of all flags that it has.
pub record FlagsAreSaid (S : List ℕ) (f : ℕ) : Type 0 where
  pub value :
      (shape : EnumSchema) (text : List ℕ) → shape.flags ≡ true
      → leaf_at (LeafNumber shape.number) S f ≡ Ok text
      → (names : List (List ℕ)) × (enum_at shape S f ≡ Ok (text ++ names_text names))
      × AreFlags (number S f (number_width shape.number)) shape.values.items names
  pub fault :
      (shape : EnumSchema) (fault : List ℕ) → shape.flags ≡ true
      → leaf_at (LeafNumber shape.number) S f ≡ Err fault → enum_at shape S f ≡ Err fault

-- ---- structs

-- The fields of a struct at f of S, each read at its own distance from f; the items of an array,
-- each at its own distance from the first.
abbrev pub fields_at :
    Schema → TableEvents → List StructFieldSchema → List ℕ → ℕ → List ℕ → List Event
fields_at schema T [] S f path = []
fields_at schema T (field ∷ fields) S f path =
    counted_events schema T field.count field.fixed S (f + field.distance)
    (field_path path (string_bytes field.name))
    ++ fields_at schema T fields S f path

-- The bytes are tested as one value's of a fixed size; then come the fields.
pub record StructsAreSaid (S : List ℕ) (f : ℕ) : Type 0 where
  pub inside :
      (schema : Schema) (left : ℕ) (shape : StructSchema) (path : List ℕ)
      → f + shape.size ≤ length S
      → struct_events schema (structs schema left) (Some shape) S f path
      ≡ line (struct_line path (string_bytes shape.name))
      ∷ fields_at schema (structs schema left) shape.fields.items S f path
  pub outside :
      (schema : Schema) (left : ℕ) (shape : StructSchema) (path : List ℕ)
      → (f + shape.size ≤ length S → ⊥)
      → struct_events schema (structs schema left) (Some shape) S f path
      ≡ fault_event path (fault_text InvalidOffset) ∷ []

-- A union's struct is said where the reference at f of S leads, or the error of the reader is.
pub record LedStructsAreSaid (S : List ℕ) (f : ℕ) : Type 0 where
  pub there :
      (schema : Schema) (index : ℕ) (shape : StructSchema) (path : List ℕ) (position : ℕ)
      → slice_get schema.structs.items index ≡ Some shape
      → Answer (plain_ref_reading shape.size S f) (Ok position)
      → led_events schema index S f path (bits_at w32 S f)
      ≡ line (struct_line path (string_bytes shape.name))
      ∷ fields_at schema (structs schema 63) shape.fields.items S position path
  pub fault :
      (schema : Schema) (index : ℕ) (shape : StructSchema) (path : List ℕ) (e : ErrorKind)
      → slice_get schema.structs.items index ≡ Some shape
      → Answer (plain_ref_reading shape.size S f) (Err e)
      → led_events schema index S f path (bits_at w32 S f) ≡ fault_event path (fault_text e) ∷ []

-- ---- buffers in byte vectors

-- The table at the root of what the byte vector's reader returns, or those bytes where that can't
-- be read.
pub record BuffersAreSaid (S : List ℕ) (f : ℕ) : Type 0 where
  pub table :
      (E : TableEvents) (index : ℕ) (path content : List ℕ) (layout : TableLayout)
      → Answer (byte_list_reading S f) (Ok content)
      → Answer (table_reading content 0) (Ok layout)
      → place_events E (Nested index) S f path ≡ E index content 0 path
  pub bytes :
      (E : TableEvents) (index : ℕ) (path content : List ℕ) (e : ErrorKind)
      → Answer (byte_list_reading S f) (Ok content) → Answer (table_reading content 0) (Err e)
      → place_events E (Nested index) S f path ≡ line (value_line path (bytes_text content)) ∷ []
  pub fault :
      (E : TableEvents) (index : ℕ) (path : List ℕ) (e : ErrorKind)
      → Answer (byte_list_reading S f) (Err e)
      → place_events E (Nested index) S f path ≡ fault_event path (fault_text e) ∷ []

-- ---- unions

-- Slot i has a tag above 0, and the next slot is 0.
pub record IsLone (table : Table) (i tag : ℕ) : Type 0 where
  pub tag_slot : slot_of table i ≢ 0
  pub tag_byte : tag_of table i ≡ Some tag
  pub tag_present : tag ≢ 0
  pub no_value : slot_of table (i + 1) ≡ 0

-- It has the accessor's result for a union, and the tag of one without a value.
pub record UnionsAreSaid (table : Table) (i : ℕ) : Type 0 where
  pub absent : (union_at (table_seen table) i ≡ Ok None) ↔ UnionAbsent table i
  pub there : (union : SeenUnion) → (union_at (table_seen table) i ≡ Ok (Some union))
      ↔ (UnionThere table i union.tag × (union.offset ≡ slot_of table (i + 1)))
  pub broken : (text : List ℕ) → (union_at (table_seen table) i ≡ Err text)
      ↔ ((e : ErrorKind) × UnionBroken table i e × (text ≡ fault_text e))
  pub lone : (tag : ℕ) → (lone_tag (table_seen table) i ≡ Some tag) ↔ IsLone table i tag

-- both slots aren't in the vtable, or both hold 0
abbrev pub NoUnionVector : Table → ℕ → Type 0
NoUnionVector table i =
    (length (table_slots table) < 2 * i + 4)
    ⊎ (BothSlots table i × (slot_of table i ≡ 0) × (slot_of table (i + 1) ≡ 0))

-- It has the accessor's result for a union vector.
pub record UnionVectorsAreSaid (table : Table) (i : ℕ) : Type 0 where
  pub absent : NoUnionVector table i → unions_at (table_seen table) i ≡ Ok None
  pub half : HalfVector table i → unions_at (table_seen table) i ≡ Err (fault_text InvalidOffset)
  pub there : (said : Result SeenUnions (List ℕ)) → UnionVectorSlots table i
      → union_vector_at (table_object table) (slot_of table i) (slot_of table (i + 1)) ≡ said
      → unions_at (table_seen table) i ≡ some_of said
  pub one_of : NoUnionVector table i ⊎ HalfVector table i ⊎ UnionVectorSlots table i
