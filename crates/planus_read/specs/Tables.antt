-- Tables as readers hold them, and their fields.
use Rattle.std.specs.Prelude.{◌≡◌, ◌≢◌, ℕ, ◌+◌, ◌*◌, ◌≤◌, ◌<◌, ◌⊎◌, List, length, take, drop}
use Rattle.std.specs.Prelude.{Option, Some, None, Result, Ok, Err}
use Rattle.std.specs.Option.{unwrap_or}
use Rattle.std.specs.Int.{w8, w16}
use Rattle.planus_read.specs.declared.errors.ErrorKind.{ErrorKind}
use Rattle.planus_read.specs.declared.errors.ErrorKind.TheVariants.{InvalidOffset}
use Rattle.planus_read.specs.declared.errors.ErrorKind.TheVariants.{InvalidVtableLength}
use Rattle.planus_read.specs.declared.table_reader.Table.{Table}
use Rattle.planus_read.specs.Bytes.{Num}
use Rattle.planus_read.specs.Slices.{slice_bytes, slice_start}
use Rattle.planus_read.specs.Reading.{TableLayout}

-- a type's results by a slice's bytes, its start and an offset in it
abbrev pub Reads : Type 0 → Type 1
Reads T = List ℕ → ℕ → ℕ → Result T ErrorKind → Type 0

-- by two numbers: a tag and an offset, or two offsets
abbrev pub ReadsBoth : Type 0 → Type 1
ReadsBoth T = List ℕ → ℕ → ℕ → ℕ → Result T ErrorKind → Type 0

-- the bytes from the table's first on
abbrev pub table_object : Table → List ℕ
table_object table = slice_bytes table.object

abbrev pub table_start : Table → ℕ
table_start table = slice_start table.object

abbrev pub table_slots : Table → List ℕ
table_slots table = table.vtable.now

-- a table in S, with its vtable's slots
pub record ShowsTable (S : List ℕ) (start : ℕ) (layout : TableLayout) (table : Table) : Type 0 where
  pub object_bytes : table_object table ≡ drop layout.object S
  pub object_start : table_start table ≡ start + layout.object
  pub slots : table_slots table ≡ drop 4 (take layout.size (drop layout.vtable S))

-- The format: a slot has two bytes, the field's distance from the table's first byte, 0 for an
-- absent field. Slots past the vtable's end are absent.
abbrev pub Slot : List ℕ → ℕ → ℕ
Slot V i = unwrap_or (Num V (2 * i) w16) 0

abbrev pub slot_of : Table → ℕ → ℕ
slot_of table i = Slot (table_slots table) i

-- none if absent, else its type's result
abbrev pub FieldAnswer : {T : Type 0} → Reads T → Table → ℕ → Result (Option T) ErrorKind → Type 0
FieldAnswer reads table i (Ok None) = slot_of table i ≡ 0
FieldAnswer reads table i (Ok (Some x)) =
    (slot_of table i ≢ 0) × reads (table_object table) (table_start table) (slot_of table i) (Ok x)
FieldAnswer reads table i (Err e) =
    (slot_of table i ≢ 0) × reads (table_object table) (table_start table) (slot_of table i) (Err e)

-- both are in the vtable
abbrev pub BothSlots : Table → ℕ → Type 0
BothSlots table i = 2 * i + 4 ≤ length (table_slots table)

-- The tag byte at the distance in slot i, even where that is 0.
abbrev pub tag_of : Table → ℕ → Option ℕ
tag_of table i = Num (table_object table) (slot_of table i) w8

-- The format: a union field is two slots, a tag of one byte and a reference. Tag 0 means none.
pub record UnionThere (table : Table) (i tag : ℕ) : Type 0 where
  pub both : BothSlots table i
  pub tag_byte : tag_of table i ≡ Some tag
  pub tag_present : tag ≢ 0
  pub tag_slot : slot_of table i ≢ 0
  pub value_slot : slot_of table (i + 1) ≢ 0

-- The vtable ends before slot i, or the tag or a slot is 0.
abbrev pub UnionAbsent : Table → ℕ → Type 0
UnionAbsent table i =
    (length (table_slots table) ≤ 2 * i)
    ⊎ (BothSlots table i × ((tag : ℕ) × (tag_of table i ≡ Some tag)
    × ((tag ≡ 0) ⊎ (slot_of table i ≡ 0) ⊎ (slot_of table (i + 1) ≡ 0))))

-- The tag isn't in the object, or the vtable ends between the slots.
abbrev pub UnionBroken : Table → ℕ → ErrorKind → Type 0
UnionBroken table i e =
    (BothSlots table i × (tag_of table i ≡ None) × (e ≡ InvalidOffset))
    ⊎ ((2 * i < length (table_slots table)) × (length (table_slots table) < 2 * i + 4)
    × (e ≡ InvalidVtableLength (length (table_slots table) + 4)))

abbrev pub union_of : {T : Type 0} → ReadsBoth T → Table → ℕ → ℕ → Result T ErrorKind → Type 0
union_of reads table i tag r =
    reads (table_object table) (table_start table) tag (slot_of table (i + 1)) r

-- none, an error of damaged slots, or its type's result
abbrev pub UnionAnswer :
    {T : Type 0} → ReadsBoth T → Table → ℕ → Result (Option T) ErrorKind → Type 0
UnionAnswer reads table i (Ok None) = UnionAbsent table i
UnionAnswer reads table i (Ok (Some x)) =
    (tag : ℕ) × UnionThere table i tag × union_of reads table i tag (Ok x)
UnionAnswer reads table i (Err e) =
    UnionBroken table i e
    ⊎ ((tag : ℕ) × UnionThere table i tag × union_of reads table i tag (Err e))

-- The format: a union vector takes two slots, tags first.
pub record UnionVectorSlots (table : Table) (i : ℕ) : Type 0 where
  pub both : BothSlots table i
  pub tags_slot : slot_of table i ≢ 0
  pub values_slot : slot_of table (i + 1) ≢ 0

abbrev pub HalfVector : Table → ℕ → Type 0
HalfVector table i =
    BothSlots table i
    × (((slot_of table i ≡ 0) × (slot_of table (i + 1) ≢ 0))
    ⊎ ((slot_of table i ≢ 0) × (slot_of table (i + 1) ≡ 0)))

abbrev pub union_vector_of : {T : Type 0} → ReadsBoth T → Table → ℕ → Result T ErrorKind → Type 0
union_vector_of reads table i r =
    reads (table_object table) (table_start table) (slot_of table i) (slot_of table (i + 1)) r

-- none if both hold 0 or aren't both in the vtable, an error if exactly one holds 0, else its
-- type's result
abbrev pub UnionVectorAnswer :
    {T : Type 0} → ReadsBoth T → Table → ℕ → Result (Option T) ErrorKind → Type 0
UnionVectorAnswer reads table i (Ok None) =
    (length (table_slots table) < 2 * i + 4)
    ⊎ (BothSlots table i × (slot_of table i ≡ 0) × (slot_of table (i + 1) ≡ 0))
UnionVectorAnswer reads table i (Ok (Some x)) =
    UnionVectorSlots table i × union_vector_of reads table i (Ok x)
UnionVectorAnswer reads table i (Err e) =
    (HalfVector table i × (e ≡ InvalidOffset))
    ⊎ (UnionVectorSlots table i × union_vector_of reads table i (Err e))
