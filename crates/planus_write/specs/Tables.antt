-- The parts of a table: its vtable, its body, and the word before it.
use Rattle.std.specs.Prelude.{◌≡◌, ℕ, zero, suc, ◌+◌, ◌-◌, ◌*◌, ◌<◌, ◌≤◌, ◌^◌, ◌==◌, max, List, []}
use Rattle.std.specs.Prelude.{◌∷◌, ◌++◌, length, Some, None, if◌then◌else◌, ⊤, pos, ◌-ℤ◌}
use Rattle.std.specs.List.{AllByRecursion}
use Rattle.std.specs.Int.{w16, w32, to_le_bytes, cast_unsigned, ◌∣◌}
use Rattle.planus_back.specs.Parts.{Part}
use Rattle.planus_read.specs.Values.{Field, plain, reference, tags, values, field_at, slot_count}
use Rattle.planus_read.specs.Values.{vtable_size}
use Rattle.planus_read.specs.Aligned.{field_alignment}
use Rattle.planus_write.specs.Shared.{vtables}
use Rattle.planus_write.specs.History.{Entry, unshared_entry}
use Rattle.planus_write.specs.Items.{Item, plain_item, reference_item}

abbrev pub field_item : Field → Item
field_item (plain item) = plain_item item.bytes
field_item (reference distance) = reference_item distance
field_item (tags distance) = reference_item distance
field_item (values distance) = reference_item distance

abbrev pub field_size : Field → ℕ
field_size (plain item) = length item.bytes
field_size (reference distance) = 4
field_size (tags distance) = 4
field_size (values distance) = 4

-- A field of this size and alignment in bytes, declared for the slot.
pub record Declared : Type 0 where
  pub slot : ℕ
  pub size : ℕ
  pub alignment : ℕ

-- the size of the body
abbrev pub total_size : List Declared → ℕ
total_size [] = 0
total_size (one ∷ declared) = one.size + total_size declared

abbrev pub greatest_of : List Declared → ℕ
greatest_of [] = 4
greatest_of (one ∷ declared) = max one.alignment (greatest_of declared)

-- the number of slots up to the greatest used one
abbrev pub slots_used : List Declared → ℕ
slots_used [] = 0
slots_used (one ∷ declared) = max (one.slot + 1) (slots_used declared)

-- a slot's field's offset from the object's start, 0 for an absent one
abbrev pub offset_in : ℕ → List Declared → ℕ → ℕ
offset_in from [] slot = 0
offset_in from (one ∷ declared) slot =
    if one.slot == slot then from else offset_in (from + one.size) declared slot

-- two bytes for each of n slots, from this one on
abbrev pub offsets_bytes : List Declared → ℕ → ℕ → List ℕ
offsets_bytes declared slot zero = []
offsets_bytes declared slot (suc n) =
    to_le_bytes w16 (offset_in 4 declared slot) ++ offsets_bytes declared (slot + 1) n

-- The format: a vtable has its own size and the object's, two bytes each, and then two bytes a
-- slot: the field's offset from the object's start, 0 for an absent one. The object is the word
-- that leads to the vtable, and the body.
abbrev pub vtable_of : (slots : ℕ) → List Declared → List ℕ
vtable_of slots declared =
    to_le_bytes w16 (4 + 2 * slots) ++ to_le_bytes w16 (4 + total_size declared)
    ++ offsets_bytes declared 0 slots

-- the entries of a table's fields
abbrev pub declared_of : List (ℕ × Field) → List Declared
declared_of [] = []
declared_of (entry ∷ entries) =
    record {
      slot = entry.0;
      size = field_size entry.1;
      alignment = field_alignment entry.1;
    } ∷ declared_of entries

abbrev pub body_size : List (ℕ × Field) → ℕ
body_size entries = total_size (declared_of entries)

abbrev pub body_alignment : List (ℕ × Field) → ℕ
body_alignment entries = greatest_of (declared_of entries)

abbrev pub body_bytes : ℕ → List (ℕ × Field) → List ℕ
body_bytes place [] = []
body_bytes place (entry ∷ entries) =
    field_item entry.1 place ++ body_bytes (place - field_size entry.1) entries

abbrev pub object_size : List (ℕ × Field) → ℕ
object_size entries = 4 + body_size entries

abbrev pub field_offset : ℕ → List (ℕ × Field) → ℕ → ℕ
field_offset from entries slot = offset_in from (declared_of entries) slot

abbrev pub slots_bytes : List (ℕ × Field) → ℕ → ℕ → List ℕ
slots_bytes entries slot n = offsets_bytes (declared_of entries) slot n

abbrev pub vtable_bytes : List (ℕ × Field) → List ℕ
vtable_bytes entries = vtable_of (slot_count entries) (declared_of entries)

abbrev pub vtable_part : List ℕ → Part
vtable_part bytes =
    record { size = length bytes; alignment = 2; bytes_at = λ place. bytes }

-- equal vtables may be written once
abbrev pub vtable_entry : List ℕ → Entry
vtable_entry bytes = record {
  contents = Some (record { kind = vtables; bytes = bytes });
  part = λ got promises. vtable_part bytes;
}

abbrev pub object_part : List Declared → Item → Part
object_part declared body = record {
  size = total_size declared;
  alignment = greatest_of declared;
  bytes_at = body;
}

abbrev pub body_part : List (ℕ × Field) → Part
body_part entries = object_part (declared_of entries) (λ place. body_bytes place entries)

-- The format: a table begins with a signed number of 4 bytes, its own position less that of its
-- vtable.
abbrev pub word_part : ℕ → Part
word_part vtable = record {
  size = 4;
  alignment = 1;
  bytes_at = λ place. to_le_bytes w32 (cast_unsigned w32 (pos vtable -ℤ pos place));
}

abbrev pub first_of : List ℕ → ℕ
first_of [] = 0
first_of (distance ∷ distances) = distance

abbrev pub word_entry : Entry
word_entry = record { contents = None; part = λ got promises. word_part (first_of got) }

abbrev pub object_entries : (slots : ℕ) → List Declared → Item → List Entry
object_entries slots declared body =
    vtable_entry (vtable_of slots declared) ∷ unshared_entry (object_part declared body)
    ∷ word_entry ∷ []

abbrev pub table_entries : List (ℕ × Field) → List Entry
table_entries entries =
    object_entries (slot_count entries) (declared_of entries) (λ place. body_bytes place entries)

-- Bytes whose number is a multiple of their alignment, a power of two; or a reference into the n
-- earlier bytes.
abbrev pub IsFieldAfter : ℕ → Field → Type 0
IsFieldAfter before (plain item) = (0 < length item.bytes) × (item.alignment ∣ length item.bytes)
    × ((k : ℕ) × (item.alignment ≡ 2 ^ k))
IsFieldAfter before (reference distance) = distance ≤ before
IsFieldAfter before (tags distance) = distance ≤ before
IsFieldAfter before (values distance) = distance ≤ before

-- no field has a greater alignment than the one before it
abbrev pub Falling : List (ℕ × Field) → Type 0
Falling [] = ⊤
Falling (entry ∷ []) = ⊤
Falling (first ∷ second ∷ entries) =
    (field_alignment second.1 ≤ field_alignment first.1) × Falling (second ∷ entries)

-- no slot is used twice
abbrev pub SlotsOnce : List (ℕ × Field) → Type 0
SlotsOnce [] = ⊤
SlotsOnce (entry ∷ entries) = (field_at entries entry.0 ≡ None) × SlotsOnce entries

pub record IsTable (before : ℕ) (entries : List (ℕ × Field)) : Type 0 where
  pub fields : AllByRecursion (λ entry. IsFieldAfter before entry.1) entries
  pub falling : Falling entries
  pub once : SlotsOnce entries
  pub vtable_fits : vtable_size entries ≤ 65534
  pub object_fits : object_size entries ≤ 65535
