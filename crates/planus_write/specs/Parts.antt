-- The parts of each value, in the order written.
use Rattle.std.specs.Prelude.{◌≡◌, ℕ, ◌+◌, ◌-◌, ◌*◌, ◌<◌, ◌≤◌, ◌^◌, max, List, [], ◌∷◌, ◌++◌}
use Rattle.std.specs.Prelude.{length}
use Rattle.std.specs.Prelude.{map, Option, Some, None, ⊤}
use Rattle.std.specs.List.{AllByRecursion}
use Rattle.std.specs.Int.{w32, to_le_bytes, ◌∣◌}
use Rattle.planus_back.specs.Promises.{Promise, greatest_alignment}
use Rattle.planus_back.specs.Parts.{Part}
use Rattle.planus_read.specs.Values.{Value, text, byte_list, plain_list, reference_list}
use Rattle.planus_read.specs.Values.{union_vector}
use Rattle.planus_read.specs.Values.{Plain, table, apart}
use Rattle.planus_read.specs.Bytes.{position_of}
use Rattle.planus_read.specs.Plain.{IsLayout}
use Rattle.planus_read.specs.Stands.{Position, at, at_both}
use Rattle.planus_write.specs.Shared.{texts, byte_lists}
use Rattle.planus_write.specs.History.{Entry, unshared_entry}
use Rattle.planus_write.specs.Items.{Item, plain_item, reference_item}
use Rattle.planus_write.specs.Tables.{IsTable, table_entries}

-- A string's count, bytes and a zero byte, aligned to 4. The format: a string is a vector of bytes
-- followed by a zero byte that the count excludes.
abbrev pub text_part : List ℕ → Part
text_part bytes =
    record {
      size = length bytes + 5;
      alignment = 4;
      bytes_at = λ place. to_le_bytes w32
          (length bytes) ++ bytes ++ 0 ∷ [];
    }

-- equal strings may be written once
abbrev pub text_entry : List ℕ → Entry
text_entry bytes =
    record {
      contents = Some (record
          { kind = texts; bytes = bytes });
      part = λ got promises. text_part bytes;
    }

-- A byte vector's count and its bytes, aligned to 4.
abbrev pub byte_list_part : List ℕ → Part
byte_list_part bytes = record {
  size = length bytes + 4;
  alignment = 4;
  bytes_at = λ place. to_le_bytes w32 (length bytes) ++ bytes;
}

-- equal byte vectors may be written once
abbrev pub byte_list_entry : List ℕ → Entry
byte_list_entry bytes = record {
  contents = Some (record { kind = byte_lists; bytes = bytes });
  part = λ got promises. byte_list_part bytes;
}

-- The bytes of items of this size, one after another, the first at the place.
abbrev pub items_bytes : ℕ → ℕ → List Item → List ℕ
items_bytes size place [] = []
items_bytes size place (item ∷ items) = item place ++ items_bytes size (place - size) items

-- the items of a vector as one part, with their alignment, but at least 4
abbrev pub items_part : (size alignment : ℕ) → List Item → Part
items_part size alignment items = record {
  size = length items * size;
  alignment = max alignment 4;
  bytes_at = λ place. items_bytes size place items;
}

abbrev pub count_part : ℕ → Part
count_part count =
    record { size = 4; alignment = 1; bytes_at = λ place. to_le_bytes w32 count }

-- The items, and then the count before them. The format: a vector is a count of 4 bytes, followed
-- by its items.
abbrev pub list_entries : (size alignment : ℕ) → List Item → List Entry
list_entries size alignment items =
    unshared_entry (items_part size alignment items) ∷ unshared_entry (count_part (length items))
    ∷ []

abbrev pub tags_part : List ℕ → Part
tags_part tags = record { size = length tags; alignment = 4; bytes_at = λ place. tags }

abbrev pub tags_entries : List ℕ → List Entry
tags_entries tags = unshared_entry (tags_part tags) ∷ unshared_entry (count_part (length tags)) ∷ []

abbrev pub tags_in : List (ℕ × ℕ) → List ℕ
tags_in items = map (λ item. item.0) items

abbrev pub distances_in : List (ℕ × ℕ) → List ℕ
distances_in items = map (λ item. item.1) items

-- References, and before them tags. The format: a union vector is two vectors of equal count: tags
-- of one byte, and references.
abbrev pub union_entries : List (ℕ × ℕ) → List Entry
union_entries items =
    list_entries 4 4 (map reference_item (distances_in items)) ++ tags_entries (tags_in items)

-- A struct's bytes as one part, with its alignment. The format: a struct is stored in place, with
-- no count before it.
abbrev pub apart_part : Plain → Part
apart_part item = record {
  size = length item.bytes;
  alignment = item.alignment;
  bytes_at = λ place. item.bytes;
}

abbrev pub apart_entry : Plain → Entry
apart_entry item = unshared_entry (apart_part item)

abbrev pub identifier_bytes : Option (List ℕ) → List ℕ
identifier_bytes None = []
identifier_bytes (Some bytes) = bytes

-- prepended bytes as one part, aligned to the greatest of 4 and every constraint
abbrev pub front_part : ℕ → (ℕ → List ℕ) → List Promise → Part
front_part size words promises =
    record { size = size; alignment = greatest_alignment 4 promises; bytes_at = words }

abbrev pub front_entry : ℕ → (ℕ → List ℕ) → Entry
front_entry size words =
    record { contents = None; part = λ got promises. front_part size words promises }

abbrev pub root_words : ℕ → Option (List ℕ) → ℕ → List ℕ
root_words root identifier place =
    to_le_bytes w32 (place - root) ++ identifier_bytes identifier

-- The format: a buffer begins with a reference to its root; four bytes that identify the file may
-- follow.
abbrev pub finish_part : ℕ → Option (List ℕ) → List Promise → Part
finish_part root identifier promises =
    front_part (length (identifier_bytes identifier) + 4) (root_words root identifier) promises

abbrev pub finish_entry : ℕ → Option (List ℕ) → Entry
finish_entry root identifier =
    front_entry (length (identifier_bytes identifier) + 4) (root_words root identifier)

-- the size word, which excludes its own 4 bytes, and then the words of a finish
abbrev pub sized_words : ℕ → Option (List ℕ) → ℕ → List ℕ
sized_words root identifier place =
    to_le_bytes w32 (place - 4) ++ root_words root identifier (place - 4)

-- The format: a size-prefixed buffer begins with an unsigned number of 4 bytes, the number of bytes
-- that follow; the buffer is aligned from that number on.
abbrev pub sized_finish_part : ℕ → Option (List ℕ) → List Promise → Part
sized_finish_part root identifier promises =
    front_part (length (identifier_bytes identifier) + 8) (sized_words root identifier) promises

abbrev pub sized_finish_entry : ℕ → Option (List ℕ) → Entry
sized_finish_entry root identifier =
    front_entry (length (identifier_bytes identifier) + 8) (sized_words root identifier)

-- the bytes that a filler writes at the part's place
abbrev pub filled_part : ℕ → ℕ → (ℕ → ℕ → List ℕ) → Part
filled_part size alignment encoding =
    record { size = size; alignment = alignment; bytes_at = λ place. encoding place size }

-- Items of this size, a positive multiple of the alignment, which is a power of two.
pub record IsPlainList (size alignment : ℕ) (items : List (List ℕ)) : Type 0 where
  pub sizes : AllByRecursion (λ item. length item ≡ size) items
  pub positive : 0 < size
  pub multiple : alignment ∣ size
  pub power : (k : ℕ) × (alignment ≡ 2 ^ k)

-- values that can be written after n bytes: references lead into these
abbrev pub IsWritten : ℕ → Value → Type 0
IsWritten before (text bytes) = ⊤
IsWritten before (byte_list bytes) = ⊤
IsWritten before (plain_list size alignment items) = IsPlainList size alignment items
IsWritten before (reference_list distances) =
    AllByRecursion (λ distance. distance ≤ before) distances
IsWritten before (union_vector items) = AllByRecursion (λ item. item.1 ≤ before) items
IsWritten before (table entries) = IsTable before entries
IsWritten before (apart item) = IsLayout (length item.bytes) item.alignment

abbrev pub entries_of : Value → List Entry
entries_of (text bytes) = text_entry bytes ∷ []
entries_of (byte_list bytes) = byte_list_entry bytes ∷ []
entries_of (plain_list size alignment items) =
    list_entries size alignment (map plain_item items)
entries_of (reference_list distances) = list_entries 4 4 (map reference_item distances)
entries_of (union_vector items) = union_entries items
entries_of (table entries) = table_entries entries
entries_of (apart item) = apart_entry item ∷ []

-- For a union vector, the distance of its references and that of its tags.
pub record Named : Type 0 where
  pub distance : ℕ
  pub tags : Option ℕ

abbrev pub last_of : List ℕ → ℕ
last_of [] = 0
last_of (distance ∷ []) = distance
last_of (first ∷ second ∷ rest) = last_of (second ∷ rest)

abbrev pub second_of : List ℕ → ℕ
second_of (first ∷ second ∷ rest) = second
second_of _ = 0

-- the last; for a union vector the second (references) and the last (tags)
abbrev pub named_by : Value → List ℕ → Named
named_by (union_vector items) got = record { distance = second_of got; tags = Some (last_of got) }
named_by value got = record { distance = last_of got; tags = None }

abbrev pub position_with : List ℕ → ℕ → Option ℕ → Position
position_with B distance None = at (position_of B distance)
position_with B distance (Some tags) = at_both (position_of B tags) (position_of B distance)

abbrev pub position_in : List ℕ → Named → Position
position_in B named = position_with B named.distance named.tags
