-- The present fields of a table, in the order written.
use Rattle.std.specs.Prelude.{ℕ, List, [], ◌∷◌, ◌++◌, Option, Some, None}
use Rattle.planus_read.specs.Bytes.{BytesStand}
use Rattle.planus_read.specs.Values.{Field, plain, reference, tags, values}
use Rattle.std.specs.Int.{w8, to_le_bytes}
use Rattle.planus_write.specs.Items.{Item}
use Rattle.planus_write.specs.TableWriting.{Writer, slot_position}
use Rattle.planus_write.specs.Unions.{union_reach}
use Rattle.planus_write.specs.declared.union_offset.UnionOffset.{UnionOffset}
use Rattle.planus_write.specs.declared.union_vector_offset.UnionVectorOffset.{UnionVectorOffset}

-- the field of a slot, if present
abbrev pub field_in : {A : Type 0} → ℕ → (A → Field) → Option A → List (ℕ × Field)
field_in slot field None = []
field_in slot field (Some prepared) = (slot, field prepared) ∷ []

-- optional fields, as one list
abbrev pub all_of : List (List (ℕ × Field)) → List (ℕ × Field)
all_of [] = []
all_of (fields ∷ others) = fields ++ all_of others

abbrev pub tag_field : ℕ → Field
tag_field tag = plain (record { bytes = to_le_bytes w8 tag; alignment = 1 })

-- a union's value field, and its tag field, if present
abbrev pub union_value_in : {T : Type 0} → ℕ → Option (UnionOffset T) → List (ℕ × Field)
union_value_in slot union = field_in slot (λ union. reference (union_reach union)) union

abbrev pub union_tag_in : {T : Type 0} → ℕ → Option (UnionOffset T) → List (ℕ × Field)
union_tag_in slot union = field_in slot (λ union. tag_field union.tag) union

-- a union vector's tag field, and its value field, if present
abbrev pub list_tags_in : {T : Type 0} → ℕ → Option (UnionVectorOffset T) → List (ℕ × Field)
list_tags_in slot vector = field_in slot (λ vector. tags vector.tags.distance) vector

abbrev pub list_values_in : {T : Type 0} → ℕ → Option (UnionVectorOffset T) → List (ℕ × Field)
list_values_in slot vector = field_in slot (λ vector. values vector.values.distance) vector

-- a field's size, 0 if absent
abbrev pub size_if : {A : Type 0} → ℕ → Option A → ℕ
size_if size None = 0
size_if size (Some prepared) = size

-- its bytes by its place
abbrev pub item_if : {A : Type 0} → (A → Item) → Option A → Item
item_if encoding None place = []
item_if encoding (Some prepared) place = encoding prepared place

-- nothing is declared for the slot: its two bytes are 0
abbrev pub IsUnused : Writer → ℕ → Type 0
IsUnused writer slot = BytesStand writer.vtable (slot_position slot) (0 ∷ 0 ∷ [])
