-- The values of the format.
use Rattle.std.specs.Prelude.{ℕ, ◌+◌, ◌*◌, ◌==◌, max, List, [], ◌∷◌}
use Rattle.std.specs.Prelude.{Option, Some, None, if◌then◌else◌}

-- its bytes and its alignment; a number of n bytes has alignment n
pub record Plain : Type 0 where
  pub bytes : List ℕ
  pub alignment : ℕ

-- a field of a table
pub data Field : Type 0 where
  plain : Plain → Field
  -- to a value, also of a union
  reference : ℕ → Field
  -- to a union vector's tags, or its references
  tags : ℕ → Field
  values : ℕ → Field

pub data Value : Type 0 where
  text : List ℕ → Value
  byte_list : List ℕ → Value
  -- items of this size in bytes and this alignment
  plain_list : (size alignment : ℕ) → List (List ℕ) → Value
  reference_list : List ℕ → Value
  -- tags and references
  union_vector : List (ℕ × ℕ) → Value
  -- fields by slots
  table : List (ℕ × Field) → Value
  -- a struct by itself, to which a union refers
  apart : Plain → Value

abbrev pub field_at : List (ℕ × Field) → ℕ → Option Field
field_at [] slot = None
field_at (entry ∷ entries) slot = if entry.0 == slot then Some entry.1 else field_at entries slot

abbrev pub slot_count : List (ℕ × Field) → ℕ
slot_count [] = 0
slot_count (entry ∷ entries) = max (entry.0 + 1) (slot_count entries)

-- The format: a vtable has its own size and the object's, two bytes each, and two bytes per slot.
abbrev pub vtable_size : List (ℕ × Field) → ℕ
vtable_size entries = 4 + 2 * slot_count entries
