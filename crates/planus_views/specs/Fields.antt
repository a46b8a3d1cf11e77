-- Fields of verified tables.
use Rattle.std.specs.Prelude.{◌≡◌, ℕ, ◌+◌, ◌*◌, ◌==◌, ◌<◌, ◌≤◌, List, [], ◌∷◌, length, drop}
use Rattle.std.specs.Prelude.{Option, Some, None, if◌then◌else◌, true, false, IfSome, ◌⊎◌}
use Rattle.std.specs.Prelude.{Bool, not, ◌&&◌, slice_index}
use Rattle.planus_read.specs.Clauses.{AllHold}
use Rattle.planus_read.specs.Reading.{target, items_at, count_at, slots_of, text_clauses}
use Rattle.planus_read.specs.Reading.{vector_clauses, table_clauses, union_vector_clauses}
use Rattle.planus_read.specs.Tables.{BothSlots, table_object, table_slots, table_start, slot_of}
use Rattle.planus_read.specs.declared.table_reader.Table.{Table}
use Rattle.planus_read.specs.Reading.{plain_ref_clauses}
use Rattle.planus_verify.specs.Schemas.{Shapes, fields_of, variant_in}
use Rattle.planus_verify.specs.Verified.{Verified}
use Rattle.planus_verify.specs.declared.schema.FieldShape.{FieldShape}
use Rattle.planus_verify.specs.declared.schema.FieldKind.{FieldKind}
use Rattle.planus_verify.specs.declared.schema.FieldKind.TheVariants as kind
use Rattle.planus_verify.specs.declared.schema.ValueKind.{ValueKind}
use Rattle.planus_verify.specs.declared.schema.ValueKind.TheVariants as value
use Rattle.planus_verify.specs.declared.schema.VariantKind.{VariantKind}
use Rattle.planus_verify.specs.declared.schema.VariantKind.TheVariants as variant

-- the field in a slot
abbrev pub field_in : List FieldShape → ℕ → Option FieldShape
field_in [] slot = None
field_in (field ∷ fields) slot = if field.slot == slot then Some field else field_in fields slot

-- The table of an index has this field in this slot.
abbrev pub Has : Shapes → ℕ → ℕ → FieldShape → Type 0
Has schema t slot field = field_in (fields_of schema t) slot ≡ Some field

-- a field that may be absent, and one that may not
abbrev pub optional : ℕ → FieldKind → FieldShape
optional slot kind = record { slot = slot; required = false; kind = kind }

abbrev pub required : ℕ → FieldKind → FieldShape
required slot kind = record { slot = slot; required = true; kind = kind }

-- The same of a field of one slot.
abbrev pub MayHave : Shapes → ℕ → ℕ → ValueKind → Type 0
MayHave schema t slot value = Has schema t slot (optional slot (kind.Value value))

abbrev pub MustHave : Shapes → ℕ → ℕ → ValueKind → Type 0
MustHave schema t slot value = Has schema t slot (required slot (kind.Value value))

-- a byte vector, which may be a buffer
abbrev pub is_bytes : FieldKind → Bool
is_bytes (kind.Value value.Bytes) = true
is_bytes (kind.Value (value.Nested t)) = true
is_bytes other = false

abbrev pub bytes_if : Bool → Option FieldShape → Bool
bytes_if required None = false
bytes_if true (Some field) = field.required && is_bytes field.kind
bytes_if false (Some field) = not field.required && is_bytes field.kind

-- The table of an index has a byte vector in this slot, which is required or not.
abbrev pub HasBytes : Shapes → ℕ → ℕ → Bool → Type 0
HasBytes schema t slot required = bytes_if required (field_in (fields_of schema t) slot) ≡ true

abbrev pub MayHaveBytes : Shapes → ℕ → ℕ → Type 0
MayHaveBytes schema t slot = HasBytes schema t slot false

abbrev pub MustHaveBytes : Shapes → ℕ → ℕ → Type 0
MustHaveBytes schema t slot = HasBytes schema t slot true

-- A string stands at the reference at f of S.
abbrev pub TextHolds : List ℕ → ℕ → Type 0
TextHolds S f = AllHold (text_clauses S f)

-- A table does that is verified as the one of index t; S begins at the start.
abbrev pub TableHolds : Shapes → ℕ → ℕ → ℕ → List ℕ → ℕ → Type 0
TableHolds schema n t start S f =
    AllHold (table_clauses S f)
    × Verified schema n t (drop (target S f) S) (slots_of S (target S f)) (start + target S f)

-- A vector of references does, and this holds of each of them.
abbrev pub EachHolds : (List ℕ → ℕ → Type 0) → List ℕ → ℕ → Type 0
EachHolds Holds S f =
    AllHold (vector_clauses S f 4)
    × ((i : ℕ) → i < count_at S f → Holds (drop (items_at S f) S) (i * 4))

-- where a present field is encoded
pub record IsPlace (table : Table) (slot : ℕ) (B : List ℕ) (start offset : ℕ) : Type 0 where
  pub present : slot_of table slot ≡ 0 → ⊥
  pub bytes : B ≡ table_object table
  pub begin : start ≡ table_start table
  pub at : offset ≡ slot_of table slot

-- The vtable doesn't end between slot i and the next, and the tag is in the bytes.
pub record Unbroken (table : Table) (i : ℕ) : Type 0 where
  pub both : (length (table_slots table) ≤ 2 * i → ⊥) → BothSlots table i
  pub inside :
      (length (table_slots table) ≤ 2 * i → ⊥) → slot_of table i + 1 ≤ length (table_object table)

-- All bytes of a struct of this size are in S, to which the reference at f leads.
abbrev pub StructHolds : ℕ → List ℕ → ℕ → Type 0
StructHolds size S f = AllHold (plain_ref_clauses size S f)

-- What the reference at f of a union leads to is verified as of this kind.
abbrev pub VariantHolds : Shapes → ℕ → ℕ → List ℕ → ℕ → VariantKind → Type 0
VariantHolds schema n start S f (variant.Table t) = TableHolds schema n t start S f
VariantHolds schema n start S f variant.Text = TextHolds S f
VariantHolds schema n start S f (variant.Struct size) = StructHolds size S f

-- What the reference at f leads to is verified as that of this tag of union u, if the schema has the
-- tag.
abbrev pub IsMember : Shapes → ℕ → ℕ → ℕ → List ℕ → ℕ → Type 0
IsMember schema u tag start S f =
    ∥ ((n : ℕ) × IfSome (variant_in schema.variants u tag) (VariantHolds schema n start S f)) ∥₁

-- A vector of unions stands, its tags at f and its references at g; and what each of these leads to
-- is verified as that of its tag, if the schema has the tag.
abbrev pub UnionsHold : Shapes → ℕ → ℕ → ℕ → List ℕ → ℕ → ℕ → Type 0
UnionsHold schema n u start S f g =
    AllHold (union_vector_clauses S f g)
    × ((i : ℕ) → i < count_at S f
    → IfSome (variant_in schema.variants u (slice_index (drop (items_at S f) S) i))
    (VariantHolds schema n (start + items_at S g) (drop (items_at S g) S) (i * 4)))

-- A vector of unions has no slots, or both hold 0.
abbrev pub UnionVectorAbsent : Table → ℕ → Type 0
UnionVectorAbsent table i =
    (length (table_slots table) < 2 * i + 4)
    ⊎ (BothSlots table i × (slot_of table i ≡ 0) × (slot_of table (i + 1) ≡ 0))
