-- Where a value is encoded.
use Rattle.std.specs.Prelude.{◌≡◌, ℕ, ◌+◌, ◌*◌, ◌≤◌, ◌<◌, List, [], ◌∷◌, ◌++◌, length, map}
use Rattle.std.specs.Prelude.{Option, Some, None, ⊤, pos, ◌-ℤ◌}
use Rattle.std.specs.Int.{w16, w32}
use Rattle.planus_read.specs.Bytes.{Num, Int, BytesStand}
use Rattle.planus_read.specs.Values.{Value, text, byte_list, plain_list, reference_list}
use Rattle.planus_read.specs.Values.{union_vector, apart}
use Rattle.planus_read.specs.Values.{table, Field, plain, reference, tags, values}
use Rattle.planus_read.specs.Values.{field_at, vtable_size}

-- A reference to this distance from the end.
-- The format: a reference is an unsigned number of 4 bytes, the distance forward from itself.
abbrev pub ReferenceStands : List ℕ → ℕ → ℕ → Type 0
ReferenceStands B f distance = (n : ℕ) × (Num B f w32 ≡ Some n) × (f + n + distance ≡ length B)

abbrev pub ItemsStand : {X : Type 0} → (ℕ → X → Type 0) → ℕ → ℕ → List X → Type 0
ItemsStand StandsAt position size [] = ⊤
ItemsStand StandsAt position size (item ∷ items) =
    StandsAt position item × ItemsStand StandsAt (position + size) size items

-- The format: a vector is a count of 4 bytes, followed by its items.
abbrev pub ListStands : {X : Type 0} → (List ℕ → ℕ → X → Type 0) → List ℕ → ℕ → ℕ → List X → Type 0
ListStands StandsAt B k size items =
    (Num B k w32 ≡ Some (length items)) × ItemsStand (StandsAt B) (k + 4) size items

abbrev pub PlainStands : ℕ → List ℕ → ℕ → List ℕ → Type 0
PlainStands size B position item = (length item ≡ size) × BytesStand B position item

abbrev pub ByteListStands : List ℕ → ℕ → List ℕ → Type 0
ByteListStands B k bytes = (Num B k w32 ≡ Some (length bytes)) × BytesStand B (k + 4) bytes

abbrev pub ApartStands : List ℕ → ℕ → List ℕ → Type 0
ApartStands B k bytes = (k + length bytes ≤ length B) × BytesStand B k bytes

abbrev pub FieldStands : List ℕ → ℕ → Field → Type 0
FieldStands B f (plain item) = BytesStand B f item.bytes
FieldStands B f (reference distance) = ReferenceStands B f distance
FieldStands B f (tags distance) = ReferenceStands B f distance
FieldStands B f (values distance) = ReferenceStands B f distance

abbrev pub SlotStands : List ℕ → ℕ → ℕ → Option Field → Type 0
SlotStands B k s None = Num B s w16 ≡ Some 0
SlotStands B k s (Some field) =
    (q : ℕ) × (Num B s w16 ≡ Some q) × (4 ≤ q) × FieldStands B (k + q) field

-- The format: a table begins with a signed number of 4 bytes, its own position less that of its
-- vtable. A vtable is its own size in bytes, the object's size, and the slots.
pub record TableStands (B : List ℕ) (k : ℕ) (entries : List (ℕ × Field)) : Type 0 where
  pub vtable : ℕ
  pub behind : k < vtable
  pub word : Int B k ≡ Some (pos k -ℤ pos vtable)
  pub size : Num B vtable w16 ≡ Some (vtable_size entries)
  pub inside : vtable + vtable_size entries ≤ length B
  pub slots :
      (i : ℕ) → 2 * i + 6 ≤ vtable_size entries
      → SlotStands B k (vtable + 4 + 2 * i) (field_at entries i)

-- one position, or those of a union vector's tags and references
pub data Position : Type 0 where
  at : ℕ → Position
  at_both : ℕ → ℕ → Position

-- The format: a string is a vector of UTF-8 bytes followed by a zero byte outside the count; a byte
-- vector has no such byte; a union vector is two vectors, of tags and of references; a struct is
-- its bytes, without a count. UTF-8 is left to `WellFormed` and to the readers.
abbrev pub Stands : List ℕ → Position → Value → Type 0
Stands B (at k) (text bytes) =
    (Num B k w32 ≡ Some (length bytes)) × BytesStand B (k + 4) (bytes ++ 0 ∷ [])
Stands B (at k) (byte_list bytes) = ByteListStands B k bytes
Stands B (at k) (plain_list size alignment items) = ListStands (PlainStands size) B k size items
Stands B (at k) (reference_list distances) = ListStands ReferenceStands B k 4 distances
Stands B (at_both kt kv) (union_vector items) =
    ByteListStands B kt (map (λ item. item.0) items)
    × ListStands ReferenceStands B kv 4 (map (λ item. item.1) items)
Stands B (at k) (table entries) = TableStands B k entries
Stands B (at k) (apart item) = ApartStands B k item.bytes
Stands B (at k) (union_vector items) = ⊥
Stands B (at_both kt kv) _ = ⊥
