-- The format: a number, a count or a reference is at a multiple of its size from the buffer's
-- start.
use Rattle.std.specs.Prelude.{◌≡◌, ℕ, ◌+◌, ◌*◌, ◌≤◌, List, Some, None, Option, ⊤, pos, ◌-ℤ◌}
use Rattle.std.specs.Int.{w16, ◌∣◌}
use Rattle.planus_read.specs.Bytes.{Num, Int}
use Rattle.planus_read.specs.Values.{Value, text, byte_list, plain_list, reference_list}
use Rattle.planus_read.specs.Values.{union_vector, apart}
use Rattle.planus_read.specs.Values.{table, Field, plain, reference, tags, values}
use Rattle.planus_read.specs.Values.{field_at, vtable_size}
use Rattle.planus_read.specs.Stands.{Position, at, at_both, ItemsStand}

-- 4 for a reference
abbrev pub field_alignment : Field → ℕ
field_alignment (plain item) = item.alignment
field_alignment (reference distance) = 4
field_alignment (tags distance) = 4
field_alignment (values distance) = 4

abbrev pub SlotAligned : List ℕ → ℕ → ℕ → Option Field → Type 0
SlotAligned B k s None = ⊤
SlotAligned B k s (Some field) =
    (q : ℕ) × (Num B s w16 ≡ Some q) × (field_alignment field ∣ (k + q))

-- the table is at a multiple of 4, its vtable of 2, each field of its alignment
pub record TableAligned (B : List ℕ) (k : ℕ) (entries : List (ℕ × Field)) : Type 0 where
  pub table : 4 ∣ k
  pub vtable : ℕ
  pub word : Int B k ≡ Some (pos k -ℤ pos vtable)
  pub vtable_aligned : 2 ∣ vtable
  pub slots :
      (i : ℕ) → 2 * i + 6 ≤ vtable_size entries
      → SlotAligned B k (vtable + 4 + 2 * i) (field_at entries i)

abbrev pub ListAligned : {X : Type 0} → ℕ → ℕ → ℕ → List X → Type 0
ListAligned k size alignment items =
    (4 ∣ k) × ItemsStand (λ position item. alignment ∣ position) (k + 4) size items

-- Each part of the encoded value is aligned.
abbrev pub AlignedAt : List ℕ → Position → Value → Type 0
AlignedAt B (at k) (text bytes) = 4 ∣ k
AlignedAt B (at k) (byte_list bytes) = 4 ∣ k
AlignedAt B (at k) (plain_list size alignment items) = ListAligned k size alignment items
AlignedAt B (at k) (reference_list distances) = ListAligned k 4 4 distances
AlignedAt B (at_both kt kv) (union_vector items) = (4 ∣ kt) × ListAligned kv 4 4 items
AlignedAt B (at k) (table entries) = TableAligned B k entries
AlignedAt B (at k) (apart item) = item.alignment ∣ k
AlignedAt B (at k) (union_vector items) = ⊥
AlignedAt B (at_both kt kv) _ = ⊥
