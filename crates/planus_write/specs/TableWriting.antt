use Rattle.std.specs.Prelude.{◌≡◌, ℕ, ◌+◌, ◌-◌, ◌*◌, ◌≤◌, List, [], ◌++◌, length, take, drop}
use Rattle.std.specs.Prelude.{replicate, max, Ok, Err}
use Rattle.std.specs.Int.{w16, to_le_bytes}
use Rattle.planus_read.specs.Bytes.{BytesStand}
use Rattle.planus_write.specs.Items.{Item}
use Rattle.planus_write.specs.Tables.{Declared, total_size, greatest_of, slots_used, offset_in}
use Rattle.planus_write.specs.Tables.{object_entries}
use Rattle.planus_write.specs.Parts.{last_of}
use Rattle.planus_write.specs.Placing.{Outcome}
use Rattle.planus_write.specs.Preparing.{WritesEntries}
use Rattle.planus_write.specs.declared.offset.Offset.{Offset}

-- The vtable's bytes with the two sizes last, how many are used, the object's size, and one less
-- than the body's alignment.
pub record Writer : Type 0 where
  pub vtable : List ℕ
  pub vtable_size : ℕ
  pub object_size : ℕ
  pub mask : ℕ

-- The format: the slots follow the vtable's size and the object's, two bytes each.
abbrev pub slot_position : ℕ → ℕ
slot_position slot = 2 * (slot + 2)

-- nothing is declared yet, in a vtable of n bytes
abbrev pub blank : ℕ → Writer
blank n = record { vtable = replicate n 0; vtable_size = 4; object_size = 4; mask = 3 }

-- The slot's two bytes give its field's position, after the others.
abbrev pub with_entry : Declared → Writer → Writer
with_entry one writer = record {
  vtable =
      take (slot_position one.slot) writer.vtable
      ++ (to_le_bytes w16 writer.object_size ++ drop (slot_position one.slot + 2) writer.vtable);
  vtable_size = max writer.vtable_size (slot_position one.slot + 2);
  object_size = writer.object_size + one.size;
  mask = max writer.mask (one.alignment - 1);
}

-- Entries that a writer may have been told, in the order declared.
pub record WasTold (writer : Writer) (declared : List Declared) : Type 0 where
  pub slots : (slot : ℕ) → slot_position slot + 2 ≤ length writer.vtable
      → BytesStand writer.vtable (slot_position slot) (to_le_bytes w16 (offset_in 4 declared slot))
  pub vtable_size : writer.vtable_size ≡ 4 + 2 * slots_used declared
  pub object_size : writer.object_size ≡ 4 + total_size declared
  pub alignment : writer.mask + 1 ≡ greatest_of declared
  pub inside : writer.vtable_size ≤ length writer.vtable

-- The table was written with this body, and begins at the front of the bytes; or the call failed.
abbrev pub WritesTable : List Declared → Item → Outcome (Unit {0})
WritesTable declared body old (Ok done) new = (got : List ℕ)
    × WritesEntries (object_entries (slots_used declared) declared body) [] old (Ok got) new
    × (last_of got ≡ length new.bytes)
WritesTable declared body old (Err error) new =
    WritesEntries (object_entries (slots_used declared) declared body) [] old (Err error) new

-- The same, with the table's distance returned as an offset.
abbrev pub AnswersTable : {T : Type 0} → List Declared → Item → Outcome (Offset T)
AnswersTable {T} declared body old (Ok offset) new =
    WritesTable declared body old (Ok tt) new × (offset.distance ≡ length new.bytes)
AnswersTable {T} declared body old (Err error) new = WritesTable declared body old (Err error) new
