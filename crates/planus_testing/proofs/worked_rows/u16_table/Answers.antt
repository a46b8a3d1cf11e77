use Rattle.std.proofs.Common.{ℕ, zero, suc, ◌+◌, ◌*◌, ◌≤◌, refl, arith}
use Rattle.std.proofs.Math.Nat.{dvd-mul_left}
use Rattle.planus_read.specs.Values.{field_at}
use Rattle.planus_testing.specs.Rows.{u16_table_bytes, u16_table_fields}
use Rattle.planus_read.specs.Aligned.{SlotAligned}
use Rattle.planus_testing.proofs.worked_rows.u16_table.Goals as goal

pub returns-clause-root : goal.returns-clause-root
returns-clause-root c = (4, refl, refl)

slots :
    (i : ℕ) → 2 * i + 6 ≤ 6
    → SlotAligned u16_table_bytes 4 (14 + 2 * i) (field_at u16_table_fields i)
slots zero h = (4, refl, dvd-mul_left 2 4)
slots (suc i) h = absurd (omega arith)

pub returns-clause-aligned : goal.returns-clause-aligned
returns-clause-aligned c =
    record {
      table = dvd-mul_left 4 1;
      vtable = 10;
      word = refl;
      vtable_aligned = dvd-mul_left 2 5;
      slots = slots;
    }
