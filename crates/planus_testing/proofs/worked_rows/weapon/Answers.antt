use Rattle.std.proofs.Common.{ℕ, zero, suc, ◌+◌, ◌*◌, ◌≤◌, refl, arith, lit<, lit≤}
use Rattle.std.proofs.Math.Nat.{dvd-mul_left}
use Rattle.planus_read.specs.Values.{field_at}
use Rattle.planus_testing.specs.Rows.{weapon_bytes, weapon_fields}
use Rattle.planus_read.specs.Stands.{SlotStands}
use Rattle.planus_read.specs.Aligned.{SlotAligned}
use Rattle.planus_testing.proofs.worked_rows.weapon.Goals as goal

pub returns-clause-root : goal.returns-clause-root
returns-clause-root c = (4, refl, refl)

slots_stand :
    (i : ℕ) → 2 * i + 6 ≤ 8 → SlotStands weapon_bytes 4 (20 + 2 * i) (field_at weapon_fields i)
slots_stand zero h = (4, refl, lit≤ tt, (16, refl, refl))
slots_stand (suc zero) h = (8, refl, lit≤ tt, refl)
slots_stand (suc (suc i)) h = absurd (omega arith)

pub returns-clause-stands : goal.returns-clause-stands
returns-clause-stands c =
    record {
      vtable = 16;
      behind = lit< tt;
      word = refl;
      size = refl;
      inside = lit≤ tt;
      slots = slots_stand;
    }

slots_aligned :
    (i : ℕ) → 2 * i + 6 ≤ 8 → SlotAligned weapon_bytes 4 (20 + 2 * i) (field_at weapon_fields i)
slots_aligned zero h = (4, refl, dvd-mul_left 4 2)
slots_aligned (suc zero) h = (8, refl, dvd-mul_left 2 6)
slots_aligned (suc (suc i)) h = absurd (omega arith)

pub returns-clause-aligned : goal.returns-clause-aligned
returns-clause-aligned c =
    record {
      table = dvd-mul_left 4 1;
      vtable = 16;
      word = refl;
      vtable_aligned = dvd-mul_left 2 8;
      slots = slots_aligned;
    }

pub returns-clause-text_aligned : goal.returns-clause-text_aligned
returns-clause-text_aligned c = dvd-mul_left 4 6
