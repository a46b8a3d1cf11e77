-- A replay checks and declares the fields of a table.
use Rattle.std.specs.Prelude.{◌≡◌, ℕ, List, map, Some, None, Result, Ok, Err}
use Rattle.planus_read.specs.Values.{Field}
use Rattle.planus_write.specs.Tables.{declared_of}
use Rattle.planus_write.specs.TableWriting.{Writer, WasTold}
use Rattle.planus.specs.Steps.{FieldStep}
use Rattle.planus.specs.Slots.{slot_fault}
use Rattle.planus.specs.Runs.{table_of}
use Rattle.planus.specs.TableChecks.{table_fault}
use Rattle.planus.specs.inner.Replaying.{values_listed, name_fault}
use Rattle.planus.specs.declared.replaying.faults.Why.{Why}
use Rattle.planus.specs.declared.replaying.state.ReplayState.{ReplayState}

abbrev pub slots_of : List (ℕ × FieldStep) → List ℕ
slots_of fields = map (λ entry. entry.0) fields

-- the slot is right after these, or this is its error
abbrev pub ChecksSlot : List ℕ → ℕ → Result (Unit {0}) Why → Type 0
ChecksSlot slots slot (Ok good) = slot_fault slots slot ≡ None
ChecksSlot slots slot (Err why) = slot_fault slots slot ≡ Some why

-- the fields were declared, or this is the first error of them
abbrev pub DeclaresTable : ReplayState → List (ℕ × FieldStep) → Result Writer Why → Type 0
DeclaresTable replay fields (Ok writer) = (all : List (ℕ × Field))
    × (table_of (values_listed replay) fields ≡ Some all)
    × WasTold writer (declared_of all) × (table_fault (name_fault replay) fields ≡ None)
DeclaresTable replay fields (Err why) = table_fault (name_fault replay) fields ≡ Some why
