-- A replay prepares the fields of a table.
use Rattle.std.specs.Prelude.{◌≡◌, ℕ, List, Option, Some, Result, Ok, Err}
use Rattle.std.specs.Int.{Width, w8, w16, w32, w64, to_le_bytes}
use Rattle.planus_read.specs.Values.{Field, plain, reference, tags, values}
use Rattle.planus_write.specs.Parts.{Named}
use Rattle.planus_write.specs.Unions.{item_of}
use Rattle.planus_write.specs.declared.union_offset.UnionOffset.{UnionOffset}
use Rattle.planus.specs.Steps.{FieldStep}
use Rattle.planus.specs.Runs.{plain_field, field_of, union_of}
use Rattle.planus.specs.Kinds.{a_value}
use Rattle.planus.specs.Replays.{union_fault}
use Rattle.planus.specs.TableChecks.{number_fault, content_fault}
use Rattle.planus.specs.inner.Names.{Finds, fault_since, listed_from}
use Rattle.planus.specs.declared.replaying.faults.Why.{Why}
use Rattle.planus.specs.declared.replaying.prepared_field.PreparedField.{PreparedField}
use Rattle.planus.specs.declared.replaying.prepared_field.PreparedField.TheVariants.{U8, U16, U32, U64}
use Rattle.planus.specs.declared.replaying.prepared_field.PreparedField.TheVariants.{Struct, Reference, Tags, Values}

abbrev pub field_is : PreparedField → Field
field_is (U8 number) = plain (record { bytes = to_le_bytes w8 number; alignment = 1 })
field_is (U16 number) = plain (record { bytes = to_le_bytes w16 number; alignment = 2 })
field_is (U32 number) = plain (record { bytes = to_le_bytes w32 number; alignment = 4 })
field_is (U64 number) = plain (record { bytes = to_le_bytes w64 number; alignment = 8 })
field_is (Struct part) =
    plain (record { bytes = part.bytes.now; alignment = part.alignment })
field_is (Reference offset) = reference offset.distance
field_is (Tags offset) = tags offset.distance
field_is (Values offset) = values offset.distance

abbrev pub field_reach : Field → ℕ
field_reach (plain item) = 0
field_reach (reference distance) = distance
field_reach (tags distance) = distance
field_reach (values distance) = distance

-- a number is prepared as a field, or this is its error
abbrev pub PreparesNumber : Option Width → ℕ → Result PreparedField Why → Type 0
PreparesNumber width number (Ok prepared) =
    plain_field width number ≡ Some (field_is prepared)
PreparesNumber width number (Err why) = number_fault width number ≡ Some why

-- a field's content is prepared, or this is its error
abbrev pub PreparesField : ℕ → List (Option Named) → FieldStep → Result PreparedField Why → Type 0
PreparesField first since content answer =
    Finds (field_of (listed_from first since)) (content_fault (fault_since first since)) field_is
    content answer

abbrev pub PreparesUnion : ℕ → List (Option Named) → ℕ × ℕ → Result (UnionOffset (Unit {0})) Why
    → Type 0
PreparesUnion first since item answer =
    Finds (union_of (listed_from first since)) (union_fault (fault_since first since a_value))
    item_of item answer
