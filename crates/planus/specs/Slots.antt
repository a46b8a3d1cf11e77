-- Slots are used once, alignments don't rise, and the fields of a table are not too large.
use Rattle.std.specs.Prelude.{ℕ, ◌+◌, List, [], ◌∷◌, length, Option, Some, None, nat_lt, ◌==◌}
use Rattle.std.specs.Prelude.{if◌then◌else◌}
use Rattle.std.specs.List.{list_any}
use Rattle.std.specs.Option.{option_or}
use Rattle.planus.specs.Steps.{FieldStep, number_field, struct_field, ref_field, tags_field}
use Rattle.planus.specs.Steps.{values_field}
use Rattle.planus.specs.declared.replaying.faults.Why.{Why}
use Rattle.planus.specs.declared.replaying.faults.Why.TheVariants.{SlotTooBig, SlotTwice, RisingAlignment}
use Rattle.planus.specs.declared.replaying.faults.Why.TheVariants.{TableTooBig}

abbrev pub slot_fault : List ℕ → ℕ → Option Why
slot_fault slots slot =
    if nat_lt 255 slot then Some SlotTooBig
    else if list_any (λ other. other == slot) slots then Some SlotTwice else None

-- a number's size, a struct's own, or 4 for a reference
abbrev pub alignment_of : FieldStep → ℕ
alignment_of (number_field width number) = width
alignment_of (struct_field alignment content) = alignment
alignment_of (ref_field step) = 4
alignment_of (tags_field step) = 4
alignment_of (values_field step) = 4

-- the greatest alignment: the first field may have any
abbrev pub greatest_field : ℕ
greatest_field = 16

abbrev pub rising_fault : ℕ → ℕ → Option Why
rising_fault before alignment =
    if nat_lt before alignment then Some RisingAlignment else None

-- the error of a field's place after these slots and this alignment
abbrev pub place_fault : List ℕ → ℕ → ℕ × FieldStep → Option Why
place_fault slots before entry =
    option_or (slot_fault slots entry.0) (rising_fault before (alignment_of entry.1))

-- the number of bytes of what a field holds
abbrev pub size_of : FieldStep → ℕ
size_of (number_field width number) = width
size_of (struct_field alignment content) = length content
size_of (ref_field step) = 4
size_of (tags_field step) = 4
size_of (values_field step) = 4

-- the number of bytes of all fields
abbrev pub fields_size : List (ℕ × FieldStep) → ℕ
fields_size [] = 0
fields_size (entry ∷ fields) = size_of entry.1 + fields_size fields

-- The format: a vtable has its table's size in two bytes, with the 4 bytes before the fields.
abbrev pub greatest_size : ℕ
greatest_size = 65531

-- the error of fields that are too large together
abbrev pub size_fault : List (ℕ × FieldStep) → Option Why
size_fault fields = if nat_lt greatest_size (fields_size fields) then Some TableTooBig else None
