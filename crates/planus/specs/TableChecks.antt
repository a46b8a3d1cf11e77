-- The checks of a table.
use Rattle.std.specs.Prelude.{ℕ, List, [], ◌∷◌, ◌++◌, Option, Some, None, if◌then◌else◌}
use Rattle.std.specs.Option.{option_or}
use Rattle.std.specs.Int.{Width, byte_len}
use Rattle.planus.specs.Steps.{FieldStep, number_field, struct_field, ref_field, tags_field}
use Rattle.planus.specs.Steps.{values_field}
use Rattle.planus.specs.Slots.{slot_fault, rising_fault, size_fault, alignment_of, greatest_field}
use Rattle.planus.specs.Kinds.{StepKind, a_value, a_union_vector}
use Rattle.planus.specs.Runs.{field_width, fits_width, struct_width, fits_alignment}
use Rattle.planus.specs.declared.replaying.faults.Why.{Why}
use Rattle.planus.specs.declared.replaying.faults.Why.TheVariants.{WidthUnknown, ValueTooBig}
use Rattle.planus.specs.declared.replaying.faults.Why.TheVariants.{AlignmentUnknown, WrongSize}

abbrev pub number_fault : Option Width → ℕ → Option Why
number_fault None number = Some WidthUnknown
number_fault (Some width) number =
    if fits_width width number then None else Some ValueTooBig

-- a struct's error: no struct has this alignment, or its size isn't a positive multiple of it
abbrev pub struct_fault : Option Width → List ℕ → Option Why
struct_fault None content = Some AlignmentUnknown
struct_fault (Some width) content =
    if fits_alignment (byte_len width) content then None else Some WrongSize

-- a reference names a value, tags and values a union vector
abbrev pub content_fault : (StepKind → ℕ → Option Why) → FieldStep → Option Why
content_fault fault (number_field width number) = number_fault (field_width width) number
content_fault fault (struct_field alignment content) =
    struct_fault (struct_width alignment) content
content_fault fault (ref_field step) = fault a_value step
content_fault fault (tags_field step) = fault a_union_vector step
content_fault fault (values_field step) = fault a_union_vector step

-- the first failed check: of the slot, the content, the alignment
abbrev pub field_fault : (StepKind → ℕ → Option Why) → List ℕ → ℕ → ℕ × FieldStep → Option Why
field_fault fault slots before entry =
    option_or (slot_fault slots entry.0)
    (option_or (content_fault fault entry.1) (rising_fault before (alignment_of entry.1)))

abbrev pub fields_fault : (StepKind → ℕ → Option Why) → List ℕ → ℕ → List (ℕ × FieldStep)
    → Option Why
fields_fault fault slots before [] = None
fields_fault fault slots before (entry ∷ fields) =
    option_or (field_fault fault slots before entry)
    (fields_fault fault (slots ++ entry.0 ∷ []) (alignment_of entry.1) fields)

-- the first failed check of a table: of its fields, then of their size
abbrev pub table_fault : (StepKind → ℕ → Option Why) → List (ℕ × FieldStep) → Option Why
table_fault fault fields =
    option_or (fields_fault fault [] greatest_field fields) (size_fault fields)
