-- The fields of a table in a script.
use Rattle.std.specs.Prelude.{ℕ, min, List, Option, Some, None, Result, Ok, Err, if◌then◌else◌}
use Rattle.std.specs.Prelude.{codes}
use Rattle.std.specs.Str.{bytes_eq}
use Rattle.planus.specs.declared.replaying.steps.Field.{Field}
use Rattle.planus.specs.declared.replaying.steps.FieldValue.{FieldValue}
use Rattle.planus.specs.declared.replaying.steps.FieldValue.TheVariants as held
use Rattle.planus_script.specs.Words.{cut_at, number_of, items_of}
use Rattle.planus_script.specs.declared.fields.FieldKind.{FieldKind}
use Rattle.planus_script.specs.declared.fields.FieldKind.TheVariants.{Number, Ref, Tags, Values}
use Rattle.planus_script.specs.declared.script.ReadFault.{ReadFault}
use Rattle.planus_script.specs.declared.script.ReadFault.TheVariants.{BadField}

-- numbers of 1, 2, 4 or 8 bytes, references, a union vector's two parts
abbrev pub kind_of : List ℕ → Option FieldKind
kind_of word =
    if bytes_eq word (codes "u8") then Some (Number 1)
    else if bytes_eq word (codes "u16") then Some (Number 2)
    else if bytes_eq word (codes "u32") then Some (Number 4)
    else if bytes_eq word (codes "u64") then Some (Number 8)
    else if bytes_eq word (codes "ref") then Some Ref
    else if bytes_eq word (codes "tags") then Some Tags
    else if bytes_eq word (codes "values") then Some Values else None

-- above 65535 it is 65535, which is too big as well
abbrev pub slot_of : ℕ → ℕ
slot_of number = min number 65535

abbrev pub value_of : FieldKind → ℕ → FieldValue
value_of (Number width) number = held.Number width number
value_of Ref number = held.Ref number
value_of Tags number = held.Tags number
value_of Values number = held.Values number

-- the slot's error comes before the other
abbrev pub field_with : FieldKind → Result ℕ ReadFault → Result ℕ ReadFault
    → Result Field ReadFault
field_with kind (Err fault) number = Err fault
field_with kind (Ok slot) (Err fault) = Err fault
field_with kind (Ok slot) (Ok number) =
    Ok (record { slot = slot_of slot; value = value_of kind number })

abbrev pub field_if : Option FieldKind → List ℕ → List ℕ → Result Field ReadFault
field_if None slot number = Err BadField
field_if (Some kind) slot number = field_with kind (number_of slot) (number_of number)

abbrev pub field_behind : List ℕ → Option (List ℕ × List ℕ) → Result Field ReadFault
field_behind slot None = Err BadField
field_behind slot (Some parts) = field_if (kind_of parts.0) slot parts.1

-- by what is before and after its `=`
abbrev pub field_cut : Option (List ℕ × List ℕ) → Result Field ReadFault
field_cut None = Err BadField
field_cut (Some parts) = field_behind parts.0 (cut_at 58 parts.1)

-- the field of a word such as `3=u16:24` or `0=ref:1`, or the first error
abbrev pub field_of : List ℕ → Result Field ReadFault
field_of word = field_cut (cut_at 61 word)

-- the fields of these words, or the first error
abbrev pub fields_of : List (List ℕ) → Result (List Field) ReadFault
fields_of words = items_of field_of words
