-- What a field of each kind holds, for callers' contracts.
use Rattle.std.specs.Prelude.{ℕ, List, [], ◌∷◌, map, Bool, Option, Some, ℤ}
use Rattle.std.specs.Int.{Width, w8, w16, w32, w64, to_le_bytes, cast_unsigned, cast_signed}
use Rattle.std.specs.Int.{from_bool}
use Rattle.std.specs.Ordering.{int_eq}
use Rattle.planus_read.specs.Plain.{Shape}
use Rattle.planus_read.specs.Values.{Value, text, byte_list, plain_list, reference_list}
use Rattle.planus_write.specs.declared.offset.Offset.{Offset}
use Rattle.planus_write.specs.declared.union_offset.UnionOffset.{UnionOffset}
use Rattle.planus_write.specs.Contents.{Content, item, value, values, written}
use Rattle.planus.specs.Contents.{value_content, tag_content}
use Rattle.planus_fields.specs.Contents.{union_if}
use Rattle.planus_write.specs.Contents.{unions_hold, written_union}
use Rattle.planus_fields.specs.Contents.{any_unions_hold}
use Rattle.planus.specs.Contents.{tags_content}
use Rattle.planus.specs.Contents.{values_content}

-- an unsigned number
abbrev pub holds_u8 : ℕ → Option Content
holds_u8 number = Some (item (record { bytes = to_le_bytes w8 number; alignment = 1 }))

abbrev pub holds_u16 : ℕ → Option Content
holds_u16 number = Some (item (record { bytes = to_le_bytes w16 number; alignment = 2 }))

abbrev pub holds_u32 : ℕ → Option Content
holds_u32 number = Some (item (record { bytes = to_le_bytes w32 number; alignment = 4 }))

abbrev pub holds_u64 : ℕ → Option Content
holds_u64 number = Some (item (record { bytes = to_le_bytes w64 number; alignment = 8 }))

-- a signed number, in a form for numbers passed by value
abbrev pub as_signed : Width → ℤ → ℤ
as_signed w number = cast_signed w (cast_unsigned w number)

-- a signed number
abbrev pub holds_i8 : ℤ → Option Content
holds_i8 number =
    Some (item (record { bytes = cast_unsigned w8 (as_signed w8 number) ∷ []; alignment = 1 }))

abbrev pub holds_i16 : ℤ → Option Content
holds_i16 number =
    Some
    (item (record
    { bytes = to_le_bytes w16 (cast_unsigned w16 (as_signed w16 number)); alignment = 2 }))

abbrev pub holds_i32 : ℤ → Option Content
holds_i32 number =
    Some
    (item (record
    { bytes = to_le_bytes w32 (cast_unsigned w32 (as_signed w32 number)); alignment = 4 }))

abbrev pub holds_i64 : ℤ → Option Content
holds_i64 number =
    Some
    (item (record
    { bytes = to_le_bytes w64 (cast_unsigned w64 (as_signed w64 number)); alignment = 8 }))

abbrev pub equals_i8 : ℤ → ℤ → Bool
equals_i8 number default = int_eq (as_signed w8 number) default

abbrev pub equals_i16 : ℤ → ℤ → Bool
equals_i16 number default = int_eq (as_signed w16 number) default

abbrev pub equals_i32 : ℤ → ℤ → Bool
equals_i32 number default = int_eq (as_signed w32 number) default

abbrev pub equals_i64 : ℤ → ℤ → Bool
equals_i64 number default = int_eq (as_signed w64 number) default

-- a bool
abbrev pub holds_bool : Bool → Option Content
holds_bool truth = Some (item (record { bytes = from_bool truth ∷ []; alignment = 1 }))

-- a string
abbrev pub holds_text : List ℕ → Option Content
holds_text bytes = Some (value (text bytes))

-- a struct, an enum or a float
abbrev pub holds_plain :
    {A : Type 0} {size alignment : ℕ} → Shape A size alignment → A → Option Content
holds_plain {A} {size} {alignment} shape x =
    Some (item (record { bytes = shape.encoded x; alignment = alignment }))

-- a vector of these
abbrev pub holds_plains :
    {A : Type 0} {size alignment : ℕ} → Shape A size alignment → List A → Option Content
holds_plains {A} {size} {alignment} shape xs =
    Some (value (plain_list size alignment (map shape.encoded xs)))

-- a byte vector
abbrev pub holds_bytes : List ℕ → Option Content
holds_bytes bytes = Some (value (byte_list bytes))

-- a vector of unsigned numbers
abbrev pub holds_u16s : List ℕ → Option Content
holds_u16s numbers = Some (value (plain_list 2 2 (map (λ number. to_le_bytes w16 number) numbers)))

abbrev pub holds_u32s : List ℕ → Option Content
holds_u32s numbers = Some (value (plain_list 4 4 (map (λ number. to_le_bytes w32 number) numbers)))

abbrev pub holds_u64s : List ℕ → Option Content
holds_u64s numbers = Some (value (plain_list 8 8 (map (λ number. to_le_bytes w64 number) numbers)))

-- a vector of strings
abbrev pub holds_texts : {X : Type 0} → (X → List ℕ) → List X → Option Content
holds_texts bytes texts = Some (values (map (λ one. text (bytes one)) texts))

-- a vector of references
abbrev pub holds_offsets : {T : Type 0} → List (Offset T) → Option Content
holds_offsets offsets = Some (value (reference_list (map (λ offset. offset.distance) offsets)))

-- a reference to the value at this distance
abbrev pub holds_offset : ℕ → Option Content
holds_offset distance = Some (written distance)

-- the value and the tag of a union written before
abbrev pub holds_union_value : {T : Type 0} → Option (UnionOffset T) → Option Content
holds_union_value union = value_content (union_if (λ union. Some (written_union union)) union)

abbrev pub holds_union_tag : {T : Type 0} → Option (UnionOffset T) → Option Content
holds_union_tag union = tag_content (union_if (λ union. Some (written_union union)) union)

-- the tags and the values of a union vector
abbrev pub holds_tags_of : List (ℕ × Content) → Option Content
holds_tags_of unions = tags_content (Some (unions_hold unions))

abbrev pub holds_values_of : List (ℕ × Content) → Option Content
holds_values_of unions = values_content (Some (unions_hold unions))

-- the same for unions with one tag
abbrev pub holds_variant_tags : {X : Type 0} → ℕ → (X → Value) → List X → Option Content
holds_variant_tags tag content unions =
    holds_tags_of (map (λ union. (tag, value (content union))) unions)

abbrev pub holds_variant_values : {X : Type 0} → ℕ → (X → Value) → List X → Option Content
holds_variant_values tag content unions =
    holds_values_of (map (λ union. (tag, value (content union))) unions)

-- the same for unions written before
abbrev pub holds_union_tags : {T : Type 0} → List (UnionOffset T) → Option Content
holds_union_tags unions = holds_tags_of (map written_union unions)

abbrev pub holds_union_values : {T : Type 0} → List (UnionOffset T) → Option Content
holds_union_values unions = holds_values_of (map written_union unions)

-- the same, left out where empty
abbrev pub holds_any_union_tags : {T : Type 0} → List (UnionOffset T) → Option Content
holds_any_union_tags unions = tags_content (any_unions_hold (map written_union unions))

abbrev pub holds_any_union_values : {T : Type 0} → List (UnionOffset T) → Option Content
holds_any_union_values unions = values_content (any_unions_hold (map written_union unions))
