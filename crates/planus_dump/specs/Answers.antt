-- What readers return, as functions of the bytes.
use Rattle.std.specs.Prelude.{ℕ, ◌+◌, ◌*◌, nat_le, nat_lt, ◌==◌, not, ◌||◌, ◌&&◌}
use Rattle.std.specs.Prelude.{List, [], ◌∷◌, length, drop}
use Rattle.std.specs.Prelude.{Option, Some, None, Result, Ok, Err, if◌then◌else◌}
use Rattle.std.specs.Fmt.{decimal, signed_decimal}
use Rattle.std.specs.Int.{Width, w8, w16, w32, w64, cast_signed}
use Rattle.planus_read.specs.declared.errors.ErrorKind.TheVariants.{InvalidOffset}
use Rattle.planus_read.specs.declared.errors.ErrorKind.TheVariants.{InvalidVtableLength}
use Rattle.planus_read.specs.Bytes.{Num}
use Rattle.planus_read.specs.Reading.{number, target, count_at, items_at, slots_of}
use Rattle.planus_read.specs.Tables.{Slot}
use Rattle.planus_dump.specs.Lines.{quoted, bytes_text, truth_text}
use Rattle.planus_dump.specs.Tests.{answered, number_test, text_tests, byte_list_tests}
use Rattle.planus_dump.specs.Tests.{vector_tests, union_vector_tests, table_tests, content_at}
use Rattle.planus_dump.specs.Tests.{fault_text}
use Rattle.planus_dump.specs.declared.schemas.Number.TheVariants as numbers
use Rattle.planus_dump.specs.declared.values.Leaf.{Leaf}
use Rattle.planus_dump.specs.declared.values.Leaf.TheVariants.{Number}
use Rattle.planus_dump.specs.declared.values.Leaf.TheVariants.{Bool, Text, Bytes}

-- the bits of the number of this width at f
abbrev pub bits_at : Width → List ℕ → ℕ → Result ℕ (List ℕ)
bits_at width S f = answered (number_test S f width ∷ []) (number S f width)

abbrev pub unsigned_at : Width → List ℕ → ℕ → Result (List ℕ) (List ℕ)
unsigned_at width S f = answered (number_test S f width ∷ []) (decimal (number S f width))

abbrev pub signed_at : Width → List ℕ → ℕ → Result (List ℕ) (List ℕ)
signed_at width S f =
    answered (number_test S f width ∷ []) (signed_decimal (cast_signed width (number S f width)))

-- the printed scalar at f
abbrev pub leaf_at : Leaf → List ℕ → ℕ → Result (List ℕ) (List ℕ)
leaf_at (Number numbers.U8) S f = unsigned_at w8 S f
leaf_at (Number numbers.U16) S f = unsigned_at w16 S f
leaf_at (Number numbers.U32) S f = unsigned_at w32 S f
leaf_at (Number numbers.U64) S f = unsigned_at w64 S f
leaf_at (Number numbers.I8) S f = signed_at w8 S f
leaf_at (Number numbers.I16) S f = signed_at w16 S f
leaf_at (Number numbers.I32) S f = signed_at w32 S f
leaf_at (Number numbers.I64) S f = signed_at w64 S f
leaf_at Bool S f = answered (number_test S f w8 ∷ []) (truth_text (not (number S f w8 == 0)))
leaf_at Text S f = answered (text_tests S f) (quoted (content_at S f))
leaf_at Bytes S f = answered (byte_list_tests S f) (bytes_text (content_at S f))

-- the bytes from the table's first on, and the slots of its vtable
pub record Seen : Type 0 where
  pub object : List ℕ
  pub slots : List ℕ

-- the table to which the reference at f leads
unfoldable pub table_at : List ℕ → ℕ → Result Seen (List ℕ)
table_at S f =
    answered (table_tests S f)
    (record { object = drop (target S f) S; slots = slots_of S (target S f) })

-- the bytes from the first item on, and the count
pub record SeenItems : Type 0 where
  pub bytes : List ℕ
  pub count : ℕ

-- the vector with items of this size to which the reference at f leads
abbrev pub vector_at : ℕ → List ℕ → ℕ → Result SeenItems (List ℕ)
vector_at stride S f =
    answered (vector_tests S f stride)
    (record { bytes = drop (items_at S f) S; count = count_at S f })

-- the bytes from the first tag on, those from the first reference on, and the count
pub record SeenUnions : Type 0 where
  pub tags : List ℕ
  pub references : List ℕ
  pub count : ℕ

abbrev pub union_vector_at : List ℕ → ℕ → ℕ → Result SeenUnions (List ℕ)
union_vector_at S f g =
    answered (union_vector_tests S f g)
    (record {
      tags = drop (items_at S f) S;
      references = drop (items_at S g) S;
      count = count_at S f;
    })

-- the tag, and the offset of the table's reference in the object
pub record SeenUnion : Type 0 where
  pub tag : ℕ
  pub offset : ℕ

-- none where the tag byte or a slot is 0
abbrev pub tagged_union : Seen → ℕ → Option ℕ → Result (Option SeenUnion) (List ℕ)
tagged_union table i None = Err (fault_text InvalidOffset)
tagged_union table i (Some tag) =
    if tag == 0 || Slot table.slots i == 0 || Slot table.slots (i + 1) == 0 then Ok None
    else Ok (Some (record { tag = tag; offset = Slot table.slots (i + 1) }))

-- a tag, if it is there and isn't 0
abbrev pub some_tag : Option ℕ → Option ℕ
some_tag None = None
some_tag (Some tag) = if tag == 0 then None else Some tag

-- The tag of a union without a value: the slot of the tag isn't 0, that of the value is.
abbrev pub lone_tag : Seen → ℕ → Option ℕ
lone_tag table i =
    if Slot table.slots i == 0 || not (Slot table.slots (i + 1) == 0) then None
    else some_tag (Num table.object (Slot table.slots i) w8)

-- none where the vtable ends before both slots, an error between them
abbrev pub union_at : Seen → ℕ → Result (Option SeenUnion) (List ℕ)
union_at table i =
    if nat_le (length table.slots) (2 * i) then Ok None
    else (if nat_lt (length table.slots) (2 * i + 4)
    then Err (fault_text (InvalidVtableLength (length table.slots + 4)))
    else tagged_union table i (Num table.object (Slot table.slots i) w8))

abbrev pub some_of : {A : Type 0} → Result A (List ℕ) → Result (Option A) (List ℕ)
some_of (Ok x) = Ok (Some x)
some_of (Err fault) = Err fault

-- none where both distances are 0
abbrev pub union_vector_by : List ℕ → ℕ → ℕ → Result (Option SeenUnions) (List ℕ)
union_vector_by object f g =
    if f == 0 && g == 0 then Ok None
    else (if f == 0 || g == 0 then Err (fault_text InvalidOffset)
    else some_of (union_vector_at object f g))

-- none where the slots aren't both in the vtable
abbrev pub unions_at : Seen → ℕ → Result (Option SeenUnions) (List ℕ)
unions_at table i =
    if nat_lt (length table.slots) (2 * i + 4) then Ok None
    else union_vector_by table.object (Slot table.slots i) (Slot table.slots (i + 1))
