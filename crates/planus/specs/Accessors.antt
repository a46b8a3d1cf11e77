-- Results of accessors, for any bytes and for written slots.
use Rattle.std.specs.Prelude.{◌≡◌, ℕ, List, map, Option, Some, None, Result, Ok, IsOkAnd, IsSomeAnd}
use Rattle.std.specs.Prelude.{MatchOption, ⊤}
use Rattle.std.specs.Borrow.{Bor}
use Rattle.std.specs.Str.{IsUtf8}
use Rattle.planus_read.specs.declared.located.Error.{Error}
use Rattle.planus_read.specs.declared.plain.Plain.{Ghosts as PlainGhosts}
use Rattle.planus_read.specs.declared.table_reader.Table.{Table}
use Rattle.planus_read.specs.Located.{Located, Required, IsMissing}
use Rattle.planus_read.specs.Plain.{Shape}
use Rattle.planus_read.specs.Tables.{Reads, FieldAnswer, table_start}
use Rattle.planus_read.specs.Values.{text, byte_list, plain_list, reference_list}
use Rattle.planus_read.specs.Values.{Field, plain, reference}
use Rattle.planus_view.specs.declared.vector.SliceView.{SliceView}
use Rattle.planus_view.specs.declared.vector_of.VectorOf.{VectorOf}
use Rattle.planus_write.specs.Contents.{Content, value, values, written}
use Rattle.planus_write.specs.declared.byte_lists.ByteList.{ByteList}
use Rattle.planus_write.specs.Items.{plain_item, reference_item}
use Rattle.planus_write.specs.Placing.{Outcome}
use Rattle.planus_write.specs.Preparing.{Answers, IsPrepared, PreparesItems, WritesByteList}
use Rattle.planus_write.specs.Preparing.{WritesList, WritesText}
use Rattle.planus_write.specs.declared.offset.List.{List as ListOf}
use Rattle.planus_write.specs.declared.offset.Offset.{Offset}
use Rattle.planus_write.specs.declared.offset.Text.{Text}
use Rattle.planus_fields.specs.Contents.{holds_if}
use Rattle.planus.specs.ReadBack.{SlotHolds, ContentsStand, TableHolds}
use Rattle.planus.specs.ReadKinds.{reads_text, reads_bytes}
use Rattle.planus.specs.ReadPlain.{reads_plain, plain_content, ArePlain}
use Rattle.planus.specs.ReadVectors.{reads_vector, ItemsAreTexts, ItemsAreTables}
use Rattle.planus.specs.Views.{reads_as}

-- How a kind of field is read, and what reads back; how what is given is prepared, and which field
-- is then written.
pub record FieldKind (X G T : Type 0) : Type 1 where
  pub reads : Reads T
  pub May : List ℕ → X → Type 0
  pub content : X → Content
  pub part : G → X
  pub IsRead : List ℕ → X → T → Type 0
  pub Prepared : Type 0
  pub prepares : G → Outcome Prepared
  pub as_field : Prepared → Field

-- both none, or related values
abbrev pub SameIf : {G T : Type 0} → (G → T → Type 0) → Option G → Option T → Type 0
SameIf IsRead None found = found ≡ None
SameIf IsRead (Some given) found = IsSomeAnd found (IsRead given)

module _ {X G T : Type 0} (kind : FieldKind X G T) (table : Table) (slot : ℕ)
    (type_ method : List ℕ)
  where
    -- the result for an optional field; the names are those of its errors
    pub record IsField (r : Result (Option T) Error) : Type 0 where
      pub answer : Located (FieldAnswer kind.reads table slot) type_ method (table_start table) r
      pub read_back :
          (B : List ℕ) (x : X) → SlotHolds B table slot (Some (kind.content x)) → kind.May B x
          → IsOkAnd r (λ found. IsSomeAnd found (kind.IsRead B x))
      pub left_out : (B : List ℕ) → SlotHolds B table slot None → r ≡ Ok None
      pub read_back_if :
          (B : List ℕ) (given : Option G)
          → SlotHolds B table slot (holds_if (λ g. Some (kind.content (kind.part g))) given)
          → MatchOption given ⊤ (λ g. kind.May B (kind.part g))
          → IsOkAnd r (SameIf (λ g. kind.IsRead B (kind.part g)) given)

    pub record IsRequired (r : Result T Error) : Type 0 where
      pub answer :
          Located (Required (FieldAnswer kind.reads table slot)) type_ method (table_start table) r
      pub read_back :
          (B : List ℕ) (x : X) → SlotHolds B table slot (Some (kind.content x)) → kind.May B x
          → IsOkAnd r (kind.IsRead B x)
      pub missing :
          (B : List ℕ) → SlotHolds B table slot None → IsMissing type_ method (table_start table) r

-- the field of a value of this shape
abbrev pub plain_field_of :
    {T : Type 0} {size alignment : ℕ} → Shape T size alignment → T → Field
plain_field_of {T} {size} {alignment} shape x =
    plain (record { bytes = shape.encoded x; alignment = alignment })

-- the field that refers to what was written
abbrev pub reference_to : {K : Type 0} → Offset K → Field
reference_to offset = reference offset.distance

abbrev pub plain_kind :
    {T : Type 0} {size alignment : ℕ} → Shape T size alignment → FieldKind T T T
plain_kind {T} shape = record {
  reads = reads_plain shape;
  May = λ B x. shape.fits x;
  content = plain_content shape;
  part = λ x. x;
  IsRead = λ B x found. found ≡ x;
  Prepared = T;
  prepares = Answers;
  as_field = plain_field_of shape;
}

abbrev pub IsPlainRequired :
    {T : Type 0} {size alignment : ℕ} → Shape T size alignment → Table → ℕ → List ℕ → List ℕ
    → Result T Error → Type 0
IsPlainRequired shape = IsRequired (plain_kind shape)

abbrev pub text_kind : FieldKind (List ℕ) (Bor (List ℕ)) (Bor (List ℕ))
text_kind = record {
  reads = reads_text;
  May = λ B bytes. IsUtf8 bytes;
  content = λ bytes. value (text bytes);
  part = λ given. given.now;
  IsRead = λ B bytes found. found.now ≡ bytes;
  Prepared = Offset Text;
  prepares = λ given. WritesText given.now;
  as_field = reference_to;
}

abbrev pub IsTextField : Table → ℕ → List ℕ → List ℕ → Result (Option (Bor (List ℕ))) Error → Type 0
IsTextField = IsField text_kind

abbrev pub IsTextRequired : Table → ℕ → List ℕ → List ℕ → Result (Bor (List ℕ)) Error → Type 0
IsTextRequired = IsRequired text_kind

abbrev pub bytes_kind : FieldKind (List ℕ) ByteList (Bor (List ℕ))
bytes_kind = record {
  reads = reads_bytes;
  May = λ B bytes. ⊤;
  content = λ bytes. value (byte_list bytes);
  part = λ given. given.0.now;
  IsRead = λ B bytes found. found.now ≡ bytes;
  Prepared = Offset (ListOf ℕ);
  prepares = λ given. WritesByteList given.0.now;
  as_field = reference_to;
}

abbrev pub IsBytesField : Table → ℕ → List ℕ → List ℕ → Result (Option (Bor (List ℕ))) Error
    → Type 0
IsBytesField = IsField bytes_kind

abbrev pub IsBytesRequired : Table → ℕ → List ℕ → List ℕ → Result (Bor (List ℕ)) Error → Type 0
IsBytesRequired = IsRequired bytes_kind

-- T is the type of items, R that of what the vector stores.
module _ {T R : Type 0} {kind : PlainGhosts R} where
  abbrev pub plains_kind : FieldKind (List R) (Bor (List R)) (VectorOf (SliceView T R kind))
  plains_kind = record {
    reads = reads_vector T kind;
    May = λ B xs. ⊤;
    content = λ xs. value (plain_list kind.SIZE kind.ALIGNMENT (map kind.shape.encoded xs));
    part = λ given. given.now;
    IsRead = λ B xs vector. ArePlain B xs vector;
    Prepared = Offset (ListOf R);
    prepares = λ given. WritesList Answers (λ x. plain_item (kind.shape.encoded x)) kind.SIZE
        kind.ALIGNMENT given.now;
    as_field = reference_to;
  }

  abbrev pub IsPlainVector :
      Table → ℕ → List ℕ → List ℕ → Result (Option (VectorOf (SliceView T R kind))) Error → Type 0
  IsPlainVector = IsField plains_kind

  abbrev pub IsPlainVectorRequired :
      Table → ℕ → List ℕ → List ℕ → Result (VectorOf (SliceView T R kind)) Error → Type 0
  IsPlainVectorRequired = IsRequired plains_kind

  abbrev pub texts_kind :
      FieldKind (List (Bor (List ℕ))) (Bor (List (Bor (List ℕ)))) (VectorOf (SliceView T R kind))
  texts_kind = record {
    reads = reads_vector T kind;
    May = λ B texts. ⊤;
    content = λ texts. values (map (λ one. text one.now) texts);
    part = λ given. given.now;
    IsRead = λ B texts vector. ItemsAreTexts kind (map (λ one. one.now) texts) vector;
    Prepared = Offset (ListOf (Offset Text));
    prepares = λ given. WritesList (PreparesItems (λ text. WritesText {T = Text} text.now))
        (λ offset. reference_item offset.distance) 4 4 given.now;
    as_field = reference_to;
  }

  abbrev pub IsTextVector :
      Table → ℕ → List ℕ → List ℕ → Result (Option (VectorOf (SliceView T R kind))) Error → Type 0
  IsTextVector = IsField texts_kind

  abbrev pub IsTextVectorRequired :
      Table → ℕ → List ℕ → List ℕ → Result (VectorOf (SliceView T R kind)) Error → Type 0
  IsTextVectorRequired = IsRequired texts_kind

  abbrev pub tables_kind :
      (K : Type 0)
      → FieldKind (List (Offset K)) (Bor (List (Offset K))) (VectorOf (SliceView T R kind))
  tables_kind K = record {
    reads = reads_vector T kind;
    May = λ B offsets. ⊤;
    content = λ offsets. value (reference_list (map (λ offset. offset.distance) offsets));
    part = λ given. given.now;
    IsRead = λ B offsets vector.
        ItemsAreTables kind K B (map (λ offset. offset.distance) offsets) vector;
    Prepared = Offset (ListOf (Offset K));
    prepares = λ given. WritesList Answers (λ offset. reference_item offset.distance) 4 4 given.now;
    as_field = reference_to;
  }

  abbrev pub IsTableVector :
      Type 0 → Table → ℕ → List ℕ → List ℕ → Result (Option (VectorOf (SliceView T R kind))) Error
      → Type 0
  IsTableVector K = IsField (tables_kind K)

  abbrev pub IsTableVectorRequired :
      Type 0 → Table → ℕ → List ℕ → List ℕ → Result (VectorOf (SliceView T R kind)) Error → Type 0
  IsTableVectorRequired K = IsRequired (tables_kind K)

abbrev pub TableIsThere : List ℕ → ℕ → Type 0
TableIsThere B distance = (contents : List (ℕ × Option Content)) × ContentsStand B contents distance

-- a view of the table at the distance, with all its contents
abbrev pub IsViewOf : {T : Type 0} → (T → Table) → List ℕ → ℕ → T → Type 0
IsViewOf table_of B distance view =
    (contents : List (ℕ × Option Content)) → ContentsStand B contents distance
    → TableHolds B contents (table_of view)

abbrev pub table_kind : {T : Type 0} → (K : Type 0) → (T → Table) → FieldKind ℕ (Offset K) T
table_kind K table_of = record {
  reads = reads_as table_of;
  May = TableIsThere;
  content = written;
  part = λ offset. offset.distance;
  IsRead = IsViewOf table_of;
  Prepared = Offset K;
  prepares = IsPrepared;
  as_field = reference_to;
}

abbrev pub IsTableField : {T : Type 0} → (K : Type 0) → (T → Table) → Table → ℕ → List ℕ → List ℕ
    → Result (Option T) Error → Type 0
IsTableField K table_of = IsField (table_kind K table_of)

abbrev pub IsTableRequired : {T : Type 0} → (K : Type 0) → (T → Table) → Table → ℕ → List ℕ → List ℕ
    → Result T Error → Type 0
IsTableRequired K table_of = IsRequired (table_kind K table_of)
