-- Values read back in each slice, by each reference.
use Rattle.std.specs.Prelude.{◌≡◌, ℕ, ◌+◌, ◌*◌, ◌==◌, not, List, [], ◌∷◌}
use Rattle.std.specs.Prelude.{length, drop, slice_get, Some, ⊤, Result, IsOkAnd}
use Rattle.std.specs.Int.{Width, w8, byte_len, from_le_bytes, cast_signed}
use Rattle.std.specs.Str.{IsUtf8}
use Rattle.planus_read.specs.declared.errors.ErrorKind.{ErrorKind}
use Rattle.planus_read.specs.declared.place.Place.{Place}
use Rattle.planus_read.specs.declared.place.TaggedPlace.{TaggedPlace}
use Rattle.planus_read.specs.declared.table_reader.Table.{Table}
use Rattle.planus_read.specs.Bytes.{BytesStand, position_of}
use Rattle.planus_read.specs.Clauses.{Answer, shown}
use Rattle.planus_read.specs.Values.{Value, text, byte_list, plain_list, reference_list}
use Rattle.planus_read.specs.Values.{union_vector, apart}
use Rattle.planus_read.specs.Values.{table, Field, plain, reference, tags, values}
use Rattle.planus_read.specs.Stands.{Position, at, at_both, Stands, FieldStands}
use Rattle.planus_read.specs.Places.{IsPlace, IsTaggedPlace, LeadsOn, TaggedLeadsOn}
use Rattle.planus_read.specs.Reading.{Leads, TableLayout, number_reading, signed_reading}
use Rattle.planus_read.specs.Reading.{truth_reading}
use Rattle.planus_read.specs.Reading.{text_reading, byte_list_reading, vector_reading}
use Rattle.planus_read.specs.Reading.{union_vector_reading, table_reading, plain_ref_reading}
use Rattle.planus_read.specs.ReadingLaws.{IsAnswered}
use Rattle.planus_read.specs.TableReading.{HasFields}
use Rattle.planus_read.specs.Tables.{ShowsTable}

-- The format: the bytes of a string are UTF-8.
abbrev pub WellFormed : Value → Type 0
WellFormed (text bytes) = IsUtf8 bytes
WellFormed _ = ⊤

pub record PlainReads (S : List ℕ) (f : ℕ) (bytes : List ℕ) : Type 0 where
  pub stands : BytesStand S f bytes
  pub number :
      (width : Width) → length bytes ≡ byte_len width
      → IsAnswered (number_reading S f width) (from_le_bytes width bytes)
  pub signed :
      (width : Width) → length bytes ≡ byte_len width
      → IsAnswered (signed_reading S f width) (cast_signed width (from_le_bytes width bytes))
  pub truth : (byte : ℕ) → bytes ≡ byte ∷ [] → IsAnswered (truth_reading S f) (not (byte == 0))

pub record ReferenceReads (B : List ℕ) (start f distance : ℕ) : Type 0 where
  pub leads : Leads B (start + f) (position_of B distance)
  pub place :
      (place : Place) → IsPlace (drop start B) start f place
      → LeadsOn B (position_of B distance) place
  pub tagged :
      (tag : ℕ) (tagged : TaggedPlace) → IsTaggedPlace (drop start B) start tag f tagged
      → TaggedLeadsOn B tag (position_of B distance) tagged

abbrev pub FieldReads : List ℕ → ℕ → ℕ → Field → Type 0
FieldReads B start f (plain item) = PlainReads (drop start B) f item.bytes
FieldReads B start f (reference distance) = ReferenceReads B start f distance
FieldReads B start f (tags distance) = ReferenceReads B start f distance
FieldReads B start f (values distance) = ReferenceReads B start f distance

-- Every encoded field reads back.
abbrev pub FieldsReadBack : Type 0
FieldsReadBack =
    (B : List ℕ) (start f : ℕ) (field : Field) → FieldStands B (start + f) field
    → FieldReads B start f field

pub record ListReads
    {X : Type 0} (ItemReads : ℕ → ℕ → X → Type 0) (B : List ℕ) (k start f size : ℕ) (items : List X)
    : Type 0 where
  pub position : ℕ
  pub first : start + position ≡ k + 4
  pub vector :
      IsAnswered (vector_reading (drop start B) f size)
      (record { position = position; count = length items })
  pub each :
      (i : ℕ) (item : X) → slice_get items i ≡ Some item → ItemReads (k + 4) (i * size) item

pub record UnionVectorReads (B : List ℕ) (kt kv start f g : ℕ) (items : List (ℕ × ℕ)) : Type 0 where
  pub tags_position : ℕ
  pub references_position : ℕ
  pub first_tag : start + tags_position ≡ kt + 4
  pub first_reference : start + references_position ≡ kv + 4
  pub vector :
      IsAnswered (union_vector_reading (drop start B) f g)
      (record { tags = tags_position; references = references_position; count = length items })
  pub each_tag :
      (i : ℕ) (item : ℕ × ℕ) → slice_get items i ≡ Some item
      → IsAnswered (number_reading (drop (kt + 4) B) i w8) item.0
  pub each_reference :
      (i : ℕ) (item : ℕ × ℕ) → slice_get items i ≡ Some item
      → ReferenceReads B (kv + 4) (i * 4) item.1

pub record TableReads (B : List ℕ) (k start f : ℕ) (entries : List (ℕ × Field)) : Type 0 where
  pub layout : TableLayout
  pub answered : IsAnswered (table_reading (drop start B) f) layout
  pub fields :
      (r : Result Table ErrorKind)
      → Answer (shown (ShowsTable (drop start B) start) (table_reading (drop start B) f)) r
      → IsOkAnd r (HasFields B k entries)

-- the reference leads to these bytes
pub record ApartReads (B : List ℕ) (k start f : ℕ) (bytes : List ℕ) : Type 0 where
  pub position : ℕ
  pub first : start + position ≡ k
  pub answered : IsAnswered (plain_ref_reading (length bytes) (drop start B) f) position
  pub reads : PlainReads (drop start B) position bytes

abbrev pub ByReferences : List ℕ → ℕ → (ℕ → ℕ → Type 0) → Type 0
ByReferences B k Answered = (start f : ℕ) → Leads B (start + f) k → Answered start f

-- the only result of each reference, its own references being places
abbrev pub ReadsBack : List ℕ → Position → Value → Type 0
ReadsBack B (at k) (text bytes) =
    ByReferences B k (λ start f. IsAnswered (text_reading (drop start B) f) bytes)
ReadsBack B (at k) (byte_list bytes) =
    ByReferences B k (λ start f. IsAnswered (byte_list_reading (drop start B) f) bytes)
ReadsBack B (at k) (plain_list size alignment items) =
    ByReferences B k
    (λ start f. ListReads (λ s p item. PlainReads (drop s B) p item) B k start f size items)
ReadsBack B (at k) (reference_list distances) =
    ByReferences B k (λ start f. ListReads (ReferenceReads B) B k start f 4 distances)
ReadsBack B (at k) (table entries) = ByReferences B k (λ start f. TableReads B k start f entries)
ReadsBack B (at k) (apart item) = ByReferences B k (λ start f. ApartReads B k start f item.bytes)
ReadsBack B (at_both kt kv) (union_vector items) =
    (start f g : ℕ) → Leads B (start + f) kt → Leads B (start + g) kv
    → UnionVectorReads B kt kv start f g items
ReadsBack B (at k) (union_vector items) = ⊥
ReadsBack B (at_both kt kv) _ = ⊥

-- An encoded, well-formed value reads back.
abbrev pub WhatStandsReadsBack : Type 0
WhatStandsReadsBack =
    (B : List ℕ) (p : Position) (v : Value) → WellFormed v → Stands B p v → ReadsBack B p v
