-- Unions and union vectors, read back.
use Rattle.std.specs.Prelude.{◌≡◌, ◌≢◌, ℕ, ◌+◌, ◌<◌, List, drop, Option, Some, None, Result, Ok}
use Rattle.std.specs.Prelude.{IsOkAnd, IsSomeAnd, ⊤}
use Rattle.planus_read.specs.declared.errors.ErrorKind.{ErrorKind}
use Rattle.planus_read.specs.declared.located.Error.{Error}
use Rattle.planus_read.specs.declared.table_reader.Table.{Table}
use Rattle.planus_read.specs.Bytes.{position_of}
use Rattle.planus_read.specs.Clauses.{Answer, shown}
use Rattle.planus_read.specs.Located.{Located, Required, IsMissing}
use Rattle.planus_read.specs.Reading.{union_vector_reading}
use Rattle.planus_read.specs.Stands.{Stands, at_both, ReferenceStands}
use Rattle.planus_read.specs.TableReading.{SomeOf}
use Rattle.planus_read.specs.Tables.{ReadsBoth, UnionAnswer, UnionVectorAnswer}
use Rattle.planus_read.specs.Values.{reference, union_vector}
use Rattle.planus_unions.specs.ReadBack.{IsUnionVectorOf}
use Rattle.planus_view.specs.UnionVectorView.{ShowsUnionVector}
use Rattle.planus_view.specs.declared.union_vector.UnionSliceView.{UnionSliceView}
use Rattle.planus_view.specs.declared.vector_of.VectorOf.{VectorOf}
use Rattle.planus_write.specs.Contents.{Content, Unions, value, values, written}
use Rattle.planus_write.specs.Contents.{union_tags, union_values, written_tags}
use Rattle.planus_write.specs.Contents.{written_values}
use Rattle.planus.specs.Contents.{tag_content, value_content}
use Rattle.planus.specs.ReadBack.{FieldHolds, SlotHolds, UnionsHold}

abbrev pub IsReference : Content → Type 0
IsReference (value content) = ⊤
IsReference (values contents) = ⊤
IsReference (written distance) = ⊤
IsReference _ = ⊥

abbrev pub ReadsUnion :
    {T : Type 0} → ReadsBoth T → List ℕ → ℕ → Content → Result T ErrorKind → Type 0
ReadsUnion reads B tag content r =
    (start f distance : ℕ) × FieldHolds B content (reference distance)
    × ReferenceStands B (start + f) distance × reads (drop start B) start tag f r

-- results for the two slots of a union, and for two empty ones
pub record UnionsReadBack {T : Type 0} (reads : ReadsBoth T) : Type 0 where
  pub optional :
      (B : List ℕ) (read : Table) (slot tag : ℕ) (content : Content) → tag ≢ 0 → tag < 256
      → IsReference content
      → SlotHolds B read slot (tag_content (Some (tag, content)))
      → SlotHolds B read (slot + 1) (value_content (Some (tag, content)))
      → (type_ method : List ℕ) (offset : ℕ) (r : Result (Option T) Error)
      → Located (UnionAnswer reads read slot) type_ method offset r
      → Located (SomeOf (ReadsUnion reads B tag content)) type_ method offset r
  pub required :
      (B : List ℕ) (read : Table) (slot tag : ℕ) (content : Content) → tag ≢ 0 → tag < 256
      → IsReference content
      → SlotHolds B read slot (tag_content (Some (tag, content)))
      → SlotHolds B read (slot + 1) (value_content (Some (tag, content)))
      → (type_ method : List ℕ) (offset : ℕ) (r : Result T Error)
      → Located (Required (UnionAnswer reads read slot)) type_ method offset r
      → Located (ReadsUnion reads B tag content) type_ method offset r
  pub absent :
      (B : List ℕ) (read : Table) (slot : ℕ) → SlotHolds B read slot None
      → SlotHolds B read (slot + 1) None
      → (type_ method : List ℕ) (offset : ℕ) (r : Result (Option T) Error)
      → Located (UnionAnswer reads read slot) type_ method offset r → r ≡ Ok None
  pub missing :
      (B : List ℕ) (read : Table) (slot : ℕ) → SlotHolds B read slot None
      → SlotHolds B read (slot + 1) None
      → (type_ method : List ℕ) (offset : ℕ) (r : Result T Error)
      → Located (Required (UnionAnswer reads read slot)) type_ method offset r
      → IsMissing type_ method offset r

abbrev pub reads_unions : {T E : Type 0} → ReadsBoth (VectorOf (UnionSliceView T E))
reads_unions S start f g r =
    Answer (shown (ShowsUnionVector S start) (union_vector_reading S f g)) r

-- the union vector of these items, in B
abbrev pub AreUnions : {T E : Type 0} → List ℕ → List (ℕ × ℕ) → VectorOf (UnionSliceView T E)
    → Type 0
AreUnions {T} {E} B items vector = (kt kv : ℕ) × IsUnionVectorOf T E B kt kv items vector

-- the union vector with these tags, whose values hold these in B
abbrev pub AreNewUnions :
    {T E : Type 0} → List ℕ → Unions → VectorOf (UnionSliceView T E) → Type 0
AreNewUnions B contents vector =
    (unions : List (ℕ × ℕ)) × UnionsHold B contents unions × AreUnions B unions vector

-- results for the two slots of a union vector
pub record UnionVectorSlotsReadBack (T E : Type 0) {X : Type 0} (May : List ℕ → X → Type 0)
    (tags_of values_of : X → Content)
    (IsRead : List ℕ → X → VectorOf (UnionSliceView T E) → Type 0) : Type 0 where
  pub optional :
      (B : List ℕ) (read : Table) (slot : ℕ) (x : X) → SlotHolds B read slot (Some (tags_of x))
      → SlotHolds B read (slot + 1) (Some (values_of x)) → May B x
      → (type_ method : List ℕ) (offset : ℕ)
      (r : Result (Option (VectorOf (UnionSliceView T E))) Error)
      → Located (UnionVectorAnswer reads_unions read slot) type_ method offset r
      → IsOkAnd r (λ found. IsSomeAnd found (IsRead B x))
  pub required :
      (B : List ℕ) (read : Table) (slot : ℕ) (x : X) → SlotHolds B read slot (Some (tags_of x))
      → SlotHolds B read (slot + 1) (Some (values_of x)) → May B x
      → (type_ method : List ℕ) (offset : ℕ) (r : Result (VectorOf (UnionSliceView T E)) Error)
      → Located (Required (UnionVectorAnswer reads_unions read slot)) type_ method offset r
      → IsOkAnd r (IsRead B x)

-- The same for one written with its table, or before.
abbrev pub NewUnionVectorsReadBack : (T E : Type 0) → Type 0
NewUnionVectorsReadBack T E =
    UnionVectorSlotsReadBack T E (λ B contents. ⊤) union_tags union_values AreNewUnions

-- a union vector in B, with the distances of its tags and values
pub record WrittenUnions : Type 0 where
  pub items : List (ℕ × ℕ)
  pub tags_at : ℕ
  pub values_at : ℕ

abbrev pub UnionsStand : List ℕ → WrittenUnions → Type 0
UnionsStand B unions =
    Stands B (at_both (position_of B unions.tags_at) (position_of B unions.values_at))
    (union_vector unions.items)

abbrev pub WrittenUnionVectorsReadBack : (T E : Type 0) → Type 0
WrittenUnionVectorsReadBack T E =
    UnionVectorSlotsReadBack T E UnionsStand (λ unions. written_tags unions.tags_at)
    (λ unions. written_values unions.values_at) (λ B unions. AreUnions B unions.items)

-- Two empty slots return none.
abbrev pub AbsentUnionVectorsReadBack : (T E : Type 0) → Type 0
AbsentUnionVectorsReadBack T E =
    (B : List ℕ) (read : Table) (slot : ℕ) → SlotHolds B read slot None
    → SlotHolds B read (slot + 1) None
    → (type_ method : List ℕ) (offset : ℕ)
    (r : Result (Option (VectorOf (UnionSliceView T E))) Error)
    → Located (UnionVectorAnswer reads_unions read slot) type_ method offset r → r ≡ Ok None

abbrev pub MissingUnionVectorsAreErrors : (T E : Type 0) → Type 0
MissingUnionVectorsAreErrors T E =
    (B : List ℕ) (read : Table) (slot : ℕ) → SlotHolds B read slot None
    → SlotHolds B read (slot + 1) None
    → (type_ method : List ℕ) (offset : ℕ) (r : Result (VectorOf (UnionSliceView T E)) Error)
    → Located (Required (UnionVectorAnswer reads_unions read slot)) type_ method offset r
    → IsMissing type_ method offset r
