-- The fields of a table: what each holds, and what its method returns once the table is read.
use Rattle.std.specs.Prelude.{◌≡◌, ℕ, ◌+◌, ◌==◌, List, [], ◌∷◌, ◌++◌, map, Bool}
use Rattle.std.specs.Prelude.{if◌then◌else◌, Option, Some, Result, Ok, IsOkAnd, MatchOption, ⊤}
use Rattle.std.specs.Prelude.{ℤ, FitsSigned, IsTrue}
use Rattle.std.specs.Borrow.{Bor}
use Rattle.std.specs.Int.{Width}
use Rattle.std.specs.Ordering.{int_eq}
use Rattle.planus_read.specs.declared.located.Error.{Error}
use Rattle.planus_read.specs.declared.table_reader.Table.{Table}
use Rattle.planus_read.specs.Plain.{Shape}
use Rattle.planus_read.specs.Shapes.{u32_shape}
use Rattle.planus_read.specs.declared.plain.Plain.{Ghosts as PlainGhosts}
use Rattle.planus_write.specs.Contents.{Content, written, written_union}
use Rattle.planus_write.specs.Finishing.{FinishGives}
use Rattle.planus_write.specs.History.{History}
use Rattle.planus_write.specs.Preparing.{IsPrepared}
use Rattle.planus_write.specs.State.{State, IsHistoryOf}
use Rattle.planus_write.specs.declared.offset.Offset.{Offset}
use Rattle.planus_write.specs.declared.union_offset.UnionOffset.{UnionOffset}
use Rattle.planus_view.specs.declared.item_errors.AsRead.{AsRead}
use Rattle.planus_view.specs.declared.vector.SliceView.{SliceView}
use Rattle.planus_view.specs.declared.vector_of.VectorOf.{VectorOf}
use Rattle.planus_fields.specs.Contents.{holds_if, unless}
use Rattle.planus.specs.Accessors.{FieldKind, IsField, IsRequired, SameIf, plains_kind, texts_kind}
use Rattle.planus.specs.Accessors.{tables_kind}
use Rattle.planus.specs.Holds.{holds_plain, holds_union_tag, holds_union_value}
use Rattle.planus.specs.Holds.{holds_any_union_tags, holds_any_union_values, holds_union_tags}
use Rattle.planus.specs.Holds.{holds_union_values, as_signed}
use Rattle.planus.specs.Contents.{TableIsKept, WritesContents}
use Rattle.planus.specs.KeptValues.{ValuesStandIn}
use Rattle.planus.specs.ReadBack.{ContentsStand, SlotHolds, TableHolds, are_apart}
use Rattle.planus.specs.ReadPlain.{IsPlainField, IsPlainFieldOr}
use Rattle.planus.specs.UnionAccessors.{IsUnionField, IsUnionRequired, IsUnionVector}
use Rattle.planus.specs.UnionAccessors.{IsUnionVectorRequired, AreAnyUnions, AreUnionsOf}
use Rattle.planus.specs.declared.tables.kind.table_ref.TableRef.{TableRef}
use Rattle.planus.specs.Unions.{UnionVariant, ReadsVariants, UnionStands, IsUnion}

-- the items of vectors, by their shape
abbrev pub items_of : {R : Type 0} {size alignment : ℕ} → Shape R size alignment → PlainGhosts R
items_of {R} {size} {alignment} shape =
    record { ALIGNMENT = alignment; SIZE = size; shape = shape }

-- vectors of values of a fixed layout, those of values whose read may fail, of strings, of tables
abbrev pub plains :
    {R : Type 0} {size alignment : ℕ} → (shape : Shape R size alignment)
    → FieldKind (List R) (Bor (List R)) (VectorOf (SliceView R R (items_of shape)))
plains shape = plains_kind

abbrev pub judged :
    {R : Type 0} {size alignment : ℕ} → (shape : Shape R size alignment)
    → FieldKind (List R) (Bor (List R)) (VectorOf (SliceView (Result R Error) R (items_of shape)))
judged shape = plains_kind

abbrev pub texts :
    FieldKind (List (Bor (List ℕ))) (Bor (List (Bor (List ℕ))))
    (VectorOf (SliceView (Result (Bor (List ℕ)) Error) ℕ (items_of u32_shape)))
texts = texts_kind

abbrev pub tables :
    (K : Type 0)
    → FieldKind (List (Offset K)) (Bor (List (Offset K)))
    (VectorOf (SliceView (Result (TableRef K) Error) ℕ (items_of u32_shape)))
tables K = tables_kind K

-- A field by its kind and slot, and what was given for it. One with a default is left out where it
-- equals the default, by the equality of its type.
pub data FieldLine : Type 1 where
  optional : {X G T : Type 0} → FieldKind X G T → ℕ → Option G → FieldLine
  required : {X G T : Type 0} → FieldKind X G T → ℕ → G → FieldLine
  plain_if : {T : Type 0} {size alignment : ℕ} → Shape T size alignment → ℕ → Option T → FieldLine
  plain_or :
      {T : Type 0} {size alignment : ℕ} → Shape T size alignment → (T → T → Bool) → ℕ → T → T
      → FieldLine
  number_or : {size alignment : ℕ} → Shape ℕ size alignment → ℕ → ℕ → ℕ → FieldLine
  signed_or : {size alignment : ℕ} → Shape ℤ size alignment → Width → ℕ → ℤ → ℤ → FieldLine
  union : {K U : Type 0} → List (UnionVariant U) → ℕ → Option (UnionOffset K) → FieldLine
  union_required : {K U : Type 0} → List (UnionVariant U) → ℕ → UnionOffset K → FieldLine
  unions : {K : Type 0} → (T : Type 0) → ℕ → Bor (List (UnionOffset K)) → FieldLine
  unions_required : {K : Type 0} → (T : Type 0) → ℕ → Bor (List (UnionOffset K)) → FieldLine

-- what the field's slots hold; those that are written after all others
abbrev pub holds_first : FieldLine → List (ℕ × Option Content)
holds_first (optional kind slot given) =
    (slot, holds_if (λ one. Some (kind.content (kind.part one))) given) ∷ []
holds_first (required kind slot given) = (slot, Some (kind.content (kind.part given))) ∷ []
holds_first (plain_if shape slot given) = (slot, holds_if (holds_plain shape) given) ∷ []
holds_first (plain_or shape equal slot default given) =
    (slot, unless (equal given default) (holds_plain shape given)) ∷ []
holds_first (number_or shape slot default given) =
    (slot, unless (given == default) (holds_plain shape given)) ∷ []
holds_first (signed_or shape width slot default given) = (
  slot,
  unless (int_eq (as_signed width given) default)
      (holds_plain shape (as_signed width given)),
) ∷ []
holds_first (union variants slot given) = (slot + 1, holds_union_value given) ∷ []
holds_first (union_required variants slot given) = (slot + 1, holds_union_value (Some given)) ∷ []
holds_first (unions T slot given) =
    (slot, holds_any_union_tags given.now) ∷ (slot + 1, holds_any_union_values given.now) ∷ []
holds_first (unions_required T slot given) =
    (slot, holds_union_tags given.now) ∷ (slot + 1, holds_union_values given.now) ∷ []

abbrev pub holds_last : FieldLine → List (ℕ × Option Content)
holds_last (union variants slot given) = (slot, holds_union_tag given) ∷ []
holds_last (union_required variants slot given) = (slot, holds_union_tag (Some given)) ∷ []
holds_last _ = []

abbrev pub all_first : List FieldLine → List (ℕ × Option Content)
all_first [] = []
all_first (line ∷ lines) = holds_first line ++ all_first lines

abbrev pub all_last : List FieldLine → List (ℕ × Option Content)
all_last [] = []
all_last (line ∷ lines) = holds_last line ++ all_last lines

-- what a table of these fields holds, slot by slot, in the order in which it is written
abbrev pub contents_of : List FieldLine → List (ℕ × Option Content)
contents_of lines = all_first lines ++ all_last lines

-- every result that a method's clause allows is this
abbrev pub Returns : {T : Type 0} → (List ℕ → List ℕ → Result T Error → Type 0)
    → (Result T Error → Type 0) → Type 0
Returns {T} Clause Is =
    (type_ method : List ℕ) (r : Result T Error) → Clause type_ method r → Is r

-- The field's method returns what was given: a value is equal, none is none, one that is left out
-- is the default, and what was written before is read with all that it holds. A number fits its
-- type, a string is UTF-8, and what an offset leads to is encoded in B.
abbrev pub ReturnsGiven : List ℕ → Table → FieldLine → Type 0
ReturnsGiven B table (optional kind slot given) =
    MatchOption given ⊤ (λ one. kind.May B (kind.part one))
    → Returns (IsField kind table slot)
    (λ r. IsOkAnd r (SameIf (λ one. kind.IsRead B (kind.part one)) given))
ReturnsGiven B table (required kind slot given) =
    kind.May B (kind.part given)
    → Returns (IsRequired kind table slot) (λ r. IsOkAnd r (kind.IsRead B (kind.part given)))
ReturnsGiven B table (plain_if shape slot given) =
    MatchOption given ⊤ shape.fits
    → Returns (IsPlainField shape table slot) (λ r. r ≡ Ok given)
ReturnsGiven B table (plain_or shape equal slot default given) =
    shape.fits given
    → Returns (IsPlainFieldOr shape default table slot)
    (λ r. r ≡ Ok (if equal given default then default else given))
ReturnsGiven B table (number_or shape slot default given) =
    shape.fits given → Returns (IsPlainFieldOr shape default table slot) (λ r. r ≡ Ok given)
ReturnsGiven B table (signed_or shape width slot default given) =
    FitsSigned width given → shape.fits given
    → Returns (IsPlainFieldOr shape default table slot) (λ r. r ≡ Ok given)
ReturnsGiven B table (union {K = K} variants slot given) =
    MatchOption given ⊤
    (λ one. UnionStands variants B one.tag (written one.offset.distance))
    → Returns (λ type_ method. IsUnionField (ReadsVariants variants) table slot type_ method K)
    (λ r. IsOkAnd r
    (SameIf (λ one. IsUnion variants B one.tag (written one.offset.distance)) given))
ReturnsGiven B table (union_required variants slot given) =
    UnionStands variants B given.tag (written given.offset.distance)
    → Returns (IsUnionRequired (ReadsVariants variants) table slot)
    (λ r. IsOkAnd r (IsUnion variants B given.tag (written given.offset.distance)))
ReturnsGiven B table (unions T slot given) =
    Returns (IsUnionVector {T = T} {E = AsRead} table slot)
    (λ r. IsOkAnd r (AreAnyUnions B (map written_union given.now)))
ReturnsGiven B table (unions_required T slot given) =
    Returns (IsUnionVectorRequired {T = T} {E = AsRead} table slot)
    (λ r. IsOkAnd r (AreUnionsOf B (map written_union given.now)))

abbrev pub AllReturnGiven : List ℕ → Table → List FieldLine → Type 0
AllReturnGiven B table [] = ⊤
AllReturnGiven B table (line ∷ lines) = ReturnsGiven B table line × AllReturnGiven B table lines

-- Each table that a builder has is encoded in B, with all that it refers to.
abbrev pub KeptTablesStandIn : List ℕ → State → Type 0
KeptTablesStandIn B builder =
    (history : History) (contents : List (ℕ × Option Content)) (distance : ℕ)
    → IsHistoryOf builder history
    → TableIsKept history contents distance → IsTrue (are_apart contents)
    → ContentsStand B contents distance

-- What is read of a root that a builder finishes: a view with all contents with which its table was
-- written. The buffer has all tables that the builder had before, with all that they refer to, and
-- each value.
abbrev pub RootIsRead :
    {V K : Type 0} → (V → Table) → Offset K → Option (List ℕ) → State → Result V Error → Type 0
RootIsRead table_of root identifier builder read =
    (before : State) (contents : List (ℕ × Option Content)) → (history : History)
    × IsHistoryOf before history
    → WritesContents contents before root.distance builder → IsTrue (are_apart contents)
    → IsOkAnd read
    (λ view. (B : List ℕ) × FinishGives (IsPrepared root) identifier builder B
    × KeptTablesStandIn B before × ValuesStandIn B before
    × TableHolds B contents (table_of view))

-- Over what a builder had a table was written and read, whose slot and the next hold this union.
pub record UnionIsRead {K : Type 0} (builder : State) (table : Table) (slot : ℕ)
    (given : UnionOffset K)
    : Type 0 where
  pub bytes : List ℕ
  pub keeps_values : ValuesStandIn bytes builder
  pub tag : SlotHolds bytes table slot (holds_union_tag (Some given))
  pub value : SlotHolds bytes table (slot + 1) (holds_union_value (Some given))

abbrev pub UnionOfIsRead : State → Table → FieldLine → Type 0
UnionOfIsRead builder table (union variants slot given) =
    MatchOption given ⊤ (UnionIsRead builder table slot)
UnionOfIsRead builder table (union_required variants slot given) =
    UnionIsRead builder table slot given
UnionOfIsRead builder table _ = ⊤

abbrev pub UnionsAreRead : State → Table → List FieldLine → Type 0
UnionsAreRead builder table [] = ⊤
UnionsAreRead builder table (line ∷ lines) =
    UnionOfIsRead builder table line × UnionsAreRead builder table lines

-- A table was written with these fields over what a builder had, and is read: each method returns
-- what was given for its field.
pub record LinesReadBack (builder : State) (lines : List FieldLine) (table : Table) : Type 0 where
  pub bytes : List ℕ
  pub keeps : KeptTablesStandIn bytes builder
  pub keeps_values : ValuesStandIn bytes builder
  pub holds : TableHolds bytes (contents_of lines) table
  pub returns : AllReturnGiven bytes table lines
  pub unions : UnionsAreRead builder table lines
