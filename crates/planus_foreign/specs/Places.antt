-- Where in a buffer something is: strings, vectors, tables and unions.
pub use Rattle.planus.specs.Accessors.{IsField, IsRequired}
use Rattle.std.specs.Prelude.{◌≡◌, ℕ, ◌+◌, ◌≤◌, ◌^◌, List, [], length, Option, Some, None}
use Rattle.std.specs.Prelude.{Result, Ok, Err, ◌⊎◌}
use Rattle.std.specs.Borrow.{Bor}
use Rattle.planus_read.specs.declared.errors.ErrorKind.{ErrorKind}
use Rattle.planus_read.specs.declared.located.Error.{Error}
use Rattle.planus_read.specs.declared.slice_helpers.SliceWithStartOffset.{SliceWithStartOffset}
use Rattle.planus_read.specs.declared.table_reader.Table.{Table}
use Rattle.planus_read.specs.Clauses.{Answer, FirstBroken}
use Rattle.planus_read.specs.Located.{Located, Required}
use Rattle.planus_read.specs.Plain.{Shape, plain_reading, own_reading}
use Rattle.planus_read.specs.Reading.{TextThere, HeadThere, text_clauses, head_clauses}
use Rattle.planus_read.specs.Tables.{FieldAnswer, table_start}
use Rattle.planus_read.specs.Clauses.{shown}
use Rattle.planus_read.specs.Items.{unions_name}
use Rattle.planus_read.specs.Slices.{slice_bytes}
use Rattle.planus_read.specs.SizePrefixed.{Prefixed, ShowsPrefixed, prefixed_reading}
use Rattle.planus_view.specs.PlainRefs.{reads_plain_ref}
use Rattle.planus_view.specs.VectorView.{count_of, view_of}
use Rattle.planus_view.specs.declared.item_errors.AsRead.{AsRead}
use Rattle.planus_view.specs.declared.union_vector.UnionSliceView.{UnionSliceView}
use Rattle.planus_view.specs.declared.vector.SliceView.{SliceView}
use Rattle.planus_view.specs.declared.vector_of.VectorOf.{VectorOf}
use Rattle.planus.specs.UnionAccessors.{IsUnionField, IsUnionRequired, IsUnionItem}
use Rattle.planus.specs.UnionAccessors.{IsUnionVector}
use Rattle.planus_foreign.specs.Calls.{Gives, GivesIf, GivesThere, ReadsThere, IsTableAt}
use Rattle.planus_foreign.specs.Calls.{Value}
use Rattle.planus_foreign.specs.Statuses.{fine, absent, status_of}
use Rattle.planus_foreign.specs.declared.member.Member.{Member}
use Rattle.planus_foreign.specs.declared.position.Position.{Position}
use Rattle.planus_foreign.specs.declared.span.Span.{Span}

-- a string's bytes without the null, by the position of the first in the buffer and their number
pub record TextSpan (S : List ℕ) (start f : ℕ) (span : Span) : Type 0 where
  pub content : List ℕ
  pub text : TextThere S f content
  pub counted : span.len ≡ length content
  pub position : ℕ
  pub count : ℕ
  pub head : HeadThere S f position count
  pub begin : span.at ≡ start + position

abbrev pub IsTextSpan : List ℕ → ℕ → ℕ → Result Span ErrorKind → Type 0
IsTextSpan S start f (Ok span) = TextSpan S start f span
IsTextSpan S start f (Err e) =
    FirstBroken (text_clauses S f) e ⊎ FirstBroken (head_clauses S f []) e

module _ (table : Table) (slot : ℕ) (type_ method : List ℕ) where
  abbrev pub IsTextSpanField : Result (Option Span) Error → Type 0
  IsTextSpanField r = Located (FieldAnswer IsTextSpan table slot) type_ method (table_start table) r

  abbrev pub IsTextSpanRequired : Result Span Error → Type 0
  IsTextSpanRequired r =
      Located (Required (FieldAnswer IsTextSpan table slot)) type_ method (table_start table) r

-- the items of a vector, by the position of the first one in the buffer and their number
abbrev pub IsItemSpan :
    {T S : _} {kind : _} → VectorOf (SliceView T S kind) → Span → Type 0
IsItemSpan vector span = (span.at ≡ (view_of vector).start) × (span.len ≡ count_of vector)

abbrev pub Items :
    {T S : _} {kind : _} → Result (VectorOf (SliceView T S kind)) Error → Span → Span → ℕ → Type 0
Items = Gives IsItemSpan

abbrev pub ItemsIf :
    {T S : _} {kind : _} → Result (Option (VectorOf (SliceView T S kind))) Error → Span → Span → ℕ
    → Type 0
ItemsIf = GivesIf IsItemSpan

-- where a reference is, in the buffer
abbrev pub IsPosition : List ℕ → ℕ → ℕ → Result Position ErrorKind → Type 0
IsPosition S start f (Ok position) = position.at ≡ start + f
IsPosition S start f (Err kind) = 2 ^ 64 ≤ start + f

module _ (table : Table) (slot : ℕ) (type_ method : List ℕ) where
  abbrev pub IsPositionField : Result (Option Position) Error → Type 0
  IsPositionField r = Located (FieldAnswer IsPosition table slot) type_ method (table_start table) r

  abbrev pub IsPositionRequired : Result Position Error → Type 0
  IsPositionRequired r =
      Located (Required (FieldAnswer IsPosition table slot)) type_ method (table_start table) r

-- a table is at this position, and the position was stored, or none is there
abbrev pub GivesTable : List ℕ → ℕ → ℕ → ℕ → ℕ → Type 0
GivesTable buffer position old new status = ReadsThere IsTableAt
    (λ (table : Table) (stored : ℕ). stored ≡ position) buffer position old new status

-- what is stored of a table's position
abbrev pub TablePosition : List ℕ → Result Position Error → ℕ → ℕ → ℕ → Type 0
TablePosition buffer (Ok position) old new status = GivesTable buffer position.at old new status
TablePosition buffer (Err e) old new status = (new ≡ old) × (status ≡ status_of e.error_kind)

abbrev pub TablePositionIf : List ℕ → Result (Option Position) Error → ℕ → ℕ → ℕ → Type 0
TablePositionIf buffer (Ok (Some position)) old new status =
    GivesTable buffer position.at old new status
TablePositionIf buffer (Ok None) old new status = (new ≡ old) × (status ≡ absent)
TablePositionIf buffer (Err e) old new status = (new ≡ old) × (status ≡ status_of e.error_kind)

-- a union by its tag and where the reference to its value is, in the buffer
pub record MemberIs (start tag f : ℕ) (member : Member) : Type 0 where
  pub tagged : member.tag ≡ tag
  pub position : member.at ≡ start + f

abbrev pub IsMember : List ℕ → ℕ → ℕ → ℕ → Result Member ErrorKind → Type 0
IsMember S start tag f (Ok member) = MemberIs start tag f member
IsMember S start tag f (Err kind) = 2 ^ 64 ≤ start + f

module _ (table : Table) (slot : ℕ) (type_ method : List ℕ) where
  abbrev pub IsMemberField : Result (Option Member) Error → Type 0
  IsMemberField = IsUnionField IsMember table slot type_ method Member

  abbrev pub IsMemberRequired : Result Member Error → Type 0
  IsMemberRequired = IsUnionRequired IsMember table slot type_ method

-- the result of the accessor of a vector of unions
abbrev pub IsMembers :
    Table → ℕ → List ℕ → List ℕ → Result (Option (VectorOf (UnionSliceView Member AsRead))) Error
    → Type 0
IsMembers table slot type_ method = IsUnionVector table slot type_ method

-- an item that was read was stored, or there is none
abbrev pub GivesItem : Option (Result Member Error) → Member → Member → ℕ → Type 0
GivesItem None old new status = (new ≡ old) × (status ≡ absent)
GivesItem (Some read) old new status = Value read old new status

-- the item of a vector of unions at an index
pub record MemberItem {T E : Type 0} (index : ℕ) (vector : VectorOf (UnionSliceView T E))
    (old new : Member) (status : ℕ) : Type 0 where
  pub item : Option (Result Member Error)
  pub is : IsUnionItem IsMember unions_name vector index item
  pub stores : GivesItem item old new status

abbrev pub MemberItemIf :
    {T E : Type 0} → ℕ → Result (Option (VectorOf (UnionSliceView T E))) Error → Member → Member → ℕ
    → Type 0
MemberItemIf index (Ok (Some vector)) old new status = MemberItem index vector old new status
MemberItemIf index (Ok None) old new status = (new ≡ old) × (status ≡ absent)
MemberItemIf index (Err e) old new status = (new ≡ old) × (status ≡ status_of e.error_kind)

-- the string to which the reference at a position leads
abbrev pub IsTextAt : List ℕ → ℕ → Result Span ErrorKind → Type 0
IsTextAt buffer position r = IsTextSpan buffer 0 position r

-- the value of this shape at a position
abbrev pub IsValueAt : {A : Type 0} {size alignment : ℕ} → Shape A size alignment → List ℕ → ℕ
    → Result A ErrorKind → Type 0
IsValueAt shape buffer position r = Answer (plain_reading shape buffer position) r

-- the rest of the buffer from a value on, to which a reference leads, and the value
pub record ValueBehind {A : Type 0} {size alignment : ℕ} (shape : Shape A size alignment)
    (buffer : List ℕ) (position : ℕ) (r : Result A ErrorKind) : Type 0 where
  pub slice : SliceWithStartOffset
  pub found : reads_plain_ref (λ (s : SliceWithStartOffset). s) size buffer 0 position (Ok slice)
  pub answer : Answer (own_reading shape (slice_bytes slice) 0) r

-- a reference that leads to no value
pub record NothingBehind {A : Type 0} (size : ℕ) (buffer : List ℕ) (position : ℕ)
    (r : Result A ErrorKind) : Type 0 where
  pub kind : ErrorKind
  pub broken : reads_plain_ref (λ (s : SliceWithStartOffset). s) size buffer 0 position (Err kind)
  pub is : r ≡ Err kind

-- the value of this shape to which the reference at a position leads
abbrev pub IsValueBehind : {A : Type 0} {size alignment : ℕ} → Shape A size alignment → List ℕ → ℕ
    → Result A ErrorKind → Type 0
IsValueBehind {A} {size} shape buffer position r =
    ValueBehind shape buffer position r ⊎ NothingBehind size buffer position r

-- the bytes of the first size-prefixed buffer, after its size
pub record SizedSpan (buffer : List ℕ) (old new : Span) (status : ℕ) : Type 0 where
  pub result : Result (SliceWithStartOffset × Bor (List ℕ)) ErrorKind
  pub is : Answer (shown ShowsPrefixed (prefixed_reading buffer)) result
  pub stores :
      GivesThere (λ read span. (span.at ≡ 4) × (span.len ≡ length (slice_bytes read.0))) result old
      new status
