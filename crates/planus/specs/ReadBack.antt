-- What is read from a table that was written.
use Rattle.std.specs.Prelude.{◌≡◌, ℕ, ◌+◌, ◌≤◌, ◌==◌, List, [], ◌∷◌, length, drop, Bool, true, not}
use Rattle.std.specs.Prelude.{◌&&◌, if◌then◌else◌}
use Rattle.std.specs.Prelude.{Option, Some, None, Result, Ok, IsOkAnd, IsSomeAnd, IsTrue, ⊤}
use Rattle.planus_read.specs.declared.errors.ErrorKind.{ErrorKind}
use Rattle.planus_read.specs.declared.located.Error.{Error}
use Rattle.planus_read.specs.declared.table_reader.Table.{Table}
use Rattle.planus_read.specs.Bytes.{position_of}
use Rattle.planus_read.specs.Clauses.{Answer, shown}
use Rattle.planus_read.specs.Located.{Located, Required, OrDefault, IsMissing}
use Rattle.planus_read.specs.Reading.{table_reading}
use Rattle.planus_read.specs.Stands.{Stands, at, at_both, ReferenceStands}
use Rattle.planus_read.specs.TableReading.{HasFields}
use Rattle.planus_read.specs.Tables.{Reads, FieldAnswer}
use Rattle.planus_read.specs.Values.{Value, Field, plain, reference, tags, values as values_field}
use Rattle.planus_read.specs.Values.{reference_list, union_vector, table, field_at}
use Rattle.planus_write.specs.Finishing.{FinishGives, SizedFinishGives}
use Rattle.planus_write.specs.History.{History}
use Rattle.planus_write.specs.Preparing.{IsPrepared}
use Rattle.planus_write.specs.Placing.{Outcome}
use Rattle.planus_write.specs.State.{State, IsHistoryOf, Extends}
use Rattle.planus_write.specs.declared.offset.Offset.{Offset}
use Rattle.planus_write.specs.Contents.{Content, item, value, values, written, union_tags}
use Rattle.planus_write.specs.Contents.{union_values, written_tags, written_values}
use Rattle.planus.specs.Contents.{there_of}
use Rattle.planus_write.specs.Contents.{Unions, no_unions, union_and}
use Rattle.planus.specs.Contents.{TableIsKept}
use Rattle.planus.specs.Views.{ShowsView}
use Rattle.planus.specs.declared.tables.kind.table_ref.TableRef.{TableRef}

abbrev pub AllStand : List ℕ → List Value → List ℕ → Type 0
AllStand B [] [] = ⊤
AllStand B (one ∷ others) (distance ∷ distances) =
    Stands B (at (position_of B distance)) one × AllStand B others distances
AllStand B [] (distance ∷ distances) = ⊥
AllStand B (one ∷ others) [] = ⊥

abbrev mutual
  -- The field holds this in B, with all that it refers to.
  pub FieldHolds : List ℕ → Content → Field → Type 0
  FieldHolds B (item content) field = field ≡ plain content
  FieldHolds B (value content) field =
      (distance : ℕ) × (field ≡ reference distance) × Stands B (at (position_of B distance)) content
  FieldHolds B (values contents) field =
      (distance : ℕ) × (field ≡ reference distance)
      × ((distances : List ℕ) × Stands B (at (position_of B distance)) (reference_list distances)
      × AllStand B contents distances)
  FieldHolds B (written distance) field = field ≡ reference distance
  FieldHolds B (union_tags contents) field =
      (tags_at values_at : ℕ) × (field ≡ tags tags_at)
      × ((unions : List (ℕ × ℕ))
      × Stands B (at_both (position_of B tags_at) (position_of B values_at)) (union_vector unions)
      × UnionsHold B contents unions)
  FieldHolds B (union_values contents) field =
      (tags_at values_at : ℕ) × (field ≡ values_field values_at)
      × ((unions : List (ℕ × ℕ))
      × Stands B (at_both (position_of B tags_at) (position_of B values_at)) (union_vector unions)
      × UnionsHold B contents unions)
  FieldHolds B (written_tags distance) field = field ≡ tags distance
  FieldHolds B (written_values distance) field = field ≡ values_field distance

  -- unions with these tags, whose values hold these in B
  pub UnionsHold : List ℕ → Unions → List (ℕ × ℕ) → Type 0
  UnionsHold B no_unions [] = ⊤
  UnionsHold B (union_and tag content others) (union ∷ unions) =
      (union.0 ≡ tag) × FieldHolds B content (reference union.1) × UnionsHold B others unions
  UnionsHold B no_unions (union ∷ unions) = ⊥
  UnionsHold B (union_and tag content others) [] = ⊥

abbrev pub FieldHoldsIf : List ℕ → Option Content → Option Field → Type 0
FieldHoldsIf B None None = ⊤
FieldHoldsIf B (Some content) (Some field) = FieldHolds B content field
FieldHoldsIf B None (Some field) = ⊥
FieldHoldsIf B (Some content) None = ⊥

abbrev pub FieldsHold : List ℕ → List (ℕ × Content) → List (ℕ × Field) → Type 0
FieldsHold B [] [] = ⊤
FieldsHold B (content ∷ contents) (field ∷ fields) =
    (field.0 ≡ content.0) × FieldHolds B content.1 field.1 × FieldsHold B contents fields
FieldsHold B [] (field ∷ fields) = ⊥
FieldsHold B (content ∷ contents) [] = ⊥

-- no entry has the slot
abbrev pub is_other : ℕ → List (ℕ × Option Content) → Bool
is_other slot [] = true
is_other slot (one ∷ contents) = not (one.0 == slot) && is_other slot contents

abbrev pub are_apart : List (ℕ × Option Content) → Bool
are_apart [] = true
are_apart (one ∷ contents) = is_other one.0 contents && are_apart contents

abbrev pub content_at : List (ℕ × Option Content) → ℕ → Option Content
content_at [] slot = None
content_at (one ∷ contents) slot = if one.0 == slot then one.1 else content_at contents slot

-- A table with exactly these contents is in B, with what it refers to.
pub record ContentsStand (B : List ℕ) (contents : List (ℕ × Option Content)) (distance : ℕ)
    : Type 0 where
  pub fields : List (ℕ × Field)
  pub hold : FieldsHold B (there_of contents) fields
  pub apart : IsTrue (are_apart contents)
  pub stands : Stands B (at (position_of B distance)) (table fields)

-- The table that was read is in B, and the slot holds this, or nothing.
pub record SlotHolds (B : List ℕ) (read : Table) (slot : ℕ) (content : Option Content)
    : Type 0 where
  pub position : ℕ
  pub entries : List (ℕ × Field)
  pub fields : HasFields B position entries read
  pub holds : FieldHoldsIf B content (field_at entries slot)

-- each slot, also past the vtable's end, holds its content or nothing
abbrev pub TableHolds : List ℕ → List (ℕ × Option Content) → Table → Type 0
TableHolds B contents read = (slot : ℕ) → SlotHolds B read slot (content_at contents slot)

-- A stored table is encoded in what was written.
abbrev pub KeptTablesStand : Type 0
KeptTablesStand =
    (history : History) (contents : List (ℕ × Option Content)) (distance : ℕ)
    → TableIsKept history contents distance → IsTrue (are_apart contents)
    → ContentsStand history.written.bytes contents distance

-- A stored table stays so, whatever is written later.
abbrev pub KeptTablesStay : Type 0
KeptTablesStay =
    (before after : History) (contents : List (ℕ × Option Content)) (distance : ℕ)
    → Extends before after → TableIsKept before contents distance
    → TableIsKept after contents distance

-- A stored table is encoded in the bytes of any finish.
abbrev pub FinishesKeepTables : {X T : Type 0} → (X → State → Type 0) → (X → Outcome (Offset T))
    → Type 0
FinishesKeepTables {X} may outcome =
    (contents : List (ℕ × Option Content)) (history : History) (state : State) (distance : ℕ)
    (root : X)
    (identifier : Option (List ℕ)) (bytes : List ℕ) → IsHistoryOf state history
    → TableIsKept history contents distance → IsTrue (are_apart contents) → may root state
    → FinishGives (outcome root) identifier state bytes → ContentsStand bytes contents distance

-- The same for a size-prefixed finish, also after its size.
abbrev pub SizedFinishesKeepTables : {X T : Type 0} → (X → State → Type 0)
    → (X → Outcome (Offset T)) → Type 0
SizedFinishesKeepTables {X} may outcome =
    (contents : List (ℕ × Option Content)) (history : History) (state : State) (distance : ℕ)
    (root : X)
    (identifier : Option (List ℕ)) (bytes : List ℕ) → IsHistoryOf state history
    → TableIsKept history contents distance → IsTrue (are_apart contents) → may root state
    → SizedFinishGives (outcome root) identifier state bytes
    → ContentsStand bytes contents distance × ContentsStand (drop 4 bytes) contents distance

-- The first reference of a finish leads to its root table.
abbrev pub FinishedTablesStand : Type 0 → Type 0
FinishedTablesStand T =
    (contents : List (ℕ × Option Content)) (history : History) (state : State) (offset : Offset T)
    (identifier : Option (List ℕ)) (bytes : List ℕ) → IsHistoryOf state history
    → TableIsKept history contents offset.distance → IsTrue (are_apart contents)
    → offset.distance ≤ length state.bytes → FinishGives (IsPrepared offset) identifier state bytes
    → ContentsStand bytes contents offset.distance × ReferenceStands bytes 0 offset.distance

-- The same after the size of a size-prefixed finish.
abbrev pub SizedFinishedTablesStand : Type 0 → Type 0
SizedFinishedTablesStand T =
    (contents : List (ℕ × Option Content)) (history : History) (state : State) (offset : Offset T)
    (identifier : Option (List ℕ)) (bytes : List ℕ) → IsHistoryOf state history
    → TableIsKept history contents offset.distance → IsTrue (are_apart contents)
    → offset.distance ≤ length state.bytes
    → SizedFinishGives (IsPrepared offset) identifier state bytes
    → ContentsStand (drop 4 bytes) contents offset.distance
    × ReferenceStands (drop 4 bytes) 0 offset.distance

-- A table reads back by each reference to it.
abbrev pub ReferencesReadBack : Type 0 → Type 0
ReferencesReadBack K =
    (B : List ℕ) (start f : ℕ) (contents : List (ℕ × Option Content)) (distance : ℕ)
    → ContentsStand B contents distance → ReferenceStands B (start + f) distance
    → (r : Result (TableRef K) ErrorKind)
    → Answer (shown (ShowsView (drop start B) start) (table_reading (drop start B) f)) r
    → IsOkAnd r (λ view. TableHolds B contents view.table)

-- The same as the root.
abbrev pub RootsReadBack : Type 0 → Type 0
RootsReadBack K =
    (B : List ℕ) (contents : List (ℕ × Option Content)) (distance : ℕ)
    → ContentsStand B contents distance → ReferenceStands B 0 distance
    → (type_ method : List ℕ) (offset : ℕ) (r : Result (TableRef K) Error)
    → Located (Answer (shown (ShowsView B 0) (table_reading B 0))) type_ method offset r
    → IsOkAnd r (λ view. TableHolds B contents view.table)

-- The same as an item of a vector.
abbrev pub ItemsReadBack : Type 0 → Type 0
ItemsReadBack K =
    (B : List ℕ) (start f : ℕ) (contents : List (ℕ × Option Content)) (distance : ℕ)
    → ContentsStand B contents distance → ReferenceStands B (start + f) distance
    → (type_ method : List ℕ) (offset : ℕ) (r : Result (TableRef K) Error)
    → Located (Answer (shown (ShowsView (drop start B) start) (table_reading (drop start B) f)))
    type_ method offset r
    → IsOkAnd r (λ view. TableHolds B contents view.table)

-- results for a slot with this content, by kind of accessor
pub record ContentsReadBack {X T : Type 0} (reads : Reads T) (May : List ℕ → X → Type 0)
    (content : X → Content) (IsRead : List ℕ → X → T → Type 0) : Type 0 where
  pub optional :
      (B : List ℕ) (read : Table) (slot : ℕ) (x : X)
      → SlotHolds B read slot (Some (content x)) → May B x
      → (type_ method : List ℕ) (offset : ℕ) (r : Result (Option T) Error)
      → Located (FieldAnswer reads read slot) type_ method offset r
      → IsOkAnd r (λ found. IsSomeAnd found (IsRead B x))
  pub required :
      (B : List ℕ) (read : Table) (slot : ℕ) (x : X)
      → SlotHolds B read slot (Some (content x)) → May B x
      → (type_ method : List ℕ) (offset : ℕ) (r : Result T Error)
      → Located (Required (FieldAnswer reads read slot)) type_ method offset r
      → IsOkAnd r (IsRead B x)
  pub or_default :
      (B : List ℕ) (read : Table) (slot : ℕ) (x : X) (default : T)
      → SlotHolds B read slot (Some (content x)) → May B x
      → (type_ method : List ℕ) (offset : ℕ) (r : Result T Error)
      → Located (OrDefault default (FieldAnswer reads read slot)) type_ method offset r
      → IsOkAnd r (IsRead B x)

-- results for an empty slot: none, `MissingRequired`, or the default
pub record AbsentFieldsReadBack {T : Type 0} (reads : Reads T) : Type 0 where
  pub optional :
      (B : List ℕ) (read : Table) (slot : ℕ) → SlotHolds B read slot None
      → (type_ method : List ℕ) (offset : ℕ) (r : Result (Option T) Error)
      → Located (FieldAnswer reads read slot) type_ method offset r → r ≡ Ok None
  pub required :
      (B : List ℕ) (read : Table) (slot : ℕ) → SlotHolds B read slot None
      → (type_ method : List ℕ) (offset : ℕ) (r : Result T Error)
      → Located (Required (FieldAnswer reads read slot)) type_ method offset r
      → IsMissing type_ method offset r
  pub or_default :
      (B : List ℕ) (read : Table) (slot : ℕ) (default : T) → SlotHolds B read slot None
      → (type_ method : List ℕ) (offset : ℕ) (r : Result T Error)
      → Located (OrDefault default (FieldAnswer reads read slot)) type_ method offset r
      → r ≡ Ok default
