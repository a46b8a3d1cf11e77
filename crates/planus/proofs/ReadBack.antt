-- What is read of a table that was written.
use Rattle.std.proofs.Common.{◌≡◌, ℕ, ◌+◌, List, [], ◌∷◌, drop, refl, sym, subst, ap, ◌∙◌, Bool, true, false, Option, Some, None, Result, Ok, Err, inl, inr}
use Rattle.std.specs.Prelude.{not, ◌==◌, if◌then◌else◌, IsOkAnd, IsSomeAnd}
use Rattle.std.proofs.lemmas.Bool.{and_parts, eqb-true, not-true}
use Rattle.planus_read.specs.declared.errors.ErrorKind.{ErrorKind}
use Rattle.planus_read.specs.declared.located.Error.{Error}
use Rattle.planus_read.specs.declared.table_reader.Table.{Table}
use Rattle.planus_read.specs.Bytes.{position_of}
use Rattle.planus_read.specs.Clauses.{Answer, shown}
use Rattle.planus_read.specs.Located.{Located, Required, OrDefault, IsMissing}
use Rattle.planus_read.specs.Reading.{table_reading, Leads}
use Rattle.planus_read.specs.Stands.{at, FieldStands, ReferenceStands}
use Rattle.planus_read.specs.TableReading.{FieldRead}
use Rattle.planus_read.specs.Tables.{Reads, FieldAnswer}
use Rattle.planus_read.specs.Values.{Value, Field, reference, table, field_at}
use Rattle.planus_read.proofs.SliceLaws.{references_lead}
use Rattle.planus_read.proofs.ReadsBack.{what_stands_reads_back}
use Rattle.planus_read.proofs.TableReading.{fields_read}
use Rattle.planus_write.specs.History.{History}
use Rattle.planus_write.specs.Contents.{Content, item, value, values, written, union_tags}
use Rattle.planus_write.specs.Contents.{union_values}
use Rattle.planus_write.specs.Contents.{written_tags, written_values, AllKept, FieldIs}
use Rattle.planus.specs.Contents.{FieldsAre}
use Rattle.planus.specs.Contents.{there_of, TableIsKept}
use Rattle.planus_write.specs.Contents.{Unions, no_unions, union_and, UnionsAre}
use Rattle.planus.specs.ReadBack.{AllStand, UnionsHold, FieldHolds, FieldHoldsIf}
use Rattle.planus.specs.ReadBack.{FieldsHold, is_other}
use Rattle.planus.specs.ReadBack.{are_apart, content_at, ContentsStand, SlotHolds, TableHolds}
use Rattle.planus.specs.ReadBack.{ReferencesReadBack, ContentsReadBack, AbsentFieldsReadBack}
use Rattle.planus.specs.Views.{ShowsView}
use Rattle.planus.specs.declared.tables.kind.table_ref.TableRef.{TableRef}

all_stand : (history : History) (contents : List Value) (distances : List ℕ)
    → AllKept history contents distances → AllStand history.written.bytes contents distances
all_stand history [] [] kept = tt
all_stand history (one ∷ others) (distance ∷ distances) kept =
    (kept.0.stands, all_stand history others distances kept.1)
all_stand history [] (distance ∷ distances) kept = kept
all_stand history (one ∷ others) [] kept = kept

mutual
  field_holds : (history : History) (content : Content) (field : Field) → FieldIs history content field
      → FieldHolds history.written.bytes content field
  field_holds history (item content) field is = is
  field_holds history (value content) field is = (is.0, is.1, is.2.stands)
  field_holds history (values contents) field is =
      (is.0, is.1, (is.2.0, is.2.1.stands, all_stand history contents is.2.0 is.2.2))
  field_holds history (written distance) field is = is
  field_holds history (union_tags contents) field is =
      (is.0, is.1, is.2, (is.3.0, is.3.1.stands, unions_hold history contents is.3.0 is.3.2))
  field_holds history (union_values contents) field is =
      (is.0, is.1, is.2, (is.3.0, is.3.1.stands, unions_hold history contents is.3.0 is.3.2))
  field_holds history (written_tags distance) field is = is
  field_holds history (written_values distance) field is = is

  unions_hold : (history : History) (contents : Unions) (unions : List (ℕ × ℕ))
      → UnionsAre history contents unions → UnionsHold history.written.bytes contents unions
  unions_hold history no_unions [] are = tt
  unions_hold history (union_and tag content others) (union ∷ unions) are = (
    are.0,
    field_holds history content (reference union.1) are.1,
    unions_hold history others unions are.2,
  )
  unions_hold history no_unions (union ∷ unions) are = are
  unions_hold history (union_and tag content others) [] are = are

fields_hold : (history : History) (contents : List (ℕ × Content)) (fields : List (ℕ × Field))
    → FieldsAre history contents fields → FieldsHold history.written.bytes contents fields
fields_hold history [] [] are = tt
fields_hold history (content ∷ contents) (field ∷ fields) are =
    (are.0, field_holds history content.1 field.1 are.1, fields_hold history contents fields are.2)
fields_hold history [] (field ∷ fields) are = are
fields_hold history (content ∷ contents) [] are = are

pub kept_tables_stand : (history : History) (contents : List (ℕ × Option Content)) (distance : ℕ)
    → TableIsKept history contents distance → are_apart contents ≡ true
    → ContentsStand history.written.bytes contents distance
kept_tables_stand history contents distance is apart = record {
  fields = is.fields;
  hold = fields_hold history (there_of contents) is.fields is.are;
  apart = apart;
  stands = is.table_kept.stands;
}

module _ (B : List ℕ) where
  absent_at : (slot : ℕ) (contents : List (ℕ × Option Content)) (fields : List (ℕ × Field))
      → is_other slot contents ≡ true → FieldsHold B (there_of contents) fields
      → field_at fields slot ≡ None
  absent_at slot [] [] other hold = refl
  absent_at slot [] (field ∷ fields) other hold = elim hold [ ]
  absent_at slot ((s, None) ∷ contents) fields other hold =
      absent_at slot contents fields (and_parts (not (s == slot)) (is_other slot contents) other).1 hold
  absent_at slot ((s, Some content) ∷ contents) [] other hold = elim hold [ ]
  absent_at slot ((s, Some content) ∷ contents) (field ∷ fields) other hold =
      let parts = and_parts (not (s == slot)) (is_other slot contents) other in
      let differs : (field.0 == slot) ≡ false
      = ap (λ (n : ℕ). n == slot) hold.0 ∙ not-true (s == slot) parts.0 in
      ap (λ (b : Bool). if b then Some field.1 else field_at fields slot) differs
      ∙ absent_at slot contents fields parts.1 hold.2

  holds_none : (field : Option Field) → field ≡ None → FieldHoldsIf B None field
  holds_none field same = subst (λ (field : Option Field). FieldHoldsIf B None field) (sym same) tt

  either : (b : Bool) (one other : Option Content) (field next : Option Field)
      → (b ≡ true → FieldHoldsIf B one field) → (b ≡ false → FieldHoldsIf B other next)
      → FieldHoldsIf B (if b then one else other) (if b then field else next)
  either true one other field next if_so if_not = if_so refl
  either false one other field next if_so if_not = if_not refl

  either_of_one : (b : Bool) (one other : Option Content) (field : Option Field)
      → (b ≡ true → FieldHoldsIf B one field) → (b ≡ false → FieldHoldsIf B other field)
      → FieldHoldsIf B (if b then one else other) field
  either_of_one true one other field if_so if_not = if_so refl
  either_of_one false one other field if_so if_not = if_not refl

  pub holds_at : (contents : List (ℕ × Option Content)) (fields : List (ℕ × Field))
      → are_apart contents ≡ true → FieldsHold B (there_of contents) fields → (slot : ℕ)
      → FieldHoldsIf B (content_at contents slot) (field_at fields slot)
  holds_at [] [] apart hold slot = tt
  holds_at [] (field ∷ fields) apart hold slot = elim hold [ ]
  holds_at ((s, None) ∷ contents) fields apart hold slot =
      let parts = and_parts (is_other s contents) (are_apart contents) apart in
      either_of_one (s == slot) None (content_at contents slot) (field_at fields slot)
      (λ same. holds_none (field_at fields slot)
      (ap (field_at fields) (sym (eqb-true s slot same)) ∙ absent_at s contents fields parts.0 hold))
      (λ differs. holds_at contents fields parts.1 hold slot)
  holds_at ((s, Some content) ∷ contents) [] apart hold slot = elim hold [ ]
  holds_at ((s, Some content) ∷ contents) (field ∷ fields) apart hold slot =
      let parts = and_parts (is_other s contents) (are_apart contents) apart in
      subst
      (λ (n : ℕ). FieldHoldsIf B (if s == slot then Some content else content_at contents slot)
      (if n == slot then Some field.1 else field_at fields slot))
      (sym hold.0)
      (either (s == slot) (Some content) (content_at contents slot) (Some field.1) (field_at fields slot)
      (λ same. hold.1) (λ differs. holds_at contents fields parts.1 hold.2 slot))

  pub table_led : {K : Type 0} (contents : List (ℕ × Option Content)) (distance : ℕ)
      → ContentsStand B contents distance → (start f : ℕ)
      → Leads B (start + f) (position_of B distance) → (r : Result (TableRef K) ErrorKind)
      → Answer (shown (ShowsView (drop start B) start) (table_reading (drop start B) f)) r
      → IsOkAnd r (λ view. TableHolds B contents view.table)
  table_led {K} contents distance stands start f leads (Ok view) h =
      let read = what_stands_reads_back B (at (position_of B distance)) (table stands.fields) tt
      stands.stands start f leads in
      λ slot. record {
        position = position_of B distance;
        entries = stands.fields;
        fields = read.fields (Ok view.table) h;
        holds = holds_at contents stands.fields stands.apart stands.hold slot;
      }
  table_led {K} contents distance stands start f leads (Err e) h =
      let read = what_stands_reads_back B (at (position_of B distance)) (table stands.fields) tt
      stands.stands start f leads in
      read.fields (Err e) h

  pub table_read : {K : Type 0} (contents : List (ℕ × Option Content)) (distance : ℕ)
      → ContentsStand B contents distance → (start f : ℕ) → ReferenceStands B (start + f) distance
      → (r : Result (TableRef K) ErrorKind)
      → Answer (shown (ShowsView (drop start B) start) (table_reading (drop start B) f)) r
      → IsOkAnd r (λ view. TableHolds B contents view.table)
  table_read {K} contents distance stands start f referred r h =
      table_led {K = K} contents distance stands start f
      (references_lead B (start + f) distance referred) r h

pub references_read_back : {K : Type 0} → ReferencesReadBack K
references_read_back {K} B start f contents distance stands referred r h =
    table_read B {K = K} contents distance stands start f referred r h

pub items_read_back : {K : Type 0} (B : List ℕ) (start f : ℕ) (contents : List (ℕ × Option Content))
    (distance : ℕ) → ContentsStand B contents distance → ReferenceStands B (start + f) distance
    → (type_ method : List ℕ) (offset : ℕ) (r : Result (TableRef K) Error)
    → Located (Answer (shown (ShowsView (drop start B) start) (table_reading (drop start B) f)))
    type_ method offset r
    → IsOkAnd r (λ view. TableHolds B contents view.table)
items_read_back {K} B start f contents distance stands referred type_ method offset (Ok view) h =
    table_read B {K = K} contents distance stands start f referred (Ok view) h
items_read_back {K} B start f contents distance stands referred type_ method offset (Err e) h =
    table_read B {K = K} contents distance stands start f referred (Err e.error_kind) h.0

pub roots_read_back : {K : Type 0} (B : List ℕ) (contents : List (ℕ × Option Content)) (distance : ℕ)
    → ContentsStand B contents distance → ReferenceStands B 0 distance
    → (type_ method : List ℕ) (offset : ℕ) (r : Result (TableRef K) Error)
    → Located (Answer (shown (ShowsView B 0) (table_reading B 0))) type_ method offset r
    → IsOkAnd r (λ view. TableHolds B contents view.table)
roots_read_back {K} B contents distance stands referred type_ method offset r h =
    items_read_back B 0 0 contents distance stands referred type_ method offset r h

module _ {X T : Type 0} (reads : Reads T) (May : List ℕ → X → Type 0) (content : X → Content)
    (IsRead : List ℕ → X → T → Type 0)
    (answered : (B : List ℕ) (x : X) (field : Field) → May B x → FieldHolds B (content x) field
    → (start f : ℕ) → FieldStands B (start + f) field → (r : Result T ErrorKind)
    → reads (drop start B) start f r → IsOkAnd r (IsRead B x)) where
  field_read : (B : List ℕ) (x : X) → May B x → (k : ℕ) (field : Option Field)
      → FieldHoldsIf B (Some (content x)) field → (r : Result (Option T) ErrorKind)
      → FieldRead reads B k field r → IsOkAnd r (λ found. IsSomeAnd found (IsRead B x))
  field_read B x may k None holds r h = elim holds [ ]
  field_read B x may k (Some field) holds (Ok None) h = elim h.2 [ ]
  field_read B x may k (Some field) holds (Ok (Some found)) h =
      answered B x field may holds k h.0 h.1 (Ok found) h.2
  field_read B x may k (Some field) holds (Err e) h = answered B x field may holds k h.0 h.1 (Err e) h.2

  slot_read : (B : List ℕ) (read : Table) (slot : ℕ) (x : X)
      → SlotHolds B read slot (Some (content x)) → May B x → (r : Result (Option T) ErrorKind)
      → FieldAnswer reads read slot r → IsOkAnd r (λ found. IsSomeAnd found (IsRead B x))
  slot_read B read slot x holds may r h =
      field_read B x may holds.position (field_at holds.entries slot) holds.holds r
      ((fields_read reads B holds.position holds.entries read holds.fields slot).0 r h)

  pub contents_read_back : ContentsReadBack reads May content IsRead
  contents_read_back = record { optional = optional; required = required; or_default = or_default }
    where
      optional : (B : List ℕ) (read : Table) (slot : ℕ) (x : X)
          → SlotHolds B read slot (Some (content x)) → May B x
          → (type_ method : List ℕ) (offset : ℕ) (r : Result (Option T) Error)
          → Located (FieldAnswer reads read slot) type_ method offset r
          → IsOkAnd r (λ found. IsSomeAnd found (IsRead B x))
      optional B read slot x holds may type_ method offset (Ok found) h =
          slot_read B read slot x holds may (Ok found) h
      optional B read slot x holds may type_ method offset (Err e) h =
          slot_read B read slot x holds may (Err e.error_kind) h.0

      required : (B : List ℕ) (read : Table) (slot : ℕ) (x : X)
          → SlotHolds B read slot (Some (content x)) → May B x
          → (type_ method : List ℕ) (offset : ℕ) (r : Result T Error)
          → Located (Required (FieldAnswer reads read slot)) type_ method offset r
          → IsOkAnd r (IsRead B x)
      required B read slot x holds may type_ method offset (Ok found) h =
          slot_read B read slot x holds may (Ok (Some found)) h
      required B read slot x holds may type_ method offset (Err e) (inl h, located) =
          slot_read B read slot x holds may (Err e.error_kind) h
      required B read slot x holds may type_ method offset (Err e) (inr h, located) =
          slot_read B read slot x holds may (Ok None) h.0

      or_default : (B : List ℕ) (read : Table) (slot : ℕ) (x : X) (default : T)
          → SlotHolds B read slot (Some (content x)) → May B x
          → (type_ method : List ℕ) (offset : ℕ) (r : Result T Error)
          → Located (OrDefault default (FieldAnswer reads read slot)) type_ method offset r
          → IsOkAnd r (IsRead B x)
      or_default B read slot x default holds may type_ method offset (Ok found) (inl h) =
          slot_read B read slot x holds may (Ok (Some found)) h
      or_default B read slot x default holds may type_ method offset (Ok found) (inr h) =
          elim (slot_read B read slot x holds may (Ok None) h.0) [ ]
      or_default B read slot x default holds may type_ method offset (Err e) h =
          slot_read B read slot x holds may (Err e.error_kind) h.0

pub missing : {T : Type 0} (answers : Result (Option T) ErrorKind → Type 0)
    → ((r : Result (Option T) ErrorKind) → answers r → r ≡ Ok None)
    → (type_ method : List ℕ) (offset : ℕ) (r : Result T Error)
    → Located (Required answers) type_ method offset r → IsMissing type_ method offset r
missing answers none type_ method offset (Ok found) h =
    let same = none (Ok (Some found)) h in (cc)
missing answers none type_ method offset (Err e) (inl h, located) =
    let same = none (Err e.error_kind) h in (cc)
missing answers none type_ method offset (Err e) (inr h, located) = (h.1, located)

module _ {T : Type 0} (reads : Reads T) where
  none_read : (B : List ℕ) (k : ℕ) (field : Option Field) → FieldHoldsIf B None field
      → (r : Result (Option T) ErrorKind) → FieldRead reads B k field r → r ≡ Ok None
  none_read B k None holds r h = h
  none_read B k (Some field) holds r h = elim holds [ ]

  absent_read : (B : List ℕ) (read : Table) (slot : ℕ) → SlotHolds B read slot None
      → (r : Result (Option T) ErrorKind) → FieldAnswer reads read slot r → r ≡ Ok None
  absent_read B read slot holds r h =
      none_read B holds.position (field_at holds.entries slot) holds.holds r
      ((fields_read reads B holds.position holds.entries read holds.fields slot).0 r h)

  pub absent_fields_read_back : AbsentFieldsReadBack reads
  absent_fields_read_back = record {
    optional = optional;
    required = λ B read slot holds. missing (FieldAnswer reads read slot) (absent_read B read slot holds);
    or_default = or_default;
  }
    where
      optional : (B : List ℕ) (read : Table) (slot : ℕ) → SlotHolds B read slot None
          → (type_ method : List ℕ) (offset : ℕ) (r : Result (Option T) Error)
          → Located (FieldAnswer reads read slot) type_ method offset r → r ≡ Ok None
      optional B read slot holds type_ method offset (Ok found) h =
          let none = absent_read B read slot holds (Ok found) h in (cc)
      optional B read slot holds type_ method offset (Err e) h =
          let none = absent_read B read slot holds (Err e.error_kind) h.0 in (cc)

      or_default : (B : List ℕ) (read : Table) (slot : ℕ) (default : T) → SlotHolds B read slot None
          → (type_ method : List ℕ) (offset : ℕ) (r : Result T Error)
          → Located (OrDefault default (FieldAnswer reads read slot)) type_ method offset r
          → r ≡ Ok default
      or_default B read slot default holds type_ method offset (Ok found) (inl h) =
          let none = absent_read B read slot holds (Ok (Some found)) h in (cc)
      or_default B read slot default holds type_ method offset (Ok found) (inr h) =
          let same = h.1 in (cc)
      or_default B read slot default holds type_ method offset (Err e) h =
          let none = absent_read B read slot holds (Err e.error_kind) h.0 in (cc)
