-- Accessors return what was written.
use Rattle.std.proofs.Common.{◌≡◌, ℕ, ◌+◌, List, [], ◌∷◌, map, drop, refl, sym, subst, ap, Option, Some, None, Result, Ok, Err}
use Rattle.std.specs.Prelude.{IsOkAnd, IsSomeAnd, MatchOption, ⊤}
use Rattle.std.specs.Borrow.{Bor}
use Rattle.planus_read.specs.declared.errors.ErrorKind.{ErrorKind}
use Rattle.planus_read.specs.declared.located.Error.{Error}
use Rattle.planus_read.specs.declared.plain.Plain.{Ghosts as PlainGhosts}
use Rattle.planus_read.specs.declared.table_reader.Table.{Table}
use Rattle.planus_read.specs.Bytes.{position_of}
use Rattle.planus_read.specs.Located.{Located, Required}
use Rattle.planus_read.specs.Reading.{Leads}
use Rattle.planus_read.specs.Stands.{at, FieldStands}
use Rattle.planus_read.specs.Tables.{Reads, FieldAnswer, table_start}
use Rattle.planus_read.specs.Values.{Value, Field, text, table as fields_table}
use Rattle.planus_read.proofs.SliceLaws.{references_lead}
use Rattle.planus_read.proofs.ReadsBack.{what_stands_reads_back}
use Rattle.planus_write.specs.Contents.{Content, values, written}
use Rattle.planus_write.specs.declared.offset.Offset.{Offset}
use Rattle.planus_fields.specs.Contents.{holds_if}
use Rattle.planus.specs.Accessors.{FieldKind, SameIf, IsField, IsRequired}
use Rattle.planus.specs.Accessors.{plains_kind, texts_kind}
use Rattle.planus.specs.Accessors.{tables_kind, table_kind, TableIsThere, IsViewOf}
use Rattle.planus.specs.ReadBack.{ContentsReadBack, FieldHolds, SlotHolds, AllStand}
use Rattle.planus.specs.ReadBack.{ContentsStand, TableHolds}
use Rattle.planus.specs.ReadVectors.{reads_vector, ArePlainItems, AreReferences}
use Rattle.planus.specs.Views.{reads_as}
use Rattle.planus.proofs.ReadBack.{absent_fields_read_back, contents_read_back, holds_at}
use Rattle.planus.proofs.ReadItems.{text_items_read_back, table_items_read_back}
use Rattle.planus.proofs.ReadVectors.{plain_vectors_read_back, reference_vectors_read_back}
use Rattle.planus.proofs.ReadVectors.{value_vectors_read_back}

pub found_one : {G T : Type 0} (IsRead : G → T → Type 0) (given : G) (r : Result (Option T) Error)
    → IsOkAnd r (λ found. IsSomeAnd found (IsRead given))
    → IsOkAnd r (SameIf IsRead (Some given))
found_one IsRead given (Ok found) h = h
found_one IsRead given (Err e) h = elim h [ ]

pub found_none : {G T : Type 0} (IsRead : G → T → Type 0) (r : Result (Option T) Error)
    → r ≡ Ok None → IsOkAnd r (SameIf IsRead None)
found_none IsRead r same = subst (λ r. IsOkAnd r (SameIf IsRead None)) (sym same) refl

module _ {X G T : Type 0} (kind : FieldKind X G T)
    (law : ContentsReadBack kind.reads kind.May kind.content kind.IsRead) (table : Table) (slot : ℕ)
    (type_ method : List ℕ) where
  pub field_read : (r : Result (Option T) Error)
      → Located (FieldAnswer kind.reads table slot) type_ method (table_start table) r
      → IsField kind table slot type_ method r
  field_read r h = record {
    answer = h;
    read_back = there;
    left_out = none;
    read_back_if = given_back;
  }
    where
      there : (B : List ℕ) (x : X) → SlotHolds B table slot (Some (kind.content x)) → kind.May B x
          → IsOkAnd r (λ found. IsSomeAnd found (kind.IsRead B x))
      there B x holds may = law.optional B table slot x holds may type_ method (table_start table) r h

      none : (B : List ℕ) → SlotHolds B table slot None → r ≡ Ok None
      none B holds =
          (absent_fields_read_back kind.reads).optional B table slot holds type_ method
          (table_start table) r h

      given_back : (B : List ℕ) (given : Option G)
          → SlotHolds B table slot (holds_if (λ g. Some (kind.content (kind.part g))) given)
          → MatchOption given ⊤ (λ g. kind.May B (kind.part g))
          → IsOkAnd r (SameIf (λ g. kind.IsRead B (kind.part g)) given)
      given_back B None holds may =
          found_none (λ (g : G). kind.IsRead B (kind.part g)) r (none B holds)
      given_back B (Some g) holds may =
          found_one (λ (g : G). kind.IsRead B (kind.part g)) g r (there B (kind.part g) holds may)

  pub required_read : (r : Result T Error)
      → Located (Required (FieldAnswer kind.reads table slot)) type_ method (table_start table) r
      → IsRequired kind table slot type_ method r
  required_read r h = record {
    answer = h;
    read_back = λ B x holds may. law.required B table slot x holds may type_ method (table_start table) r h;
    missing = λ B holds.
        (absent_fields_read_back kind.reads).required B table slot holds type_ method
        (table_start table) r h;
  }

module _ {T : Type 0} (P Q : T → Type 0) (more : (x : T) → P x → Q x) where
  pub then_found : (r : Result (Option T) Error) → IsOkAnd r (λ found. IsSomeAnd found P)
      → IsOkAnd r (λ found. IsSomeAnd found Q)
  then_found (Ok (Some x)) h = more x h
  then_found (Ok None) h = elim h [ ]
  then_found (Err e) h = elim h [ ]

  pub then_read : (r : Result T Error) → IsOkAnd r P → IsOkAnd r Q
  then_read (Ok x) h = more x h
  then_read (Err e) h = elim h [ ]

made_of : {X Y T : Type 0} (reads : Reads T) (May : List ℕ → X → Type 0) (content : X → Content)
    (IsRead : List ℕ → X → T → Type 0) (part : Y → X) (MayBe : List ℕ → Y → Type 0)
    (IsSo : List ℕ → Y → T → Type 0) → ((B : List ℕ) (y : Y) → MayBe B y → May B (part y))
    → ((B : List ℕ) (y : Y) (found : T) → IsRead B (part y) found → IsSo B y found)
    → ContentsReadBack reads May content IsRead
    → ContentsReadBack reads MayBe (λ y. content (part y)) IsSo
made_of reads May content IsRead part MayBe IsSo may more law = record {
  optional = λ B read slot y holds may_be type_ method offset r h.
      then_found (IsRead B (part y)) (IsSo B y) (more B y) r
      (law.optional B read slot (part y) holds (may B y may_be) type_ method offset r h);
  required = λ B read slot y holds may_be type_ method offset r h.
      then_read (IsRead B (part y)) (IsSo B y) (more B y) r
      (law.required B read slot (part y) holds (may B y may_be) type_ method offset r h);
  or_default = λ B read slot y default holds may_be type_ method offset r h.
      then_read (IsRead B (part y)) (IsSo B y) (more B y) r
      (law.or_default B read slot (part y) default holds (may B y may_be) type_ method offset r h);
}

texts_of : (texts : List (Bor (List ℕ)))
    → map (λ one. text one.now) texts ≡ map text (map (λ one. one.now) texts)
texts_of [] = refl
texts_of (one ∷ texts) = ap (λ (values : List Value). text one.now ∷ values) (texts_of texts)

module _ (T : Type 0) {R : Type 0} (kind : PlainGhosts R) where
  pub plains_law : ContentsReadBack (reads_vector T kind) (plains_kind {T = T} {kind = kind}).May
      (plains_kind {T = T} {kind = kind}).content (plains_kind {T = T} {kind = kind}).IsRead
  plains_law = made_of {X = ℕ × List (List ℕ)} {Y = List R} (reads_vector T kind) (λ B list. ⊤) _
      (λ B list vector. ArePlainItems kind B list.1 vector)
      (λ xs. (kind.ALIGNMENT, map kind.shape.encoded xs)) (λ B xs. ⊤) _ (λ B xs may. tt)
      (λ B xs vector is. is) (plain_vectors_read_back T kind)

  pub texts_law : kind.SIZE ≡ 4 → ContentsReadBack (reads_vector T kind)
      (texts_kind {T = T} {kind = kind}).May (texts_kind {T = T} {kind = kind}).content
      (texts_kind {T = T} {kind = kind}).IsRead
  texts_law size = made_of {X = List Value} {Y = List (Bor (List ℕ))} (reads_vector T kind)
      (λ B contents. ⊤) values
      (λ B contents vector. (distances : List ℕ) × AllStand B contents distances
      × AreReferences kind B distances vector)
      (λ texts. map (λ one. text one.now) texts) (λ B texts. ⊤) _ (λ B texts may. tt)
      (λ B texts vector is. text_items_read_back T kind B (map (λ one. one.now) texts) is.0 vector
      (subst (λ (values : List Value). AllStand B values is.0) (texts_of texts) is.1) is.2)
      (value_vectors_read_back T kind size)

  pub tables_law : (K : Type 0) → kind.SIZE ≡ 4 → ContentsReadBack (reads_vector T kind)
      (tables_kind {T = T} {kind = kind} K).May (tables_kind {T = T} {kind = kind} K).content
      (tables_kind {T = T} {kind = kind} K).IsRead
  tables_law K size = made_of {X = List ℕ} {Y = List (Offset K)} (reads_vector T kind)
      (λ B distances. ⊤) _ (λ B distances vector. AreReferences kind B distances vector)
      (λ offsets. map (λ offset. offset.distance) offsets) (λ B offsets. ⊤) _ (λ B offsets may. tt)
      (λ B offsets vector is. table_items_read_back T kind {K = K} B
      (map (λ offset. offset.distance) offsets) vector is)
      (reference_vectors_read_back T kind size)

module _ {T : Type 0} (table_of : T → Table) where
  pub view_led : (B : List ℕ) (contents : List (ℕ × Option Content)) (distance : ℕ)
      → ContentsStand B contents distance → (start f : ℕ)
      → Leads B (start + f) (position_of B distance) → (r : Result T ErrorKind)
      → reads_as table_of (drop start B) start f r
      → IsOkAnd r (λ view. TableHolds B contents (table_of view))
  view_led B contents distance stands start f leads (Ok view) h =
      let read = what_stands_reads_back B (at (position_of B distance)) (fields_table stands.fields) tt
      stands.stands start f leads in
      λ slot. record {
        position = position_of B distance;
        entries = stands.fields;
        fields = read.fields (Ok (table_of view)) h;
        holds = holds_at B contents stands.fields stands.apart stands.hold slot;
      }
  view_led B contents distance stands start f leads (Err e) h =
      let read = what_stands_reads_back B (at (position_of B distance)) (fields_table stands.fields) tt
      stands.stands start f leads in
      read.fields (Err e) h

  pub view_is : (B : List ℕ) (distance : ℕ) → TableIsThere B distance → (start f : ℕ)
      → Leads B (start + f) (position_of B distance) → (r : Result T ErrorKind)
      → reads_as table_of (drop start B) start f r → IsOkAnd r (IsViewOf table_of B distance)
  view_is B distance there start f leads (Ok view) h =
      λ contents stands. view_led B contents distance stands start f leads (Ok view) h
  view_is B distance there start f leads (Err e) h =
      view_led B there.0 distance there.1 start f leads (Err e) h

  pub views_law : ContentsReadBack (reads_as table_of) TableIsThere written (IsViewOf table_of)
  views_law = contents_read_back (reads_as table_of) TableIsThere written (IsViewOf table_of) answered
    where
      answered : (B : List ℕ) (distance : ℕ) (field : Field) → TableIsThere B distance
          → FieldHolds B (written distance) field → (start f : ℕ) → FieldStands B (start + f) field
          → (r : Result T ErrorKind) → reads_as table_of (drop start B) start f r
          → IsOkAnd r (IsViewOf table_of B distance)
      answered B distance field there holds start f stands r h =
          view_is B distance there start f
          (references_lead B (start + f) distance
          (subst (λ (field : Field). FieldStands B (start + f) field) holds stands)) r h

abbrev pub the_table : Table → Table
the_table table = table

module _ {V : Type 0} (K : Type 0) (table_of : V → Table) (table : Table) (slot : ℕ)
    (type_ method : List ℕ) where
  pub view_found : (t : Table) (view : V) → table_of view ≡ t
      → Located (FieldAnswer (reads_as the_table) table slot) type_ method (table_start table)
      (Ok (Some t))
      → IsField (table_kind K table_of) table slot type_ method (Ok (Some view))
  view_found t view same h =
      field_read (table_kind K table_of) (views_law table_of) table slot type_ method (Ok (Some view))
      (subst
      (λ (t : Table). FieldAnswer (reads_as the_table) table slot (Ok (Some t))) (sym same) h)

  pub view_refused : (e : Error)
      → Located {A = Option Table} (FieldAnswer (reads_as the_table) table slot) type_ method
      (table_start table) (Err e)
      → IsField (table_kind K table_of) table slot type_ method (Err e)
  view_refused e h =
      field_read (table_kind K table_of) (views_law table_of) table slot type_ method (Err e) h

  pub view_required : (t : Table) (view : V) → table_of view ≡ t
      → Located (Required (FieldAnswer (reads_as the_table) table slot)) type_ method
      (table_start table) (Ok t)
      → IsRequired (table_kind K table_of) table slot type_ method (Ok view)
  view_required t view same h =
      required_read (table_kind K table_of) (views_law table_of) table slot type_ method (Ok view)
      (subst
      (λ (t : Table). FieldAnswer (reads_as the_table) table slot (Ok (Some t))) (sym same) h)

  pub view_missed : (e : Error)
      → Located {A = Table} (Required (FieldAnswer (reads_as the_table) table slot)) type_ method
      (table_start table) (Err e)
      → IsRequired (table_kind K table_of) table slot type_ method (Err e)
  view_missed e h =
      required_read (table_kind K table_of) (views_law table_of) table slot type_ method (Err e) h
