-- What is read of written unions and union vectors.
use Rattle.std.proofs.Common.{◌≡◌, ℕ, ◌+◌, ◌*◌, ◌<◌, ◌≤◌, max, List, [], ◌∷◌, refl, sym, subst, ap, ◌∙◌, arith, Bool, true, false, Option, Some, None, Result, Ok, Err, inl, inr}
use Rattle.std.specs.Prelude.{◌≢◌, ◌==◌, map, if◌then◌else◌, IsOkAnd, IsSomeAnd, ⊤}
use Rattle.std.specs.Int.{w8, to_le_bytes}
use Rattle.std.proofs.Math.Nat.{mod-eq_of_lt}
use Rattle.std.proofs.lemmas.Bool.{eqb-true, eq-eqb, ne_eqb}
use Rattle.planus_read.specs.declared.errors.ErrorKind.{ErrorKind}
use Rattle.planus_read.specs.declared.located.Error.{Error}
use Rattle.planus_read.specs.declared.table_reader.Table.{Table}
use Rattle.planus_read.specs.Bytes.{position_of}
use Rattle.planus_read.specs.Located.{Located, Required}
use Rattle.planus_read.specs.Stands.{at_both, ByteListStands, Stands}
use Rattle.planus_read.specs.TableReading.{HasFields, SlotReads, SomeOf, UnionRead, UnionVectorRead}
use Rattle.planus_read.specs.Tables.{ReadsBoth, UnionAnswer, UnionVectorAnswer, slot_of}
use Rattle.planus_read.specs.Values.{Field, reference, tags, values as values_field, union_vector}
use Rattle.planus_read.specs.Values.{field_at, slot_count}
use Rattle.planus_read.proofs.SliceLaws.{references_lead}
use Rattle.planus_read.proofs.TableReading.{slot_below, unions_read, union_vectors_read}
use Rattle.planus_unions.proofs.ReadBack.{union_vectors}
use Rattle.planus_view.specs.declared.union_vector.UnionSliceView.{UnionSliceView}
use Rattle.planus_view.specs.declared.vector_of.VectorOf.{VectorOf}
use Rattle.planus_write.specs.Contents.{Content, Unions, item, value, values, written}
use Rattle.planus_write.specs.Contents.{no_unions, union_and, union_tags, union_values}
use Rattle.planus_write.specs.Contents.{written_tags}
use Rattle.planus_write.specs.Contents.{written_values}
use Rattle.planus.specs.Contents.{tag_content, value_content}
use Rattle.planus.specs.ReadBack.{FieldHolds, FieldHoldsIf, SlotHolds, UnionsHold}
use Rattle.planus.specs.ReadUnions.{IsReference, ReadsUnion, UnionsReadBack, reads_unions, AreUnions}
use Rattle.planus.specs.ReadUnions.{AreNewUnions}
use Rattle.planus.specs.ReadUnions.{UnionVectorSlotsReadBack, NewUnionVectorsReadBack}
use Rattle.planus.specs.ReadUnions.{UnionsStand, WrittenUnionVectorsReadBack}
use Rattle.planus.specs.ReadUnions.{AbsentUnionVectorsReadBack, MissingUnionVectorsAreErrors}
use Rattle.planus.proofs.ReadBack.{missing}

record HasBoth (B : List ℕ) (read : Table) (slot : ℕ) (first second : Content) : Type 0 where
  position : ℕ
  entries : List (ℕ × Field)
  fields : HasFields B position entries read
  one : Field
  one_at : field_at entries slot ≡ Some one
  one_holds : FieldHolds B first one
  next : Field
  next_at : field_at entries (slot + 1) ≡ Some next
  next_holds : FieldHolds B second next

there : (B : List ℕ) (content : Content) (field : Option Field) → FieldHoldsIf B (Some content) field
    → (one : Field) × (field ≡ Some one) × FieldHolds B content one
there B content (Some field) holds = (field, refl, holds)
there B content None holds = elim holds [ ]

either : (B : List ℕ) (k slot j : ℕ) (read : Table) (one : Field) (other : Option Field) (b : Bool)
    → (b ≡ true → slot ≡ j) → SlotReads B k (slot_of read slot) (Some one)
    → SlotReads B k (slot_of read j) other
    → SlotReads B k (slot_of read j) (if b then Some one else other)
either B k slot j read one other true same reads others =
    subst (λ (i : ℕ). SlotReads B k (slot_of read i) (Some one)) (same refl) reads
either B k slot j read one other false same reads others = others

both : (B : List ℕ) (read : Table) (slot : ℕ) (first second : Content)
    → SlotHolds B read slot (Some first) → SlotHolds B read (slot + 1) (Some second)
    → HasBoth B read slot first second
both B read slot first second holds next_holds =
    let one = there B first (field_at holds.entries slot) holds.holds in
    let next = there B second (field_at next_holds.entries (slot + 1)) next_holds.holds in
    let k = next_holds.position in
    let same : holds.position ≡ k = sym holds.fields.begin ∙ next_holds.fields.begin in
    let reads = subst (SlotReads B k (slot_of read slot)) one.1
    (subst (λ (k : ℕ). SlotReads B k (slot_of read slot) (field_at holds.entries slot)) same
    (holds.fields.slots slot)) in
    let below = slot_below next_holds.entries (slot + 1) next.0 next.1 in
    let count : max (slot + 1) (slot_count next_holds.entries) ≡ slot_count next_holds.entries
    = omega (arith, below) in
    record {
      position = k;
      entries = (slot, one.0) ∷ next_holds.entries;
      fields = record {
        object = next_holds.fields.object;
        begin = next_holds.fields.begin;
        inside = next_holds.fields.inside;
        slot_bytes = next_holds.fields.slot_bytes ∙ ap (λ (n : ℕ). 2 * n) (sym count);
        slots = λ j. either B k slot j read one.0 (field_at next_holds.entries j) (slot == j)
            (eqb-true slot j) reads (next_holds.fields.slots j);
      };
      one = one.0;
      one_at = ap (λ (b : Bool). if b then Some one.0 else field_at next_holds.entries slot)
          (eq-eqb slot slot refl);
      one_holds = one.2;
      next = next.0;
      next_at = ap (λ (b : Bool). if b then Some one.0 else field_at next_holds.entries (slot + 1))
          (ne_eqb slot (slot + 1) (λ same. omega (arith, same))) ∙ next.1;
      next_holds = next.2;
    }

nothing : (B : List ℕ) (field : Option Field) → FieldHoldsIf B None field → field ≡ None
nothing B None holds = refl
nothing B (Some field) holds = elim holds [ ]

not_there : (B : List ℕ) (k q : ℕ) (field : Option Field) → q ≡ 0 → SlotReads B k q field
    → field ≡ None
not_there B k q None zero reads = refl
not_there B k q (Some field) zero reads =
    absurd (let low : 4 ≤ q = reads.0 in omega (arith, low, zero))

neither : (B : List ℕ) (read : Table) (slot : ℕ) (holds : SlotHolds B read slot None)
    → SlotHolds B read (slot + 1) None
    → (field_at holds.entries slot ≡ None) × (field_at holds.entries (slot + 1) ≡ None)
neither B read slot holds next_holds =
    let zero : slot_of read (slot + 1) ≡ 0 =
    subst (SlotReads B next_holds.position (slot_of read (slot + 1)))
    (nothing B (field_at next_holds.entries (slot + 1)) next_holds.holds)
    (next_holds.fields.slots (slot + 1)) in (
      nothing B (field_at holds.entries slot) holds.holds,
      not_there B holds.position (slot_of read (slot + 1)) (field_at holds.entries (slot + 1)) zero
          (holds.fields.slots (slot + 1)),
    )

is_reference : (B : List ℕ) (content : Content) (field : Field) → IsReference content
    → FieldHolds B content field → (distance : ℕ) × (field ≡ reference distance)
is_reference B (value content) field is holds = (holds.0, holds.1)
is_reference B (values contents) field is holds = (holds.0, holds.1)
is_reference B (written distance) field is holds = (distance, holds)
is_reference B (item _) field is holds = elim is [ ]
is_reference B (union_tags _) field is holds = elim is [ ]
is_reference B (union_values _) field is holds = elim is [ ]
is_reference B (written_tags _) field is holds = elim is [ ]
is_reference B (written_values _) field is holds = elim is [ ]

module _ {T : Type 0} (reads : ReadsBoth T) where
  some_read : (B : List ℕ) (k tag distance : ℕ) (content : Content)
      → FieldHolds B content (reference distance) → (r : Result (Option T) ErrorKind)
      → UnionRead reads B k (Some (tag, distance)) r → SomeOf (ReadsUnion reads B tag content) r
  some_read B k tag distance content holds (Ok None) h = absurd h.2
  some_read B k tag distance content holds (Ok (Some x)) h = (k, h.0, distance, holds, h.1, h.2)
  some_read B k tag distance content holds (Err e) h = (k, h.0, distance, holds, h.1, h.2)

  union_read : (B : List ℕ) (read : Table) (slot tag : ℕ) (content : Content) → tag ≢ 0 → tag < 256
      → IsReference content → SlotHolds B read slot (tag_content (Some (tag, content)))
      → SlotHolds B read (slot + 1) (value_content (Some (tag, content)))
      → (r : Result (Option T) ErrorKind) → UnionAnswer reads read slot r
      → SomeOf (ReadsUnion reads B tag content) r
  union_read B read slot tag content above below refers holds next_holds r h =
      let fields = both B read slot
      (item (record { bytes = to_le_bytes w8 tag; alignment = 1 })) content holds next_holds in
      let referred = is_reference B content fields.next refers fields.next_holds in
      let tag_at = fields.one_at ∙ ap Some fields.one_holds in
      let byte = ap (λ (n : ℕ). n ∷ []) (mod-eq_of_lt below) in
      let value_at = fields.next_at ∙ ap Some referred.1 in
      some_read B fields.position tag referred.0 content
      (subst (λ (field : Field). FieldHolds B content field) referred.1 fields.next_holds) r
      ((unions_read reads B fields.position fields.entries read fields.fields slot
      (Some (tag, referred.0))
      (above, (record { bytes = to_le_bytes w8 tag; alignment = 1 }, tag_at, byte), value_at)).0 r h)

  absent_read : (B : List ℕ) (read : Table) (slot : ℕ) → SlotHolds B read slot None
      → SlotHolds B read (slot + 1) None → (r : Result (Option T) ErrorKind)
      → UnionAnswer reads read slot r → r ≡ Ok None
  absent_read B read slot holds next_holds r h =
      (unions_read reads B holds.position holds.entries read holds.fields slot None
      (neither B read slot holds next_holds)).0 r h

  pub unions_read_back : UnionsReadBack reads
  unions_read_back = record {
    optional = optional;
    required = required;
    absent = absent;
    missing = λ B read slot holds next_holds.
        missing (UnionAnswer reads read slot) (absent_read B read slot holds next_holds);
  }
    where
      optional : (B : List ℕ) (read : Table) (slot tag : ℕ) (content : Content) → tag ≢ 0
          → tag < 256 → IsReference content
          → SlotHolds B read slot (tag_content (Some (tag, content)))
          → SlotHolds B read (slot + 1) (value_content (Some (tag, content)))
          → (type_ method : List ℕ) (offset : ℕ) (r : Result (Option T) Error)
          → Located (UnionAnswer reads read slot) type_ method offset r
          → Located (SomeOf (ReadsUnion reads B tag content)) type_ method offset r
      optional B read slot tag content above below refers holds next_holds type_ method offset (Ok x) h =
          union_read B read slot tag content above below refers holds next_holds (Ok x) h
      optional B read slot tag content above below refers holds next_holds type_ method offset (Err e) h =
          (union_read B read slot tag content above below refers holds next_holds (Err e.error_kind) h.0, h.1)

      required : (B : List ℕ) (read : Table) (slot tag : ℕ) (content : Content) → tag ≢ 0
          → tag < 256 → IsReference content
          → SlotHolds B read slot (tag_content (Some (tag, content)))
          → SlotHolds B read (slot + 1) (value_content (Some (tag, content)))
          → (type_ method : List ℕ) (offset : ℕ) (r : Result T Error)
          → Located (Required (UnionAnswer reads read slot)) type_ method offset r
          → Located (ReadsUnion reads B tag content) type_ method offset r
      required B read slot tag content above below refers holds next_holds type_ method offset (Ok x) h =
          union_read B read slot tag content above below refers holds next_holds (Ok (Some x)) h
      required B read slot tag content above below refers holds next_holds type_ method offset (Err e) (inl h, located) =
          (union_read B read slot tag content above below refers holds next_holds (Err e.error_kind) h, located)
      required B read slot tag content above below refers holds next_holds type_ method offset (Err e) (inr h, located) =
          elim (union_read B read slot tag content above below refers holds next_holds (Ok None) h.0) [ ]

      absent : (B : List ℕ) (read : Table) (slot : ℕ) → SlotHolds B read slot None
          → SlotHolds B read (slot + 1) None
          → (type_ method : List ℕ) (offset : ℕ) (r : Result (Option T) Error)
          → Located (UnionAnswer reads read slot) type_ method offset r → r ≡ Ok None
      absent B read slot holds next_holds type_ method offset (Ok x) h =
          let none = absent_read B read slot holds next_holds (Ok x) h in (cc)
      absent B read slot holds next_holds type_ method offset (Err e) h =
          let none = absent_read B read slot holds next_holds (Err e.error_kind) h.0 in (cc)

abbrev said_tags : Unions → List ℕ
said_tags no_unions = []
said_tags (union_and tag content others) = tag ∷ said_tags others

tags_of_unions : (B : List ℕ) (contents : Unions) (unions : List (ℕ × ℕ))
    → UnionsHold B contents unions → map (λ union. union.0) unions ≡ said_tags contents
tags_of_unions B no_unions [] hold = refl
tags_of_unions B (union_and tag content others) (union ∷ unions) hold =
    ap (λ (first : ℕ). first ∷ map (λ union. union.0) unions) hold.0
    ∙ ap (λ (all : List ℕ). tag ∷ all) (tags_of_unions B others unions hold.2)
tags_of_unions B no_unions (union ∷ unions) hold = elim hold [ ]
tags_of_unions B (union_and tag content others) [] hold = elim hold [ ]

abbrev pub RefersToUnions : List ℕ → Field → Field → List (ℕ × ℕ) → Type 0
RefersToUnions B one next items =
    (tags_at values_at : ℕ) × (one ≡ tags tags_at) × (next ≡ values_field values_at)
    × Stands B (at_both (position_of B tags_at) (position_of B values_at)) (union_vector items)

refer_to_unions : (B : List ℕ) (contents : Unions) (one next : Field)
    → FieldHolds B (union_tags contents) one → FieldHolds B (union_values contents) next
    → (items : List (ℕ × ℕ)) × RefersToUnions B one next items × UnionsHold B contents items
refer_to_unions B contents one next holds next_holds =
    let tags_are = tags_of_unions B contents holds.3.0 holds.3.2
    ∙ sym (tags_of_unions B contents next_holds.3.0 next_holds.3.2) in (
      next_holds.3.0,
      (
        holds.0,
        next_holds.1,
        holds.2,
        next_holds.2,
        (
          subst (λ (all : List ℕ). ByteListStands B (position_of B holds.0) all) tags_are
              holds.3.1.0,
          next_holds.3.1.1,
        ),
      ),
      next_holds.3.2,
    )

module _ (T E : Type 0) where
  some_unions : (B : List ℕ) (k tags_at values_at : ℕ) (items : List (ℕ × ℕ))
      → Stands B (at_both (position_of B tags_at) (position_of B values_at)) (union_vector items)
      → (r : Result (Option (VectorOf (UnionSliceView T E))) ErrorKind)
      → UnionVectorRead reads_unions B k (Some (tags_at, values_at)) r
      → IsOkAnd r (λ found. IsSomeAnd found (AreUnions B items))
  some_unions B k tags_at values_at items stands (Ok None) h = absurd h.2.2
  some_unions B k tags_at values_at items stands (Ok (Some vector)) h = (
    position_of B tags_at,
    position_of B values_at,
    union_vectors T E B (position_of B tags_at) (position_of B values_at) k h.0 h.2.0 items stands
        (references_lead B (k + h.0) tags_at h.1) (references_lead B (k + h.2.0) values_at h.2.1)
        (Ok vector) h.2.2,
  )
  some_unions B k tags_at values_at items stands (Err e) h =
      union_vectors T E B (position_of B tags_at) (position_of B values_at) k h.0 h.2.0 items stands
      (references_lead B (k + h.0) tags_at h.1) (references_lead B (k + h.2.0) values_at h.2.1)
      (Err e) h.2.2

  read_as : (P Q : VectorOf (UnionSliceView T E) → Type 0)
      → ((vector : VectorOf (UnionSliceView T E)) → P vector → Q vector)
      → (r : Result (Option (VectorOf (UnionSliceView T E))) ErrorKind)
      → IsOkAnd r (λ found. IsSomeAnd found P) → IsOkAnd r (λ found. IsSomeAnd found Q)
  read_as P Q of (Ok (Some vector)) h = of vector h
  read_as P Q of (Ok None) h = elim h [ ]
  read_as P Q of (Err e) h = elim h [ ]

  module _ {X : Type 0} (May : List ℕ → X → Type 0) (tags_of values_of : X → Content)
      (IsRead : List ℕ → X → VectorOf (UnionSliceView T E) → Type 0)
      (refers : (B : List ℕ) (x : X) (one next : Field) → May B x → FieldHolds B (tags_of x) one
      → FieldHolds B (values_of x) next
      → (items : List (ℕ × ℕ)) × RefersToUnions B one next items
      × ((vector : VectorOf (UnionSliceView T E)) → AreUnions B items vector → IsRead B x vector)) where
    vector_read : (B : List ℕ) (read : Table) (slot : ℕ) (x : X)
        → SlotHolds B read slot (Some (tags_of x)) → SlotHolds B read (slot + 1) (Some (values_of x))
        → May B x → (r : Result (Option (VectorOf (UnionSliceView T E))) ErrorKind)
        → UnionVectorAnswer reads_unions read slot r
        → IsOkAnd r (λ found. IsSomeAnd found (IsRead B x))
    vector_read B read slot x holds next_holds may r h =
        let fields = both B read slot (tags_of x) (values_of x) holds next_holds in
        let refer = refers B x fields.one fields.next may fields.one_holds fields.next_holds in
        let leads = refer.1 in
        read_as (AreUnions B refer.0) (IsRead B x) refer.2 r
        (some_unions B fields.position leads.0 leads.1 refer.0 leads.4 r
        ((union_vectors_read reads_unions B fields.position fields.entries read fields.fields slot
        (Some (leads.0, leads.1))
        (fields.one_at ∙ ap Some leads.2, fields.next_at ∙ ap Some leads.3)).0 r h))

    pub vectors_read_back : UnionVectorSlotsReadBack T E May tags_of values_of IsRead
    vectors_read_back = record { optional = optional; required = required }
      where
        optional : (B : List ℕ) (read : Table) (slot : ℕ) (x : X)
            → SlotHolds B read slot (Some (tags_of x))
            → SlotHolds B read (slot + 1) (Some (values_of x)) → May B x
            → (type_ method : List ℕ) (offset : ℕ) (r : Result (Option (VectorOf (UnionSliceView T E))) Error)
            → Located (UnionVectorAnswer reads_unions read slot) type_ method offset r
            → IsOkAnd r (λ found. IsSomeAnd found (IsRead B x))
        optional B read slot x holds next_holds may type_ method offset (Ok found) h =
            vector_read B read slot x holds next_holds may (Ok found) h
        optional B read slot x holds next_holds may type_ method offset (Err e) h =
            vector_read B read slot x holds next_holds may (Err e.error_kind) h.0

        required : (B : List ℕ) (read : Table) (slot : ℕ) (x : X)
            → SlotHolds B read slot (Some (tags_of x))
            → SlotHolds B read (slot + 1) (Some (values_of x)) → May B x
            → (type_ method : List ℕ) (offset : ℕ) (r : Result (VectorOf (UnionSliceView T E)) Error)
            → Located (Required (UnionVectorAnswer reads_unions read slot)) type_ method offset r
            → IsOkAnd r (IsRead B x)
        required B read slot x holds next_holds may type_ method offset (Ok found) h =
            vector_read B read slot x holds next_holds may (Ok (Some found)) h
        required B read slot x holds next_holds may type_ method offset (Err e) (inl h, located) =
            vector_read B read slot x holds next_holds may (Err e.error_kind) h
        required B read slot x holds next_holds may type_ method offset (Err e) (inr h, located) =
            vector_read B read slot x holds next_holds may (Ok None) h.0

  pub new_union_vectors_read_back : NewUnionVectorsReadBack T E
  new_union_vectors_read_back = vectors_read_back (λ B contents. ⊤) union_tags union_values AreNewUnions
      (λ B contents one next may holds next_holds.
      (let refer = refer_to_unions B contents one next holds next_holds in (
        refer.0,
        refer.1,
        (λ vector are. (refer.0, refer.2, are)),
      )))

  pub written_union_vectors_read_back : WrittenUnionVectorsReadBack T E
  written_union_vectors_read_back = vectors_read_back UnionsStand (λ unions. written_tags unions.tags_at)
      (λ unions. written_values unions.values_at) (λ B unions. AreUnions B unions.items)
      (λ B unions one next stands holds next_holds. (
        unions.items,
        (unions.tags_at, unions.values_at, holds, next_holds, stands),
        (λ vector are. are),
      ))

  absent_vector_read : (B : List ℕ) (read : Table) (slot : ℕ) → SlotHolds B read slot None
      → SlotHolds B read (slot + 1) None → (r : Result (Option (VectorOf (UnionSliceView T E))) ErrorKind)
      → UnionVectorAnswer reads_unions read slot r → r ≡ Ok None
  absent_vector_read B read slot holds next_holds r h =
      (union_vectors_read reads_unions B holds.position holds.entries read holds.fields slot None
      (neither B read slot holds next_holds)).0 r h

  pub absent_union_vectors_read_back : AbsentUnionVectorsReadBack T E
  absent_union_vectors_read_back B read slot holds next_holds type_ method offset (Ok found) h =
      let none = absent_vector_read B read slot holds next_holds (Ok found) h in (cc)
  absent_union_vectors_read_back B read slot holds next_holds type_ method offset (Err e) h =
      let none = absent_vector_read B read slot holds next_holds (Err e.error_kind) h.0 in (cc)

  pub missing_union_vectors_are_errors : MissingUnionVectorsAreErrors T E
  missing_union_vectors_are_errors B read slot holds next_holds =
      missing (UnionVectorAnswer reads_unions read slot) (absent_vector_read B read slot holds next_holds)
