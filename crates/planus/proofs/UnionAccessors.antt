-- Accessors of unions return what was written.
use Rattle.std.proofs.Common.{◌≡◌, ℕ, ◌+◌, ◌*◌, List, [], ◌∷◌, length, drop, map, refl, sym, subst, ap, ◌∙◌, arith, Option, Some, None, Result, Ok, Err, slice_get, zero, suc}
use Rattle.std.specs.Prelude.{IsOkAnd, IsSomeAnd, MatchOption, ⊤, slice_index}
use Rattle.std.proofs.lemmas.Option.{slice_get_within}
use Rattle.planus_read.specs.declared.errors.ErrorKind.{ErrorKind}
use Rattle.planus_read.specs.declared.located.Error.{Error}
use Rattle.planus_read.specs.declared.table_reader.Table.{Table}
use Rattle.planus_read.specs.Converted.{Converted}
use Rattle.planus_read.specs.Items.{item_method}
use Rattle.planus_read.specs.Located.{Located, Required}
use Rattle.planus_read.specs.TableReading.{SomeOf}
use Rattle.planus_read.specs.Tables.{ReadsBoth, UnionAnswer, UnionVectorAnswer, table_start}
use Rattle.planus_read.specs.Values.{reference}
use Rattle.planus_view.specs.Indexes.{GetsItem}
use Rattle.planus_view.specs.UnionVectorView.{count_of, view_of}
use Rattle.planus_view.specs.UnionViews.{UnionView}
use Rattle.planus_view.specs.declared.union_vector.UnionSliceView.{UnionSliceView}
use Rattle.planus_view.specs.declared.vector_of.VectorOf.{VectorOf}
use Rattle.planus_write.specs.Contents.{Content, as_unions, written}
use Rattle.planus_write.specs.declared.union_offset.UnionOffset.{UnionOffset}
use Rattle.planus_fields.specs.Contents.{any_unions_hold}
use Rattle.planus.specs.Accessors.{SameIf}
use Rattle.planus.specs.Contents.{tag_content, value_content, tags_content, values_content}
use Rattle.planus.specs.Holds.{holds_union_tag, holds_union_value}
use Rattle.planus.specs.ReadBack.{SlotHolds, UnionsHold, FieldHolds}
use Rattle.planus.specs.ReadUnions.{reads_unions, AreUnions, ReadsUnion}
use Rattle.planus.specs.UnionAccessors.{IsUnionField, IsUnionRequired, IsUnionVector}
use Rattle.planus.specs.UnionAccessors.{IsUnionVectorRequired, IsUnionItem, AreUnionsOf}
use Rattle.planus.specs.UnionAccessors.{AreAnyUnions, written_item}
use Rattle.planus.specs.Unions.{UnionVariant, HasVariants, UnionStands, IsUnion}
use Rattle.planus.proofs.Accessors.{found_one, found_none, then_found, then_read}
use Rattle.planus.proofs.ReadUnions.{unions_read_back, new_union_vectors_read_back}
use Rattle.planus.proofs.ReadUnions.{written_union_vectors_read_back}
use Rattle.planus.proofs.ReadUnions.{absent_union_vectors_read_back}
use Rattle.planus.proofs.ReadUnions.{missing_union_vectors_are_errors}
use Rattle.planus.proofs.Unions.{union_is, union_refers, variants_read}

module _ {U : Type 0} (reads : ReadsBoth U) (table : Table) (slot : ℕ) (type_ method : List ℕ) where
  some_is : (B : List ℕ) (variants : List (UnionVariant U)) → HasVariants reads variants
      → (tag : ℕ) (content : Content) → UnionStands variants B tag content
      → (r : Result (Option U) Error)
      → Located (SomeOf (ReadsUnion reads B tag content)) type_ method (table_start table) r
      → IsOkAnd r (λ found. IsSomeAnd found (IsUnion variants B tag content))
  some_is B variants has tag content stands (Ok (Some found)) h =
      union_is reads variants has B tag content stands (Ok found) h
  some_is B variants has tag content stands (Ok None) h = elim h [ ]
  some_is B variants has tag content stands (Err e) h =
      union_is reads variants has B tag content stands (Err e.error_kind) h.0

  one_is : (B : List ℕ) (variants : List (UnionVariant U)) → HasVariants reads variants
      → (tag : ℕ) (content : Content) → UnionStands variants B tag content → (r : Result U Error)
      → Located (ReadsUnion reads B tag content) type_ method (table_start table) r
      → IsOkAnd r (IsUnion variants B tag content)
  one_is B variants has tag content stands (Ok found) h =
      union_is reads variants has B tag content stands (Ok found) h
  one_is B variants has tag content stands (Err e) h =
      union_is reads variants has B tag content stands (Err e.error_kind) h.0

  pub union_read : (K : Type 0) (r : Result (Option U) Error)
      → Located (UnionAnswer reads table slot) type_ method (table_start table) r
      → IsUnionField reads table slot type_ method K r
  union_read K r h = record {
    answer = h;
    read_back = there;
    left_out = none;
    read_back_if = given_back;
  }
    where
      there : (B : List ℕ) (variants : List (UnionVariant U)) → HasVariants reads variants
          → (tag : ℕ) (content : Content)
          → SlotHolds B table slot (tag_content (Some (tag, content)))
          → SlotHolds B table (slot + 1) (value_content (Some (tag, content)))
          → UnionStands variants B tag content
          → IsOkAnd r (λ found. IsSomeAnd found (IsUnion variants B tag content))
      there B variants has tag content holds next_holds stands =
          some_is B variants has tag content stands r
          ((unions_read_back reads).optional B table slot tag content stands.above stands.below
          (union_refers variants B tag content stands.known stands.each) holds next_holds type_ method
          (table_start table) r h)

      none : (B : List ℕ) → SlotHolds B table slot None → SlotHolds B table (slot + 1) None → r ≡ Ok None
      none B holds next_holds =
          (unions_read_back reads).absent B table slot holds next_holds type_ method
          (table_start table) r h

      given_back : (B : List ℕ) (variants : List (UnionVariant U)) → HasVariants reads variants
          → (given : Option (UnionOffset K)) → SlotHolds B table slot (holds_union_tag given)
          → SlotHolds B table (slot + 1) (holds_union_value given)
          → MatchOption given ⊤ (λ union. UnionStands variants B union.tag (written union.offset.distance))
          → IsOkAnd r (SameIf (λ union. IsUnion variants B union.tag (written union.offset.distance)) given)
      given_back B variants has None holds next_holds stands =
          found_none
          (λ (union : UnionOffset K). IsUnion variants B union.tag (written union.offset.distance)) r
          (none B holds next_holds)
      given_back B variants has (Some union) holds next_holds stands =
          found_one
          (λ (union : UnionOffset K). IsUnion variants B union.tag (written union.offset.distance))
          union r
          (there B variants has union.tag (written union.offset.distance) holds next_holds stands)

  pub required_union_read : (r : Result U Error)
      → Located (Required (UnionAnswer reads table slot)) type_ method (table_start table) r
      → IsUnionRequired reads table slot type_ method r
  required_union_read r h = record {
    answer = h;
    read_back = λ B variants has tag content holds next_holds stands.
        one_is B variants has tag content stands r
        ((unions_read_back reads).required B table slot tag content stands.above stands.below
        (union_refers variants B tag content stands.known stands.each) holds next_holds type_ method
        (table_start table) r h);
    missing = λ B holds next_holds.
        (unions_read_back reads).missing B table slot holds next_holds type_ method
        (table_start table) r h;
  }

items_hold : (B : List ℕ) (items : List (ℕ × ℕ))
    → UnionsHold B (as_unions (map written_item items)) items
items_hold B [] = tt
items_hold B (item ∷ items) = (refl, refl, items_hold B items)

module _ {T E : Type 0} (table : Table) (slot : ℕ) (type_ method : List ℕ) where
  pub vector_read : (r : Result (Option (VectorOf (UnionSliceView T E))) Error)
      → Located (UnionVectorAnswer reads_unions table slot) type_ method (table_start table) r
      → IsUnionVector table slot type_ method r
  vector_read r h = record {
    answer = h;
    read_back = λ B unions holds next_holds.
        (new_union_vectors_read_back T E).optional B table slot (as_unions unions) holds next_holds tt
        type_ method (table_start table) r h;
    left_out = none;
    read_back_any = any;
    written_before = λ B unions holds next_holds stand.
        then_found (AreUnions B unions.items) (AreUnionsOf B (map written_item unions.items))
        (λ vector are. (unions.items, items_hold B unions.items, are)) r
        ((written_union_vectors_read_back T E).optional B table slot unions holds next_holds stand
        type_ method (table_start table) r h);
  }
    where
      none : (B : List ℕ) → SlotHolds B table slot None → SlotHolds B table (slot + 1) None → r ≡ Ok None
      none B holds next_holds =
          absent_union_vectors_read_back T E B table slot holds next_holds type_ method
          (table_start table) r h

      any : (B : List ℕ) (unions : List (ℕ × Content))
          → SlotHolds B table slot (tags_content (any_unions_hold unions))
          → SlotHolds B table (slot + 1) (values_content (any_unions_hold unions))
          → IsOkAnd r (AreAnyUnions B unions)
      any B [] holds next_holds =
          subst (λ r. IsOkAnd r (AreAnyUnions B [])) (sym (none B holds next_holds)) refl
      any B (union ∷ unions) holds next_holds =
          (new_union_vectors_read_back T E).optional B table slot (as_unions (union ∷ unions)) holds
          next_holds tt type_ method (table_start table) r h

  pub required_vector_read : (r : Result (VectorOf (UnionSliceView T E)) Error)
      → Located (Required (UnionVectorAnswer reads_unions table slot)) type_ method (table_start table) r
      → IsUnionVectorRequired table slot type_ method r
  required_vector_read r h = record {
    answer = h;
    read_back = λ B unions holds next_holds.
        (new_union_vectors_read_back T E).required B table slot (as_unions unions) holds next_holds tt
        type_ method (table_start table) r h;
    missing = λ B holds next_holds.
        missing_union_vectors_are_errors T E B table slot holds next_holds type_ method
        (table_start table) r h;
    written_before = λ B unions holds next_holds stand.
        then_read (AreUnions B unions.items) (AreUnionsOf B (map written_item unions.items))
        (λ vector are. (unions.items, items_hold B unions.items, are)) r
        ((written_union_vectors_read_back T E).required B table slot unions holds next_holds stand
        type_ method (table_start table) r h);
  }

at_position : (B : List ℕ) (unions : List (ℕ × Content)) (items : List (ℕ × ℕ)) (i tag : ℕ)
    (content : Content) → UnionsHold B (as_unions unions) items → slice_get unions i ≡ Some (tag, content)
    → (item : ℕ × ℕ) × (slice_get items i ≡ Some item) × (item.0 ≡ tag)
    × FieldHolds B content (reference item.1)
at_position B [] items i tag content hold there =
    absurd (let within = slice_get_within [] i (tag, content) there in omega (arith, within))
at_position B (union ∷ unions) [] i tag content hold there = elim hold [ ]
at_position B (union ∷ unions) (item ∷ items) zero tag content hold there =
    let same : Some union ≡ Some (tag, content) = there in
    let is : union ≡ (tag, content) = cc in (
      item,
      refl,
      hold.0 ∙ ap (λ (union : ℕ × Content). union.0) is,
      subst (λ (content : Content). FieldHolds B content (reference item.1))
          (ap (λ (union : ℕ × Content). union.1) is) hold.1,
    )
at_position B (union ∷ unions) (item ∷ items) (suc i) tag content hold there =
    at_position B unions items i tag content hold.2 there

as_many : (B : List ℕ) (unions : List (ℕ × Content)) (items : List (ℕ × ℕ))
    → UnionsHold B (as_unions unions) items → length items ≡ length unions
as_many B [] [] hold = refl
as_many B (union ∷ unions) [] hold = elim hold [ ]
as_many B [] (item ∷ items) hold = elim hold [ ]
as_many B (union ∷ unions) (item ∷ items) hold = ap (λ (n : ℕ). suc n) (as_many B unions items hold.2)

abbrev pub ReadsItem : {U : Type 0} → ReadsBoth U → UnionView → ℕ → Result U ErrorKind → Type 0
ReadsItem reads view i = reads view.references view.start (slice_index view.tags i) (i * 4)

module _ {U T E : Type 0} (reads : ReadsBoth U) (name : List ℕ) where
  abbrev pub GetsUnion : VectorOf (UnionSliceView T E) → ℕ → Option (Result U Error) → Type 0
  GetsUnion = GetsItem (λ (v : VectorOf (UnionSliceView T E)). count_of v)
      (λ v i x. Converted (Located (ReadsItem reads (view_of v) i) name item_method (view_of v).start)
      (λ (e f : Error). f ≡ e) x)

  abbrev IsGot : VectorOf (UnionSliceView T E) → ℕ → Option (Result U Error) → Type 0
  IsGot = GetsItem (λ (v : VectorOf (UnionSliceView T E)). count_of v)
      (λ v i. Located (ReadsItem reads (view_of v) i) name item_method (view_of v).start)

  item_answered : (vector : VectorOf (UnionSliceView T E)) (index : ℕ) (r : Option (Result U Error))
      → GetsUnion vector index r → IsGot vector index r
  item_answered vector index None h = h
  item_answered vector index (Some (Ok x)) h = h
  item_answered vector index (Some (Err e)) h = (
    h.0,
    subst
        (λ (e : Error). Located (ReadsItem reads (view_of vector) index) name item_method
        (view_of vector).start (Err e))
        (sym h.1.2) h.1.1,
  )

  module _ (B : List ℕ) (variants : List (UnionVariant U)) (has : HasVariants reads variants)
      (unions : List (ℕ × Content)) (tag : ℕ) (content : Content)
      (vector : VectorOf (UnionSliceView T E)) (index : ℕ) (are : AreUnionsOf B unions vector)
      (there : slice_get unions index ≡ Some (tag, content))
      (stands : UnionStands variants B tag content) where
    item_is : (r : Result U ErrorKind) → ReadsItem reads (view_of vector) index r
        → IsOkAnd r (IsUnion variants B tag content)
    item_is r h =
        let found = at_position B unions are.0 index tag content are.1 there in
        let is = are.2.2 in
        let k : ℕ = are.2.1 + 4 in
        let read : reads (drop k B) k (slice_index (drop (are.2.0 + 4) B) index) (index * 4) r =
        subst (λ (view : UnionView). ReadsItem reads view index r) is.view h in
        let tagged : reads (drop k B) k tag (index * 4) r =
        subst (λ (tag : ℕ). reads (drop k B) k tag (index * 4) r)
        (is.tags index found.0 found.1 ∙ found.2) read in
        variants_read reads variants has B tag content stands k (index * 4) found.0.1 found.3
        (is.references index found.0 found.1).leads r tagged

    item_there : (r : Option (Result U Error)) → IsGot vector index r
        → IsSomeAnd r (λ item. IsOkAnd item (IsUnion variants B tag content))
    item_there None h =
        absurd
        (let within = slice_get_within unions index (tag, content) there in
        let count : count_of vector ≡ length are.0 = ap (λ (view : UnionView). view.count) are.2.2.view in
        let many = as_many B unions are.0 are.1 in
        omega (arith, within, h, count, many))
    item_there (Some (Ok found)) h = item_is (Ok found) h.1
    item_there (Some (Err e)) h = item_is (Err e.error_kind) h.1.0

  pub union_item_read : (vector : VectorOf (UnionSliceView T E)) (index : ℕ)
      (r : Option (Result U Error)) → GetsUnion vector index r → IsUnionItem reads name vector index r
  union_item_read vector index r h =
      let answer = item_answered vector index r h in
      record {
        answer = answer;
        read_back = λ B variants has unions tag content are there stands.
            item_there B variants has unions tag content vector index are there stands r answer;
      }
