-- Results for unions, union vectors and their items.
use Rattle.std.specs.Prelude.{◌≡◌, ℕ, ◌+◌, ◌*◌, List, [], ◌∷◌, map, Option, Some, None, Result, Ok}
use Rattle.std.specs.Prelude.{IsOkAnd}
use Rattle.std.specs.Prelude.{IsSomeAnd, MatchOption, ⊤, slice_get, slice_index}
use Rattle.planus_read.specs.declared.located.Error.{Error}
use Rattle.planus_read.specs.declared.table_reader.Table.{Table}
use Rattle.planus_read.specs.Items.{item_method}
use Rattle.planus_read.specs.Located.{Located, Required, IsMissing}
use Rattle.planus_read.specs.Tables.{ReadsBoth, UnionAnswer, UnionVectorAnswer, table_start}
use Rattle.planus_view.specs.Indexes.{GetsItem}
use Rattle.planus_view.specs.UnionVectorView.{count_of, view_of}
use Rattle.planus_view.specs.declared.union_vector.UnionSliceView.{UnionSliceView}
use Rattle.planus_view.specs.declared.vector_of.VectorOf.{VectorOf}
use Rattle.planus_write.specs.Contents.{Content, as_unions, written, written_tags, written_values}
use Rattle.planus_write.specs.declared.union_offset.UnionOffset.{UnionOffset}
use Rattle.planus_fields.specs.Contents.{any_unions_hold}
use Rattle.planus.specs.Accessors.{SameIf}
use Rattle.planus.specs.Contents.{tag_content, value_content, tags_content, values_content}
use Rattle.planus.specs.Holds.{holds_union_tag, holds_union_value, holds_tags_of, holds_values_of}
use Rattle.planus.specs.ReadBack.{SlotHolds}
use Rattle.planus.specs.ReadUnions.{reads_unions, AreNewUnions, WrittenUnions}
use Rattle.planus.specs.ReadUnions.{UnionsStand}
use Rattle.planus.specs.Unions.{UnionVariant, HasVariants, UnionStands, IsUnion}

module _ {U : Type 0} (reads : ReadsBoth U) (table : Table) (slot : ℕ) (type_ method : List ℕ) where
  -- the optional union of a slot and the next
  pub record IsUnionField (K : Type 0) (r : Result (Option U) Error) : Type 0 where
    pub answer : Located (UnionAnswer reads table slot) type_ method (table_start table) r
    pub read_back :
        (B : List ℕ) (variants : List (UnionVariant U)) → HasVariants reads variants
        → (tag : ℕ) (content : Content) → SlotHolds B table slot (tag_content (Some (tag, content)))
        → SlotHolds B table (slot + 1) (value_content (Some (tag, content)))
        → UnionStands variants B tag content
        → IsOkAnd r (λ found. IsSomeAnd found (IsUnion variants B tag content))
    pub left_out :
        (B : List ℕ) → SlotHolds B table slot None → SlotHolds B table (slot + 1) None → r ≡ Ok None
    pub read_back_if :
        (B : List ℕ) (variants : List (UnionVariant U)) → HasVariants reads variants
        → (given : Option (UnionOffset K)) → SlotHolds B table slot (holds_union_tag given)
        → SlotHolds B table (slot + 1) (holds_union_value given)
        → MatchOption given ⊤
        (λ union. UnionStands variants B union.tag (written union.offset.distance))
        → IsOkAnd r (SameIf (λ union. IsUnion variants B union.tag (written union.offset.distance))
        given)

  -- a required union
  pub record IsUnionRequired (r : Result U Error) : Type 0 where
    pub answer : Located (Required (UnionAnswer reads table slot)) type_ method (table_start table)
        r
    pub read_back :
        (B : List ℕ) (variants : List (UnionVariant U)) → HasVariants reads variants
        → (tag : ℕ) (content : Content) → SlotHolds B table slot (tag_content (Some (tag, content)))
        → SlotHolds B table (slot + 1) (value_content (Some (tag, content)))
        → UnionStands variants B tag content → IsOkAnd r (IsUnion variants B tag content)
    pub missing :
        (B : List ℕ) → SlotHolds B table slot None → SlotHolds B table (slot + 1) None
        → IsMissing type_ method (table_start table) r

-- a union written before, by its tag and distance
abbrev pub written_item : ℕ × ℕ → ℕ × Content
written_item item = (item.0, written item.1)

module _ {T E : Type 0} where
  -- the union vector with these tags and contents, in B
  abbrev pub AreUnionsOf : List ℕ → List (ℕ × Content) → VectorOf (UnionSliceView T E) → Type 0
  AreUnionsOf B unions vector = AreNewUnions B (as_unions unions) vector

  abbrev pub AreAnyUnions :
      List ℕ → List (ℕ × Content) → Option (VectorOf (UnionSliceView T E)) → Type 0
  AreAnyUnions B [] found = found ≡ None
  AreAnyUnions B (union ∷ unions) found = IsSomeAnd found (AreUnionsOf B (union ∷ unions))

  module _ (table : Table) (slot : ℕ) (type_ method : List ℕ) where
    -- the optional union vector of a slot and the next
    pub record IsUnionVector (r : Result (Option (VectorOf (UnionSliceView T E))) Error)
        : Type 0 where
      pub answer :
          Located (UnionVectorAnswer reads_unions table slot) type_ method (table_start table) r
      pub read_back :
          (B : List ℕ) (unions : List (ℕ × Content)) → SlotHolds B table slot (holds_tags_of unions)
          → SlotHolds B table (slot + 1) (holds_values_of unions)
          → IsOkAnd r (λ found. IsSomeAnd found (AreUnionsOf B unions))
      pub left_out :
          (B : List ℕ) → SlotHolds B table slot None → SlotHolds B table (slot + 1) None
          → r ≡ Ok None
      pub read_back_any :
          (B : List ℕ) (unions : List (ℕ × Content))
          → SlotHolds B table slot (tags_content (any_unions_hold unions))
          → SlotHolds B table (slot + 1) (values_content (any_unions_hold unions))
          → IsOkAnd r (AreAnyUnions B unions)
      pub written_before :
          (B : List ℕ) (unions : WrittenUnions)
          → SlotHolds B table slot (Some (written_tags unions.tags_at))
          → SlotHolds B table (slot + 1) (Some (written_values unions.values_at))
          → UnionsStand B unions
          → IsOkAnd r (λ found. IsSomeAnd found (AreUnionsOf B (map written_item unions.items)))

    -- a required union vector
    pub record IsUnionVectorRequired (r : Result (VectorOf (UnionSliceView T E)) Error)
        : Type 0 where
      pub answer :
          Located (Required (UnionVectorAnswer reads_unions table slot)) type_ method
          (table_start table) r
      pub read_back :
          (B : List ℕ) (unions : List (ℕ × Content)) → SlotHolds B table slot (holds_tags_of unions)
          → SlotHolds B table (slot + 1) (holds_values_of unions)
          → IsOkAnd r (AreUnionsOf B unions)
      pub missing :
          (B : List ℕ) → SlotHolds B table slot None → SlotHolds B table (slot + 1) None
          → IsMissing type_ method (table_start table) r
      pub written_before :
          (B : List ℕ) (unions : WrittenUnions)
          → SlotHolds B table slot (Some (written_tags unions.tags_at))
          → SlotHolds B table (slot + 1) (Some (written_values unions.values_at))
          → UnionsStand B unions → IsOkAnd r (AreUnionsOf B (map written_item unions.items))

  -- an item of such a vector, or none out of bounds
  pub record IsUnionItem {U : Type 0} (reads : ReadsBoth U) (name : List ℕ)
      (vector : VectorOf (UnionSliceView T E)) (index : ℕ) (r : Option (Result U Error))
      : Type 0 where
    pub answer :
        GetsItem (λ v. count_of v)
        (λ v i. Located
        (reads (view_of v).references (view_of v).start (slice_index (view_of v).tags i) (i * 4))
        name item_method (view_of v).start)
        vector index r
    pub read_back :
        (B : List ℕ) (variants : List (UnionVariant U)) → HasVariants reads variants
        → (unions : List (ℕ × Content)) (tag : ℕ) (content : Content)
        → AreUnionsOf B unions vector → slice_get unions index ≡ Some (tag, content)
        → UnionStands variants B tag content
        → IsSomeAnd r (λ item. IsOkAnd item (IsUnion variants B tag content))
