-- What stands in the buffer and was given to a union is read back: by an optional field, by a
-- required one, and as an item of a vector of unions.
use Rattle.std.specs.Prelude.{◌≡◌, ◌≢◌, ℕ, ◌<◌, List, length, Option, Some, Result}
use Rattle.std.specs.Prelude.{IsOkAnd, IsSomeAnd, slice_get}
use Rattle.planus_read.specs.declared.located.Error.{Error}
use Rattle.planus_read.specs.declared.slice_helpers.SliceWithStartOffset.{SliceWithStartOffset}
use Rattle.planus_read.specs.declared.table_reader.Table.{Table}
use Rattle.planus_read.specs.Bytes.{BytesStand}
use Rattle.planus_read.specs.Slices.{slice_bytes}
use Rattle.planus_read.specs.Tables.{ReadsBoth}
use Rattle.planus_read.specs.Values.{apart}
use Rattle.planus_view.specs.declared.union_vector.UnionSliceView.{UnionSliceView}
use Rattle.planus_view.specs.declared.vector_of.VectorOf.{VectorOf}
use Rattle.planus_write.specs.Contents.{Content, written}
use Rattle.planus_write.specs.declared.union_offset.UnionOffset.{UnionOffset}
use Rattle.planus_write.specs.State.{State}
use Rattle.planus.specs.FieldLines.{union, union_required, Returns, ReturnsGiven, UnionIsRead}
use Rattle.planus.specs.KeptValues.{StandsFromEnd, StructStandsIn}
use Rattle.planus.specs.UnionAccessors.{IsUnionField, IsUnionRequired, IsUnionItem, AreUnionsOf}
use Rattle.planus.specs.Unions.{UnionVariant, ReadsVariants, VariantStands, IsVariant}
use Rattle.planus.specs.Unions.{HasVariants, struct_variant, variant_at}

-- the variant is the only one with this tag, which a union can have
pub record HasTag {U : Type 0} (variants : List (UnionVariant U)) (tag : ℕ) (variant : UnionVariant U)
    : Type 0 where
  pub only : variant_at variants tag ≡ Some variant
  pub above : tag ≢ 0
  pub below : tag < 256

-- An optional field returns the table, the string or the struct of the variant with the tag.
abbrev pub VariantsReadBack : (K U : Type 0) → Type 0
VariantsReadBack K U =
    (variants : List (UnionVariant U)) (tag : ℕ) (variant : UnionVariant U)
    → HasTag variants tag variant
    → (B : List ℕ) (table : Table) (slot : ℕ) (given : UnionOffset K)
    → ReturnsGiven B table (union variants slot (Some given)) → given.tag ≡ tag
    → VariantStands variant B (written given.offset.distance)
    → Returns (λ type_ method. IsUnionField (ReadsVariants variants) table slot type_ method K)
    (λ r. IsOkAnd r (λ found. IsSomeAnd found
    (IsVariant variant B (written given.offset.distance))))

-- a required field returns it
abbrev pub RequiredVariantsReadBack : (K U : Type 0) → Type 0
RequiredVariantsReadBack K U =
    (variants : List (UnionVariant U)) (tag : ℕ) (variant : UnionVariant U)
    → HasTag variants tag variant
    → (B : List ℕ) (table : Table) (slot : ℕ) (given : UnionOffset K)
    → ReturnsGiven B table (union_required variants slot given) → given.tag ≡ tag
    → VariantStands variant B (written given.offset.distance)
    → Returns (IsUnionRequired (ReadsVariants variants) table slot)
    (λ r. IsOkAnd r (IsVariant variant B (written given.offset.distance)))

-- the item at its index is it
abbrev pub VariantItemsReadBack : (T E U : Type 0) → Type 0
VariantItemsReadBack T E U =
    (variants : List (UnionVariant U)) (tag : ℕ) (variant : UnionVariant U)
    → HasTag variants tag variant
    → (B : List ℕ) (unions : List (ℕ × Content)) (vector : VectorOf (UnionSliceView T E))
    (index : ℕ) (content : Content)
    → AreUnionsOf B unions vector → slice_get unions index ≡ Some (tag, content)
    → VariantStands variant B content
    → (name : List ℕ) (r : Option (Result U Error))
    → IsUnionItem (ReadsVariants variants) name vector index r
    → IsSomeAnd r (λ item. IsOkAnd item (IsVariant variant B content))

-- the union read has a struct of these bytes
abbrev pub HasStruct :
    {U : Type 0} → (U → Option SliceWithStartOffset) → List ℕ → U → Type 0
HasStruct slice_of bytes one =
    IsSomeAnd (slice_of one) (λ slice. BytesStand (slice_bytes slice) 0 bytes)

-- A struct that was written by itself stands as its variant, and what has this variant has its bytes.
abbrev pub StructsHaveTheirBytes : (U : Type 0) → Type 0
StructsHaveTheirBytes U =
    (tag size : ℕ) (slice_of : U → Option SliceWithStartOffset)
    → (B bytes : List ℕ) (alignment distance : ℕ) → length bytes ≡ size
    → StandsFromEnd B (apart (record { bytes = bytes; alignment = alignment })) distance
    → VariantStands (struct_variant tag size slice_of) B (written distance)
    × ((one : U) → IsVariant (struct_variant tag size slice_of) B (written distance) one
    → HasStruct slice_of bytes one)

-- an optional field returns it with its bytes
abbrev pub StructsOfUnionsReadBack : (K U : Type 0) → Type 0
StructsOfUnionsReadBack K U =
    (variants : List (UnionVariant U)) (tag size : ℕ) (slice_of : U → Option SliceWithStartOffset)
    → HasTag variants tag (struct_variant tag size slice_of)
    → (B : List ℕ) (table : Table) (slot : ℕ) (given : UnionOffset K)
    → ReturnsGiven B table (union variants slot (Some given)) → given.tag ≡ tag
    → (bytes : List ℕ) (alignment distance : ℕ) → length bytes ≡ size
    → StandsFromEnd B (apart (record { bytes = bytes; alignment = alignment })) distance
    → given.offset.distance ≡ distance
    → Returns (λ type_ method. IsUnionField (ReadsVariants variants) table slot type_ method K)
    (λ r. IsOkAnd r (λ found. IsSomeAnd found (HasStruct slice_of bytes)))

-- What was given to a union is a struct that a builder had, of these bytes. Over that a table was
-- written, and it is read: by a field, and by a required one.
module _ {K U : Type 0} (reads : ReadsBoth U) (bytes : List ℕ) (given : UnionOffset K) (table : Table)
  where
    pub record StructIsAt (slot : ℕ) : Type 0 where
      pub builder : State
      pub is_read : UnionIsRead builder table slot given
      pub stands : StructStandsIn builder bytes given.offset.distance

    pub record StructIsGiven (r : Result (Option U) Error) : Type 0 where
      pub slot : ℕ
      pub type_ : List ℕ
      pub method : List ℕ
      pub field : IsUnionField reads table slot type_ method K r
      pub is_at : StructIsAt slot

    pub record StructIsRequired (r : Result U Error) : Type 0 where
      pub slot : ℕ
      pub type_ : List ℕ
      pub method : List ℕ
      pub field : IsUnionRequired reads table slot type_ method r
      pub is_at : StructIsAt slot

-- By whatever variants the union is read, where the tag is that of a struct of this size, the field
-- returned it, with its bytes.
module _ {U : Type 0} (reads : ReadsBoth U) (tag : ℕ) (bytes : List ℕ) where
  abbrev pub WhereItIsAStruct : ((U → Option SliceWithStartOffset) → Type 0) → Type 0
  WhereItIsAStruct Returned =
      (variants : List (UnionVariant U)) (size : ℕ) (slice_of : U → Option SliceWithStartOffset)
      → HasVariants reads variants → HasTag variants tag (struct_variant tag size slice_of)
      → length bytes ≡ size → Returned slice_of

  pub record ReturnsStruct (r : Result (Option U) Error) : Type 0 where
    pub has : WhereItIsAStruct
        (λ slice_of. IsOkAnd r (λ found. IsSomeAnd found (HasStruct slice_of bytes)))

  pub record ReturnsRequiredStruct (r : Result U Error) : Type 0 where
    pub has : WhereItIsAStruct (λ slice_of. IsOkAnd r (HasStruct slice_of bytes))
