-- Unions as they are read: each variant is a table, a string or a struct.
use Rattle.std.specs.Prelude.{◌≡◌, ◌≢◌, ℕ, ◌<◌, List, [], ◌∷◌, length, Option, Result, Ok, Err}
use Rattle.std.specs.Prelude.{◌⊎◌, ◌==◌, ◌||◌, IsSomeAnd, ⊤, Bool, false, Some, None}
use Rattle.std.specs.Prelude.{if◌then◌else◌}
use Rattle.std.specs.Borrow.{Bor}
use Rattle.std.specs.Str.{IsUtf8}
use Rattle.planus_read.specs.declared.errors.ErrorKind.{ErrorKind}
use Rattle.planus_read.specs.declared.errors.ErrorKind.TheVariants.{UnknownUnionTag}
use Rattle.planus_read.specs.declared.slice_helpers.SliceWithStartOffset.{SliceWithStartOffset}
use Rattle.planus_read.specs.declared.table_reader.Table.{Table}
use Rattle.planus_read.specs.Bytes.{BytesStand, position_of}
use Rattle.planus_read.specs.Slices.{slice_bytes}
use Rattle.planus_read.specs.Stands.{Stands, ApartStands, at}
use Rattle.planus_read.specs.Tables.{Reads, ReadsBoth}
use Rattle.planus_read.specs.Values.{text, apart}
use Rattle.planus_view.specs.PlainRefs.{reads_plain_ref}
use Rattle.planus_write.specs.Contents.{Content, value, written}
use Rattle.planus.specs.ReadBack.{ContentsStand, TableHolds}
use Rattle.planus.specs.ReadKinds.{reads_text}
use Rattle.planus.specs.Views.{reads_as}

-- a variant's tag, and what its union has: the table, the string, or the slice from the first byte
-- of a struct of this size on
pub data UnionVariant (U : Type 0) : Type 0 where
  table_variant : ℕ → (U → Option Table) → UnionVariant U
  text_variant : ℕ → (U → Option (Bor (List ℕ))) → UnionVariant U
  struct_variant : ℕ → ℕ → (U → Option SliceWithStartOffset) → UnionVariant U

abbrev pub tag_of : {U : Type 0} → UnionVariant U → ℕ
tag_of (table_variant tag table_of) = tag
tag_of (text_variant tag text_of) = tag
tag_of (struct_variant tag size slice_of) = tag

-- the value is this table, written before, this string, or the struct of these bytes
abbrev pub IsTableIn : List ℕ → Content → List (ℕ × Option Content) → Type 0
IsTableIn B (written distance) contents = ContentsStand B contents distance
IsTableIn B _ contents = ⊥

abbrev pub IsTextIn : List ℕ → Content → List ℕ → Type 0
IsTextIn B (value content) bytes = content ≡ text bytes
IsTextIn B (written distance) bytes = Stands B (at (position_of B distance)) (text bytes)
IsTextIn B _ bytes = ⊥

abbrev pub IsApart : List ℕ → Content → List ℕ → Type 0
IsApart B (value content) bytes =
    (alignment : ℕ) × (content ≡ apart (record { bytes = bytes; alignment = alignment }))
IsApart B (written distance) bytes = ApartStands B (position_of B distance) bytes
IsApart B _ bytes = ⊥

abbrev pub reads_struct : ℕ → Reads SliceWithStartOffset
reads_struct size = reads_plain_ref (λ (slice : SliceWithStartOffset). slice) size

module _ {U : Type 0} where
  abbrev pub has_tag : List (UnionVariant U) → ℕ → Bool
  has_tag [] tag = false
  has_tag (variant ∷ variants) tag = (tag_of variant == tag) || has_tag variants tag

  -- the only variant with this tag
  abbrev pub variant_at : List (UnionVariant U) → ℕ → Option (UnionVariant U)
  variant_at [] tag = None
  variant_at (variant ∷ variants) tag =
      if tag_of variant == tag then (if has_tag variants tag then None else Some variant)
      else variant_at variants tag

  abbrev pub ReadsVariant : UnionVariant U → Reads U
  ReadsVariant (table_variant tag table_of) S start f (Ok union) =
      IsSomeAnd (table_of union) (λ table. reads_as (λ (table : Table). table) S start f (Ok table))
  ReadsVariant (table_variant tag table_of) S start f (Err e) =
      reads_as (λ (table : Table). table) S start f (Err e)
  ReadsVariant (text_variant tag text_of) S start f (Ok union) =
      IsSomeAnd (text_of union) (λ lent. reads_text S start f (Ok lent))
  ReadsVariant (text_variant tag text_of) S start f (Err e) = reads_text S start f (Err e)
  ReadsVariant (struct_variant tag size slice_of) S start f (Ok union) =
      IsSomeAnd (slice_of union) (λ slice. reads_struct size S start f (Ok slice))
  ReadsVariant (struct_variant tag size slice_of) S start f (Err e) =
      reads_struct size S start f (Err e)

  abbrev pub ReadsTagged : List (UnionVariant U) → ReadsBoth U
  ReadsTagged [] S start tag f r = ⊥
  ReadsTagged (variant ∷ variants) S start tag f r =
      ((tag ≡ tag_of variant) × ReadsVariant variant S start f r)
      ⊎ ReadsTagged variants S start tag f r

  abbrev pub IsUnknown : List (UnionVariant U) → ℕ → Type 0
  IsUnknown [] tag = ⊤
  IsUnknown (variant ∷ variants) tag = (tag ≢ tag_of variant) × IsUnknown variants tag

  abbrev pub IsKnown : List (UnionVariant U) → ℕ → Type 0
  IsKnown [] tag = ⊥
  IsKnown (variant ∷ variants) tag = (tag ≡ tag_of variant) ⊎ IsKnown variants tag

  -- The variant with the tag, or an unknown tag.
  abbrev pub ReadsVariants : List (UnionVariant U) → ReadsBoth U
  ReadsVariants variants S start tag f (Ok union) = ReadsTagged variants S start tag f (Ok union)
  ReadsVariants variants S start tag f (Err e) =
      ReadsTagged variants S start tag f (Err e)
      ⊎ (IsUnknown variants tag × (e ≡ UnknownUnionTag tag))

  -- a type that is read so has these variants
  abbrev pub HasVariants : ReadsBoth U → List (UnionVariant U) → Type 0
  HasVariants reads variants =
      (S : List ℕ) (start tag f : ℕ) (r : Result U ErrorKind) → reads S start tag f r
      → ReadsVariants variants S start tag f r

  abbrev pub VariantStands : UnionVariant U → List ℕ → Content → Type 0
  VariantStands (table_variant tag table_of) B content =
      (contents : List (ℕ × Option Content)) × IsTableIn B content contents
  VariantStands (text_variant tag text_of) B content =
      (bytes : List ℕ) × IsUtf8 bytes × IsTextIn B content bytes
  VariantStands (struct_variant tag size slice_of) B content =
      (bytes : List ℕ) × (length bytes ≡ size) × IsApart B content bytes

  abbrev pub EachStands : List (UnionVariant U) → List ℕ → ℕ → Content → Type 0
  EachStands [] B tag content = ⊤
  EachStands (variant ∷ variants) B tag content =
      (tag ≡ tag_of variant → VariantStands variant B content) × EachStands variants B tag content

  -- The union's tag is that of a variant, and its value is in B.
  pub record UnionStands
      (variants : List (UnionVariant U)) (B : List ℕ) (tag : ℕ) (content : Content) : Type 0 where
    pub known : IsKnown variants tag
    pub above : tag ≢ 0
    pub below : tag < 256
    pub each : EachStands variants B tag content

  -- the union read has this table, this string, or the struct of these bytes
  abbrev pub IsVariant : UnionVariant U → List ℕ → Content → U → Type 0
  IsVariant (table_variant tag table_of) B content union =
      IsSomeAnd (table_of union)
      (λ table. (contents : List (ℕ × Option Content)) → IsTableIn B content contents
      → TableHolds B contents table)
  IsVariant (text_variant tag text_of) B content union =
      IsSomeAnd (text_of union)
      (λ lent. (bytes : List ℕ) → IsUtf8 bytes → IsTextIn B content bytes → lent.now ≡ bytes)
  IsVariant (struct_variant tag size slice_of) B content union =
      IsSomeAnd (slice_of union)
      (λ slice. (bytes : List ℕ) → length bytes ≡ size → IsApart B content bytes
      → BytesStand (slice_bytes slice) 0 bytes)

  abbrev pub IsUnion : List (UnionVariant U) → List ℕ → ℕ → Content → U → Type 0
  IsUnion [] B tag content union = ⊥
  IsUnion (variant ∷ variants) B tag content union =
      ((tag ≡ tag_of variant) × IsVariant variant B content union)
      ⊎ IsUnion variants B tag content union
