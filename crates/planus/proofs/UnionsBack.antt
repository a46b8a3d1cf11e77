-- A union of a known variant stands where its value does, and is read as that variant.
use Rattle.std.specs.Prelude.{◌≡◌, ℕ, ◌==◌, List, [], ◌∷◌, length, Option, Some, None}
use Rattle.std.specs.Prelude.{Result, Bool, true, false, if◌then◌else◌, IsOkAnd, IsSomeAnd, Ok, Err}
use Rattle.std.proofs.Common.{refl, sym, subst, inl, inr}
use Rattle.std.proofs.lemmas.Bool.{or_parts, eqb-true, eqb-false}
use Rattle.planus_read.specs.declared.located.Error.{Error}
use Rattle.planus_read.specs.declared.slice_helpers.SliceWithStartOffset.{SliceWithStartOffset}
use Rattle.planus_read.specs.Bytes.{BytesStand, position_of}
use Rattle.planus_read.specs.Slices.{slice_bytes}
use Rattle.planus_read.specs.Stands.{ApartStands}
use Rattle.planus_write.specs.Contents.{Content, written}
use Rattle.planus_write.specs.declared.union_offset.UnionOffset.{UnionOffset}
use Rattle.planus.specs.Accessors.{SameIf}
use Rattle.planus.specs.UnionAccessors.{IsUnionField, IsUnionRequired}
use Rattle.planus.specs.UnionsBack.{HasTag, VariantsReadBack, RequiredVariantsReadBack}
use Rattle.planus.specs.UnionsBack.{VariantItemsReadBack, StructsHaveTheirBytes, HasStruct}
use Rattle.planus.specs.UnionsBack.{StructsOfUnionsReadBack, StructIsAt}
use Rattle.planus.specs.UnionsBack.{ReturnsStruct, ReturnsRequiredStruct}
use Rattle.planus_read.specs.declared.table_reader.Table.{Table}
use Rattle.planus_read.specs.Tables.{ReadsBoth}
use Rattle.planus_read.specs.Values.{apart}
use Rattle.planus.specs.Unions.{HasVariants}
use Rattle.planus.specs.Unions.{UnionVariant, struct_variant, tag_of, has_tag, variant_at}
use Rattle.planus.specs.Unions.{IsKnown, VariantStands, EachStands, UnionStands, IsVariant, IsUnion}

module _ {U : Type 0} where
  found : (P : UnionVariant U → Type 0) (x y : UnionVariant U) → Some x ≡ Some y → P x → P y
  found P x y same holds = subst (λ (o : Option (UnionVariant U)). IsSomeAnd o P) same holds

  known : (variants : List (UnionVariant U)) (tag : ℕ) (variant : UnionVariant U)
      → variant_at variants tag ≡ Some variant → IsKnown variants tag
  known [] tag variant at = (cc)
  known (first ∷ variants) tag variant at =
      by_test (known variants tag variant) (tag_of first == tag) refl at
    where
      by_test : (variant_at variants tag ≡ Some variant → IsKnown variants tag)
          → (is : Bool) → (tag_of first == tag) ≡ is
          → (if is then (if has_tag variants tag then None else Some first) else variant_at variants tag)
          ≡ Some variant
          → IsKnown (first ∷ variants) tag
      by_test later true same at = inl (sym (eqb-true (tag_of first) tag same))
      by_test later false differs at = inr (later at)

  module _ (B : List ℕ) (content : Content) where
    others_stand : (variants : List (UnionVariant U)) (tag : ℕ) → has_tag variants tag ≡ false
        → EachStands variants B tag content
    others_stand [] tag none = tt
    others_stand (first ∷ variants) tag none =
        let parts = or_parts (tag_of first == tag) (has_tag variants tag) none in (
          (λ same. absurd (eqb-false (tag_of first) tag parts.0 (sym same))),
          others_stand variants tag parts.1,
        )

    each_stands : (variants : List (UnionVariant U)) (tag : ℕ) (variant : UnionVariant U)
        → variant_at variants tag ≡ Some variant → VariantStands variant B content
        → EachStands variants B tag content
    each_stands [] tag variant at stands = tt
    each_stands (first ∷ variants) tag variant at stands =
        by_test (λ at. each_stands variants tag variant at stands) (tag_of first == tag)
        (has_tag variants tag) refl refl at
      where
        by_test : (variant_at variants tag ≡ Some variant → EachStands variants B tag content)
            → (is more : Bool) → (tag_of first == tag) ≡ is → has_tag variants tag ≡ more
            → (if is then (if more then None else Some first) else variant_at variants tag)
            ≡ Some variant
            → EachStands (first ∷ variants) B tag content
        by_test later true true same more at = (cc)
        by_test later true false same more at = (
          (λ _. found (λ v. VariantStands v B content) variant first (sym at) stands),
          others_stand variants tag more,
        )
        by_test later false more differs has at = (
          (λ same. absurd (eqb-false (tag_of first) tag differs (sym same))),
          later at,
        )

    no_others : (variants : List (UnionVariant U)) (tag : ℕ) (union : U)
        → has_tag variants tag ≡ false → IsUnion variants B tag content union → ⊥
    no_others [] tag union none is = is
    no_others (first ∷ variants) tag union none (inl is) =
        eqb-false (tag_of first) tag (or_parts (tag_of first == tag) (has_tag variants tag) none).0
        (sym is.0)
    no_others (first ∷ variants) tag union none (inr is) =
        no_others variants tag union (or_parts (tag_of first == tag) (has_tag variants tag) none).1 is

    -- what is read is the only variant with the tag
    pub variant_read : (variants : List (UnionVariant U)) (tag : ℕ) (variant : UnionVariant U)
        → variant_at variants tag ≡ Some variant → (union : U)
        → IsUnion variants B tag content union → IsVariant variant B content union
    variant_read [] tag variant at union is = (cc)
    variant_read (first ∷ variants) tag variant at union is =
        by_test (variant_read variants tag variant) (tag_of first == tag) (has_tag variants tag)
        refl refl at is
      where
        by_test : (variant_at variants tag ≡ Some variant → (union : U)
            → IsUnion variants B tag content union → IsVariant variant B content union)
            → (is more : Bool) → (tag_of first == tag) ≡ is → has_tag variants tag ≡ more
            → (if is then (if more then None else Some first) else variant_at variants tag)
            ≡ Some variant
            → IsUnion (first ∷ variants) B tag content union → IsVariant variant B content union
        by_test later true true same more at is = (cc)
        by_test later true false same more at (inl is) =
            found (λ v. IsVariant v B content union) first variant at is.1
        by_test later true false same more at (inr is) = absurd (no_others variants tag union more is)
        by_test later false more differs has at (inl is) =
            absurd (eqb-false (tag_of first) tag differs (sym is.0))
        by_test later false more differs has at (inr is) = later at union is

    pub union_stands : (variants : List (UnionVariant U)) (tag : ℕ) (variant : UnionVariant U)
        → HasTag variants tag variant → VariantStands variant B content
        → UnionStands variants B tag content
    union_stands variants tag variant has stands =
        record {
          known = known variants tag variant has.only;
          above = has.above;
          below = has.below;
          each = each_stands variants tag variant has.only stands;
        }

-- of a result, an optional one and an item
read_as : {U : Type 0} (B : List ℕ) (content : Content) (variants : List (UnionVariant U)) (tag : ℕ)
    (variant : UnionVariant U) → HasTag variants tag variant → (r : Result U Error)
    → IsOkAnd r (IsUnion variants B tag content) → IsOkAnd r (IsVariant variant B content)
read_as B content variants tag variant has (Ok one) h =
    variant_read B content variants tag variant has.only one h
read_as B content variants tag variant has (Err e) h = h

found_as : {U : Type 0} (B : List ℕ) (content : Content) (variants : List (UnionVariant U)) (tag : ℕ)
    (variant : UnionVariant U) → HasTag variants tag variant → (r : Result (Option U) Error)
    → IsOkAnd r (λ found. IsSomeAnd found (IsUnion variants B tag content))
    → IsOkAnd r (λ found. IsSomeAnd found (IsVariant variant B content))
found_as B content variants tag variant has (Ok (Some one)) h =
    variant_read B content variants tag variant has.only one h
found_as B content variants tag variant has (Ok None) h = h
found_as B content variants tag variant has (Err e) h = h

item_as : {U : Type 0} (B : List ℕ) (content : Content) (variants : List (UnionVariant U)) (tag : ℕ)
    (variant : UnionVariant U) → HasTag variants tag variant → (r : Option (Result U Error))
    → IsSomeAnd r (λ item. IsOkAnd item (IsUnion variants B tag content))
    → IsSomeAnd r (λ item. IsOkAnd item (IsVariant variant B content))
item_as B content variants tag variant has (Some item) h =
    read_as B content variants tag variant has item h
item_as B content variants tag variant has None h = h

module _ {U : Type 0} (B : List ℕ) (content : Content) (variants : List (UnionVariant U)) where
  stands_tagged : (tag : ℕ) (variant : UnionVariant U) → HasTag variants tag variant
      → VariantStands variant B content → (given : ℕ) → given ≡ tag
      → UnionStands variants B given content
  stands_tagged tag variant has stands given is =
      subst (λ (t : ℕ). UnionStands variants B t content) (sym is)
      (union_stands B content variants tag variant has stands)

pub variants_read_back : {K U : Type 0} → VariantsReadBack K U
variants_read_back {K} {U} variants tag variant has B table slot given returns is stands type_ method r clause =
    found_as B content variants tag variant has r
    (subst (λ (t : ℕ). IsOkAnd r (λ found. IsSomeAnd found (IsUnion variants B t content))) is
    (there r (returns (stands_tagged B content variants tag variant has stands given.tag is) type_ method r clause)))
  where
    content : Content
    content = written given.offset.distance

    there : (r : Result (Option U) Error)
        → IsOkAnd r (SameIf (λ (one : UnionOffset K). IsUnion variants B one.tag (written one.offset.distance)) (Some given))
        → IsOkAnd r (λ found. IsSomeAnd found (IsUnion variants B given.tag content))
    there (Ok (Some one)) h = h
    there (Ok None) h = h
    there (Err e) h = h

pub required_read_back : {K U : Type 0} → RequiredVariantsReadBack K U
required_read_back {K} {U} variants tag variant has B table slot given returns is stands type_ method r clause =
    read_as B content variants tag variant has r
    (subst (λ (t : ℕ). IsOkAnd r (IsUnion variants B t content)) is
    (returns (stands_tagged B content variants tag variant has stands given.tag is) type_ method r clause))
  where
    content : Content
    content = written given.offset.distance

pub items_read_back : {T E U : Type 0} → VariantItemsReadBack T E U
items_read_back {T} {E} {U} variants tag variant has B unions vector index content are at stands name r item =
    item_as B content variants tag variant has r
    (item.read_back B variants (λ S start tag f r h. h) unions tag content are at
    (union_stands B content variants tag variant has stands))

pub structs_have_bytes : {U : Type 0} → StructsHaveTheirBytes U
structs_have_bytes {U} tag size slice_of B bytes alignment distance sized stands =
    ((bytes, sized, stands), λ one is. there (slice_of one) is)
  where
    there : (found : Option SliceWithStartOffset)
        → IsSomeAnd found (λ slice. (others : List ℕ) → length others ≡ size
        → ApartStands B (position_of B distance) others → BytesStand (slice_bytes slice) 0 others)
        → IsSomeAnd found (λ slice. BytesStand (slice_bytes slice) 0 bytes)
    there (Some slice) h = h bytes sized stands
    there None h = h

pub structs_read_back : {K U : Type 0} → StructsOfUnionsReadBack K U
structs_read_back {K} {U} variants tag size slice_of has B table slot given returns is bytes alignment
    distance sized stands is_at type_ method r clause =
    there r (variants_read_back variants tag variant has B table slot given returns is parts.0 type_ method r clause)
  where
    variant : UnionVariant U
    variant = struct_variant tag size slice_of

    parts : VariantStands (struct_variant tag size slice_of) B (written given.offset.distance)
        × ((one : U) → IsVariant (struct_variant tag size slice_of) B (written given.offset.distance) one
        → HasStruct slice_of bytes one)
    parts = structs_have_bytes tag size slice_of B bytes alignment given.offset.distance sized
        (subst (λ (d : ℕ). ApartStands B (position_of B d) bytes) (sym is_at) stands)

    there : (r : Result (Option U) Error)
        → IsOkAnd r (λ found. IsSomeAnd found (IsVariant variant B (written given.offset.distance)))
        → IsOkAnd r (λ found. IsSomeAnd found (HasStruct slice_of bytes))
    there (Ok (Some one)) h = parts.1 one h
    there (Ok None) h = h
    there (Err e) h = h

module _ {K U : Type 0} (reads : ReadsBoth U) (bytes : List ℕ) (given : UnionOffset K) (table : Table)
    (slot : ℕ) (is : StructIsAt reads bytes given table slot)
  where
    abbrev content : Content
    content = written given.offset.distance

    abbrev buffer : List ℕ
    buffer = is.is_read.bytes

    module _ (variants : List (UnionVariant U)) (size : ℕ) (slice_of : U → Option SliceWithStartOffset)
        (has : HasVariants reads variants)
        (has_tag : HasTag variants given.tag (struct_variant given.tag size slice_of))
        (sized : length bytes ≡ size)
      where
        -- it stands in the buffer as the struct of the variant
        stands_as : VariantStands (struct_variant given.tag size slice_of) buffer content
            × ((one : U) → IsVariant (struct_variant given.tag size slice_of) buffer content one
            → HasStruct slice_of bytes one)
        stands_as =
            structs_have_bytes given.tag size slice_of buffer bytes 1 given.offset.distance sized
            (is.is_read.keeps_values (apart (record { bytes = bytes; alignment = 1 }))
            given.offset.distance is.stands.reached is.stands.stands)

        union_is : UnionStands variants buffer given.tag content
        union_is =
            union_stands buffer content variants given.tag (struct_variant given.tag size slice_of)
            has_tag stands_as.0

        struct_of : (one : U) → IsUnion variants buffer given.tag content one
            → HasStruct slice_of bytes one
        struct_of one is_union =
            stands_as.1 one (variant_read buffer content variants given.tag
            (struct_variant given.tag size slice_of) has_tag.only one is_union)

        found_struct : (r : Result (Option U) Error)
            → IsOkAnd r (λ found. IsSomeAnd found (IsUnion variants buffer given.tag content))
            → IsOkAnd r (λ found. IsSomeAnd found (HasStruct slice_of bytes))
        found_struct (Ok (Some one)) h = struct_of one h
        found_struct (Ok None) h = h
        found_struct (Err e) h = h

        read_struct : (r : Result U Error) → IsOkAnd r (IsUnion variants buffer given.tag content)
            → IsOkAnd r (HasStruct slice_of bytes)
        read_struct (Ok one) h = struct_of one h
        read_struct (Err e) h = h

    pub given_is_read : (type_ method : List ℕ) (r : Result (Option U) Error)
        → IsUnionField reads table slot type_ method K r → ReturnsStruct reads given.tag bytes r
    given_is_read type_ method r field =
        record {
          has = λ variants size slice_of has has_tag sized.
              found_struct variants size slice_of has has_tag sized r
              (field.read_back_if buffer variants has (Some given) is.is_read.tag is.is_read.value
              (union_is variants size slice_of has has_tag sized));
        }

    pub required_is_read : (type_ method : List ℕ) (r : Result U Error)
        → IsUnionRequired reads table slot type_ method r
        → ReturnsRequiredStruct reads given.tag bytes r
    required_is_read type_ method r field =
        record {
          has = λ variants size slice_of has has_tag sized.
              read_struct variants size slice_of has has_tag sized r
              (field.read_back buffer variants has given.tag content is.is_read.tag is.is_read.value
              (union_is variants size slice_of has has_tag sized));
        }
