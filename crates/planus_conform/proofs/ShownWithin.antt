-- A dump shows all that one by fewer fields shows.
use Rattle.std.proofs.Common.{◌≡◌, ℕ, zero, suc, ◌+◌, ◌*◌, Bool, true, false, List, [], ◌∷◌, ◌++◌, length, map, drop, refl, sym, ap, subst, ◌∙◌, Option, Some, None, option_map, slice_get, codes, inl, inr}
use Rattle.std.specs.Prelude.{◌==◌, if◌then◌else◌, nat_le, slice_index, Result, Ok, Err}
use Rattle.std.specs.Int.{w32}
use Rattle.std.proofs.lemmas.Option.{slice_get-map}
use Rattle.planus_read.specs.Tables.{Slot}
use Rattle.planus_read.specs.declared.errors.ErrorKind.TheVariants.{InvalidOffset}
use Rattle.planus_dump.specs.Answers.{Seen, SeenItems, SeenUnion, SeenUnions, bits_at, lone_tag, table_at, vector_at, union_at, unions_at}
use Rattle.planus_dump.specs.Dumped.{greatest_depth}
use Rattle.planus_dump.specs.Events.{Event, line, TableEvents, fault_event, absent_events, wrong_tag, stride_of, enum_events, fixed_size, fixed_events, values_events, counted_events, structs, greatest_nesting, value_events, led_events, fixed_list_events, item_events, items_events, list_events, buffer_events, nested_events, member_events, union_events, union_field_events, union_items_events, unions_events, kind_events, events}
use Rattle.planus_dump.specs.Lines.{field_path, item_path, table_line, struct_line}
use Rattle.planus_dump.specs.Tests.{fault_text, answered, byte_list_tests, content_at}
use Rattle.planus_dump.specs.Shapes.{FieldShape, TableShape, table_shape, VariantShape, union_shape, enum_shape, StructFieldShape, StructShape, struct_shape}
use Rattle.planus_dump.specs.declared.schemas.Fixed.{Fixed}
use Rattle.planus_dump.specs.declared.schemas.Fixed.TheVariants as fixed
use Rattle.planus_dump.specs.declared.schemas.Item.{Item}
use Rattle.planus_dump.specs.declared.schemas.Item.TheVariants as item
use Rattle.planus_dump.specs.declared.schemas.Kind.{Kind}
use Rattle.planus_dump.specs.declared.schemas.Kind.TheVariants as kind
use Rattle.planus_dump.specs.declared.schemas.Schema.{Schema}
use Rattle.planus_dump.specs.declared.schemas.VariantKind.{VariantKind}
use Rattle.planus_dump.specs.declared.schemas.VariantKind.TheVariants as member
use Rattle.planus_inspect.specs.Shown.{field_shown, field_in_struct, table_shown, union_shown, enum_shown, struct_shown, fields_shown, struct_fields_shown}
use Rattle.planus_schema.specs.declared.schema.Body.{Body}
use Rattle.planus_schema.specs.declared.schema.Body.TheVariants as body
use Rattle.planus_schema.specs.declared.schema.Declared.{Declared}
use Rattle.planus_schema.specs.declared.schema.StructField.{StructField}
use Rattle.planus_schema.specs.declared.schema.TableField.{TableField}
use Rattle.planus_conform.specs.Reads.{part_in}
use Rattle.planus_conform.specs.ShownAlike.{is_shared, shared_fields, is_part, shared_parts, shared_in, shared_parts_in, other_body, table_shared, struct_shared, AreAmong, SharedLinesAreShown}
use Rattle.planus_conform.proofs.EventsByShapes.{enum_by, enum_is, enum_size_by, enum_size_is, struct_size_by, struct_size_is, parts_by, struct_by, struct_is, variant_in, variant_by, union_by, union_is, fields_by, table_by, shape_by, shape_is}

-- ---- lists

further : {A : Type 0} (xs ys : List A) (y : A) → AreAmong xs ys → AreAmong xs (y ∷ ys)
further [] ys y h = tt
further (x ∷ xs) ys y h = inr h

more : {A : Type 0} (xs ys zs : List A) → AreAmong xs ys → AreAmong xs (zs ++ ys)
more xs ys [] h = h
more xs ys (z ∷ zs) h = further xs (zs ++ ys) z (more xs ys zs h)

itself : {A : Type 0} (xs : List A) → AreAmong xs xs
itself [] = tt
itself (x ∷ xs) = inl (refl, itself xs)

same : {A : Type 0} (xs ys : List A) → xs ≡ ys → AreAmong xs ys
same xs ys e = subst (AreAmong xs) e (itself xs)

both : {A : Type 0} (xs ys us vs : List A) → AreAmong xs ys → AreAmong us vs → AreAmong (xs ++ us) (ys ++ vs)
both [] ys us vs h k = more us vs ys k
both (x ∷ xs) [] us vs h k = absurd h
both (x ∷ xs) (y ∷ ys) us vs (inl h) k = inl (h.0, both xs ys us vs h.1 k)
both (x ∷ xs) (y ∷ ys) us vs (inr h) k = inr (both (x ∷ xs) ys us vs h k)

choose : {A : Type 0} (b : Bool) (xs ys us : List A) → AreAmong xs ys → AreAmong (if b then us else xs) (if b then us else ys)
choose true xs ys us h = itself us
choose false xs ys us h = h

shared_among : (gs fs : List TableField) → AreAmong (map field_shown (shared_fields gs fs)) (map field_shown fs)
shared_among gs [] = tt
shared_among gs (f ∷ fs) = by_test (shared_among gs fs) (is_shared gs f)
  where
    by_test : AreAmong (map field_shown (shared_fields gs fs)) (map field_shown fs) → (b : Bool) → AreAmong (map field_shown (if b then f ∷ shared_fields gs fs else shared_fields gs fs)) (map field_shown (f ∷ fs))
    by_test h true = inl (refl, h)
    by_test h false = further (map field_shown (shared_fields gs fs)) (map field_shown fs) (field_shown f) h

parts_shared_among : (gs fs : List StructField) → AreAmong (map field_in_struct (shared_parts gs fs)) (map field_in_struct fs)
parts_shared_among gs [] = tt
parts_shared_among gs (f ∷ fs) = by_test (parts_shared_among gs fs) (is_part (part_in gs f.distance))
  where
    by_test : AreAmong (map field_in_struct (shared_parts gs fs)) (map field_in_struct fs) → (b : Bool) → AreAmong (map field_in_struct (if b then f ∷ shared_parts gs fs else shared_parts gs fs)) (map field_in_struct (f ∷ fs))
    by_test h true = inl (refl, h)
    by_test h false = further (map field_in_struct (shared_parts gs fs)) (map field_in_struct fs) (field_in_struct f) h

-- ---- parts with fewer fields

record StructWithin (x y : StructShape) : Type 0 where
  name : x.name ≡ y.name
  size : x.size ≡ y.size
  parts : AreAmong x.fields y.fields

abbrev StructsWithin : Option StructShape → Option StructShape → Type 0
StructsWithin None None = Unit {0}
StructsWithin (Some x) (Some y) = StructWithin x y
StructsWithin o p = ⊥

record TableWithin (x y : TableShape) : Type 0 where
  name : x.name ≡ y.name
  fields : AreAmong x.fields y.fields

abbrev TablesWithin : Option TableShape → Option TableShape → Type 0
TablesWithin None None = Unit {0}
TablesWithin (Some x) (Some y) = TableWithin x y
TablesWithin o p = ⊥

record Within (a b : Schema) : Type 0 where
  enums : (i : ℕ) → option_map enum_shape (slice_get a.enums.items i) ≡ option_map enum_shape (slice_get b.enums.items i)
  structs : (i : ℕ) → StructsWithin (option_map struct_shape (slice_get a.structs.items i)) (option_map struct_shape (slice_get b.structs.items i))
  unions : (i : ℕ) → option_map union_shape (slice_get a.unions.items i) ≡ option_map union_shape (slice_get b.unions.items i)
  tables : (i : ℕ) → TablesWithin (option_map table_shape (slice_get a.tables.items i)) (option_map table_shape (slice_get b.tables.items i))
  tags : a.tags_need_values ≡ b.tags_need_values

abbrev Fewer : TableEvents → TableEvents → Type 0
Fewer E F = (i : ℕ) (S : List ℕ) (f : ℕ) (path : List ℕ) → AreAmong (E i S f path) (F i S f path)

module _ (a b : Schema) (within : Within a b) where
  -- ---- values of a fixed size

  enum_same : (i : ℕ) (S : List ℕ) (f : ℕ) (path : List ℕ) → enum_events (slice_get a.enums.items i) S f path ≡ enum_events (slice_get b.enums.items i) S f path
  enum_same i S f path =
      enum_is (slice_get a.enums.items i) S f path ∙ ap (λ o. enum_by o S f path) (within.enums i)
      ∙ sym (enum_is (slice_get b.enums.items i) S f path)

  by_size : (o p : Option StructShape) → StructsWithin o p → struct_size_by o ≡ struct_size_by p
  by_size None None h = refl
  by_size None (Some y) h = absurd h
  by_size (Some x) None h = absurd h
  by_size (Some x) (Some y) h = h.size

  size_same : (v : Fixed) → fixed_size a v ≡ fixed_size b v
  size_same (fixed.Number n) = refl
  size_same fixed.Bool = refl
  size_same fixed.F32 = refl
  size_same fixed.F64 = refl
  size_same (fixed.Enum i) =
      enum_size_is (slice_get a.enums.items i) ∙ ap enum_size_by (within.enums i) ∙ sym (enum_size_is (slice_get b.enums.items i))
  size_same (fixed.Struct i) =
      struct_size_is (slice_get a.structs.items i) ∙ by_size _ _ (within.structs i) ∙ sym (struct_size_is (slice_get b.structs.items i))

  module _ (T U : TableEvents) (fewer : Fewer T U) where
    fixed_among : (v : Fixed) (S : List ℕ) (f : ℕ) (path : List ℕ) → AreAmong (fixed_events a T v S f path) (fixed_events b U v S f path)
    fixed_among (fixed.Number n) S f path = itself (fixed_events a T (fixed.Number n) S f path)
    fixed_among fixed.Bool S f path = itself (fixed_events a T fixed.Bool S f path)
    fixed_among fixed.F32 S f path = itself (fixed_events a T fixed.F32 S f path)
    fixed_among fixed.F64 S f path = itself (fixed_events a T fixed.F64 S f path)
    fixed_among (fixed.Enum i) S f path = same _ _ (enum_same i S f path)
    fixed_among (fixed.Struct i) S f path = fewer i S f path

    values_among : (v : Fixed) (S : List ℕ) (f : ℕ) (path : List ℕ) (n k : ℕ) → AreAmong (values_events a T v S f path n k) (values_events b U v S f path n k)
    values_among v S f path zero k = tt
    values_among v S f path (suc n) k =
        both (fixed_events a T v S (f + k * fixed_size a v) (item_path path k)) (fixed_events b U v S (f + k * fixed_size b v) (item_path path k))
        (values_events a T v S f path n (k + 1)) (values_events b U v S f path n (k + 1))
        (subst (λ z. AreAmong (fixed_events a T v S (f + k * fixed_size a v) (item_path path k)) (fixed_events b U v S (f + k * z) (item_path path k))) (size_same v)
        (fixed_among v S (f + k * fixed_size a v) (item_path path k)))
        (values_among v S f path n (k + 1))

    counted_among : (o : Option ℕ) (v : Fixed) (S : List ℕ) (f : ℕ) (path : List ℕ) → AreAmong (counted_events a T o v S f path) (counted_events b U o v S f path)
    counted_among None v S f path = fixed_among v S f path
    counted_among (Some n) v S f path = values_among v S f path n 0

    abbrev part_events : Schema → TableEvents → StructFieldShape → List ℕ → List ℕ → List Event
    part_events s V x S path = counted_events s V x.count x.fixed S x.distance (field_path path x.name)

    parts_among : (xs ys : List StructFieldShape) → AreAmong xs ys → (S path : List ℕ) → AreAmong (parts_by a T xs S path) (parts_by b U ys S path)
    parts_among [] ys h S path = tt
    parts_among (x ∷ xs) [] h S path = absurd h
    parts_among (x ∷ xs) (y ∷ ys) (inl h) S path =
        both (part_events a T x S path) (part_events b U y S path) (parts_by a T xs S path) (parts_by b U ys S path)
        (subst (λ z. AreAmong (part_events a T x S path) (part_events b U z S path)) h.0 (counted_among x.count x.fixed S x.distance (field_path path x.name)))
        (parts_among xs ys h.1 S path)
    parts_among (x ∷ xs) (y ∷ ys) (inr h) S path =
        more (parts_by a T (x ∷ xs) S path) (parts_by b U ys S path) (part_events b U y S path) (parts_among (x ∷ xs) ys h S path)

    abbrev struct_whole : List ℕ → List ℕ → ℕ → List ℕ → ℕ → List Event → List Event
    struct_whole name S f path size es =
        if nat_le (f + size) (length S) then line (struct_line path name) ∷ es else fault_event path (fault_text InvalidOffset) ∷ []

    whole_among : (name S : List ℕ) (f : ℕ) (path : List ℕ) (size : ℕ) (es fs : List Event) → AreAmong es fs → AreAmong (struct_whole name S f path size es) (struct_whole name S f path size fs)
    whole_among name S f path size es fs h = by_test (nat_le (f + size) (length S))
      where
        by_test : (t : Bool) → AreAmong (if t then line (struct_line path name) ∷ es else fault_event path (fault_text InvalidOffset) ∷ []) (if t then line (struct_line path name) ∷ fs else fault_event path (fault_text InvalidOffset) ∷ [])
        by_test true = inl (refl, h)
        by_test false = inl (refl, tt)

    struct_among : (o p : Option StructShape) → StructsWithin o p → (S : List ℕ) (f : ℕ) (path : List ℕ) → AreAmong (struct_by a T o S f path) (struct_by b U p S f path)
    struct_among None None h S f path = tt
    struct_among None (Some y) h S f path = absurd h
    struct_among (Some x) None h S f path = absurd h
    struct_among (Some x) (Some y) h S f path =
        subst (λ n. AreAmong (struct_by a T (Some x) S f path) (struct_whole n S f path y.size (parts_by b U y.fields (drop f S) path))) h.name
        (subst (λ n. AreAmong (struct_by a T (Some x) S f path) (struct_whole x.name S f path n (parts_by b U y.fields (drop f S) path))) h.size
        (whole_among x.name S f path x.size _ _ (parts_among x.fields y.fields h.parts (drop f S) path)))

  structs_among : (left : ℕ) → Fewer (structs a left) (structs b left)
  unfolding structs
  structs_among zero i S f path = inl (refl, tt)
  structs_among (suc left) i S f path =
      subst (λ es. AreAmong es (structs b (suc left) i S f path)) (sym (struct_is a (structs a left) (slice_get a.structs.items i) S f path))
      (subst (AreAmong (struct_by a (structs a left) (option_map struct_shape (slice_get a.structs.items i)) S f path)) (sym (struct_is b (structs b left) (slice_get b.structs.items i) S f path))
      (struct_among (structs a left) (structs b left) (structs_among left) _ _ (within.structs i) S f path))

  value_among : (v : Fixed) (S : List ℕ) (f : ℕ) (path : List ℕ) → AreAmong (value_events a v S f path) (value_events b v S f path)
  value_among v S f path =
      fixed_among (structs a greatest_nesting) (structs b greatest_nesting) (structs_among greatest_nesting) v S f path

  fixed_list_among : (v : Fixed) (path S : List ℕ) (f : ℕ) → AreAmong (fixed_list_events a v path (vector_at (fixed_size a v) S f)) (fixed_list_events b v path (vector_at (fixed_size b v) S f))
  fixed_list_among v path S f =
      subst (λ z. AreAmong (fixed_list_events a v path (vector_at (fixed_size a v) S f)) (fixed_list_events b v path (vector_at z S f))) (size_same v)
      (by_result (vector_at (fixed_size a v) S f))
    where
      by_result : (r : Result SeenItems (List ℕ)) → AreAmong (fixed_list_events a v path r) (fixed_list_events b v path r)
      by_result (Ok items) =
          inl (refl, values_among (structs a greatest_nesting) (structs b greatest_nesting) (structs_among greatest_nesting) v items.bytes 0 path items.count 0)
      by_result (Err w) = inl (refl, tt)

  led_among : (i : ℕ) (S : List ℕ) (f : ℕ) (path : List ℕ) (r : Result ℕ (List ℕ)) → AreAmong (led_events a i S f path r) (led_events b i S f path r)
  led_among i S f path (Ok n) = value_among (fixed.Struct i) S (f + n) path
  led_among i S f path (Err w) = inl (refl, tt)

  -- ---- what has parts

  module _ (E F : TableEvents) (fewer : Fewer E F) where
    item_among : (x : Item) (S : List ℕ) (f : ℕ) (path : List ℕ) → AreAmong (item_events E x S f path) (item_events F x S f path)
    item_among (item.Number number) S f path = inl (refl, tt)
    item_among item.Bool S f path = inl (refl, tt)
    item_among item.Text S f path = inl (refl, tt)
    item_among (item.Table i) S f path = fewer i S f path

    items_among : (x : Item) (S path : List ℕ) (n k : ℕ) → AreAmong (items_events E x S path n k) (items_events F x S path n k)
    items_among x S path zero k = tt
    items_among x S path (suc n) k =
        both (item_events E x S (k * stride_of x) (item_path path k)) (item_events F x S (k * stride_of x) (item_path path k))
        (items_events E x S path n (k + 1)) (items_events F x S path n (k + 1))
        (item_among x S (k * stride_of x) (item_path path k)) (items_among x S path n (k + 1))

    list_among : (x : Item) (path : List ℕ) (r : Result SeenItems (List ℕ)) → AreAmong (list_events E x path r) (list_events F x path r)
    list_among x path (Ok items) = inl (refl, items_among x items.bytes path items.count 0)
    list_among x path (Err w) = inl (refl, tt)

    buffer_among : (i : ℕ) (path content : List ℕ) (r : Result Seen (List ℕ)) → AreAmong (buffer_events E i path content r) (buffer_events F i path content r)
    buffer_among i path content (Ok table) = fewer i content 0 path
    buffer_among i path content (Err w) = inl (refl, tt)

    nested_among : (i : ℕ) (path : List ℕ) (r : Result (List ℕ) (List ℕ)) → AreAmong (nested_events E i path r) (nested_events F i path r)
    nested_among i path (Ok content) = buffer_among i path content (table_at content 0)
    nested_among i path (Err w) = inl (refl, tt)

    -- ---- unions

    member_among : (x : VariantKind) (S : List ℕ) (f : ℕ) (path : List ℕ) → AreAmong (member_events E a x S f path) (member_events F b x S f path)
    member_among (member.Table i) S f path = fewer i S f path
    member_among (member.Struct i) S f path = led_among i S f path (bits_at w32 S f)
    member_among member.Text S f path = inl (refl, tt)

    variant_among : (tag : ℕ) (S : List ℕ) (f : ℕ) (path : List ℕ) (o : Option VariantShape) → AreAmong (variant_by E a tag S f path o) (variant_by F b tag S f path o)
    variant_among tag S f path None = inl (refl, tt)
    variant_among tag S f path (Some x) = inl (refl, member_among x.kind S f path)

    union_by_among : (o : Option (List VariantShape)) (tag : ℕ) (S : List ℕ) (f : ℕ) (path : List ℕ) → AreAmong (union_by E a o tag S f path) (union_by F b o tag S f path)
    union_by_among None tag S f path = tt
    union_by_among (Some xs) tag S f path = variant_among tag S f path (variant_in xs tag)

    union_among : (i tag : ℕ) (S : List ℕ) (f : ℕ) (path : List ℕ) → AreAmong (union_events E a (slice_get a.unions.items i) tag S f path) (union_events F b (slice_get b.unions.items i) tag S f path)
    union_among i tag S f path =
        subst (λ es. AreAmong es (union_events F b (slice_get b.unions.items i) tag S f path)) (sym (union_is E a (slice_get a.unions.items i) tag S f path))
        (subst (AreAmong (union_by E a (option_map union_shape (slice_get a.unions.items i)) tag S f path)) (sym (union_is F b (slice_get b.unions.items i) tag S f path))
        (subst (λ o. AreAmong (union_by E a (option_map union_shape (slice_get a.unions.items i)) tag S f path) (union_by F b o tag S f path)) (within.unions i)
        (union_by_among (option_map union_shape (slice_get a.unions.items i)) tag S f path)))

    union_field_among : (i : ℕ) (r : Bool) (S path : List ℕ) (o : Option ℕ) (u : Result (Option SeenUnion) (List ℕ)) → AreAmong (union_field_events E a r i S path o u) (union_field_events F b r i S path o u)
    union_field_among i r S path o (Ok None) = itself (union_field_events E a r i S path o (Ok None))
    union_field_among i r S path o (Ok (Some u)) = union_among i u.tag S u.offset path
    union_field_among i r S path o (Err w) = inl (refl, tt)

    union_items_among : (i : ℕ) (items : SeenUnions) (path : List ℕ) (n k : ℕ) → AreAmong (union_items_events E a i items path n k) (union_items_events F b i items path n k)
    union_items_among i items path zero k = tt
    union_items_among i items path (suc n) k =
        both (union_events E a (slice_get a.unions.items i) (slice_index items.tags k) items.references (k * 4) (item_path path k))
        (union_events F b (slice_get b.unions.items i) (slice_index items.tags k) items.references (k * 4) (item_path path k))
        (union_items_events E a i items path n (k + 1)) (union_items_events F b i items path n (k + 1))
        (union_among i (slice_index items.tags k) items.references (k * 4) (item_path path k)) (union_items_among i items path n (k + 1))

    unions_among : (i : ℕ) (r : Bool) (path : List ℕ) (u : Result (Option SeenUnions) (List ℕ)) → AreAmong (unions_events E a r i path u) (unions_events F b r i path u)
    unions_among i r path (Ok None) = itself (absent_events r path)
    unions_among i r path (Ok (Some items)) = inl (refl, union_items_among i items path items.count 0)
    unions_among i r path (Err w) = inl (refl, tt)

    -- ---- fields

    kind_among : (x : Kind) (r : Bool) (k : ℕ) (table : Seen) (path : List ℕ) → AreAmong (kind_events E a r x k table path) (kind_events F b r x k table path)
    kind_among (kind.One x) r k table path =
        choose (Slot table.slots k == 0) _ _ (absent_events r path) (item_among x table.object (Slot table.slots k) path)
    kind_among (kind.List x) r k table path =
        choose (Slot table.slots k == 0) _ _ (absent_events r path) (list_among x path (vector_at (stride_of x) table.object (Slot table.slots k)))
    kind_among (kind.Union i) r k table path =
        subst (λ o. AreAmong (kind_events E a r (kind.Union i) k table path) (union_field_events F b r i table.object path o (union_at table k)))
        (ap (λ t. if t then lone_tag table k else None) within.tags)
        (union_field_among i r table.object path (wrong_tag a table k) (union_at table k))
    kind_among (kind.UnionVector i) r k table path = unions_among i r path (unions_at table k)
    kind_among kind.Bytes r k table path = itself (kind_events E a r kind.Bytes k table path)
    kind_among (kind.Fixed v) r k table path =
        choose (Slot table.slots k == 0) _ _ (absent_events r path) (value_among v table.object (Slot table.slots k) path)
    kind_among (kind.FixedList v) r k table path =
        choose (Slot table.slots k == 0) _ _ (absent_events r path) (fixed_list_among v path table.object (Slot table.slots k))
    kind_among (kind.Nested i) r k table path =
        choose (Slot table.slots k == 0) _ _ (absent_events r path)
        (nested_among i path (answered (byte_list_tests table.object (Slot table.slots k)) (content_at table.object (Slot table.slots k))))

    abbrev field_events : TableEvents → Schema → FieldShape → Seen → List ℕ → List Event
    field_events G s x table path =
        kind_events G s x.required x.kind x.slot table (field_path path (if x.deprecated then x.name ++ codes " (deprecated)" else x.name))

    fields_among : (xs ys : List FieldShape) → AreAmong xs ys → (table : Seen) (path : List ℕ) → AreAmong (fields_by E a table path xs) (fields_by F b table path ys)
    fields_among [] ys h table path = tt
    fields_among (x ∷ xs) [] h table path = absurd h
    fields_among (x ∷ xs) (y ∷ ys) (inl h) table path =
        both (field_events E a x table path) (field_events F b y table path) (fields_by E a table path xs) (fields_by F b table path ys)
        (subst (λ z. AreAmong (field_events E a x table path) (field_events F b z table path)) h.0
        (kind_among x.kind x.required x.slot table (field_path path (if x.deprecated then x.name ++ codes " (deprecated)" else x.name))))
        (fields_among xs ys h.1 table path)
    fields_among (x ∷ xs) (y ∷ ys) (inr h) table path =
        more (fields_by E a table path (x ∷ xs)) (fields_by F b table path ys) (field_events F b y table path) (fields_among (x ∷ xs) ys h table path)

    table_among : (x y : TableShape) → TableWithin x y → (path : List ℕ) (r : Result Seen (List ℕ)) → AreAmong (table_by E a x path r) (table_by F b y path r)
    table_among x y h path (Ok table) =
        inl (ap (λ n. line (table_line path n)) h.name, fields_among x.fields y.fields h.fields table path)
    table_among x y h path (Err w) = inl (refl, tt)

    shape_among : (o p : Option TableShape) → TablesWithin o p → (S : List ℕ) (f : ℕ) (path : List ℕ) → AreAmong (shape_by E a o S f path) (shape_by F b p S f path)
    shape_among None None h S f path = tt
    shape_among None (Some y) h S f path = absurd h
    shape_among (Some x) None h S f path = absurd h
    shape_among (Some x) (Some y) h S f path = table_among x y h path (table_at S f)

  events_among : (left : ℕ) → Fewer (events a left) (events b left)
  unfolding events
  events_among zero i S f path = inl (refl, tt)
  events_among (suc left) i S f path =
      subst (λ es. AreAmong es (events b (suc left) i S f path)) (sym (shape_is (events a left) a (slice_get a.tables.items i) S f path))
      (subst (AreAmong (shape_by (events a left) a (option_map table_shape (slice_get a.tables.items i)) S f path)) (sym (shape_is (events b left) b (slice_get b.tables.items i) S f path))
      (shape_among (events a left) (events b left) (events_among left) _ _ (within.tables i) S f path))

-- ---- schemas

shapes_at : {A B C : Type 0} (f : A → C) (g : B → C) (xs : List A) (ys : List B) (i : ℕ) → map f xs ≡ map g ys → option_map f (slice_get xs i) ≡ option_map g (slice_get ys i)
shapes_at f g xs ys i e = sym (slice_get-map f xs i) ∙ ap (λ l. slice_get l i) e ∙ slice_get-map g ys i

fields_within : (o : Option Body) (b : Body) → AreAmong (map field_shown (shared_in o b)) (fields_shown b)
fields_within o (body.Table t) = shared_among _ t.fields.items
fields_within o (body.Struct s) = tt
fields_within o (body.Enum e) = tt
fields_within o (body.Union u) = tt

parts_within : (o : Option Body) (b : Body) → AreAmong (map field_in_struct (shared_parts_in o b)) (struct_fields_shown b)
parts_within o (body.Table t) = tt
parts_within o (body.Struct s) = parts_shared_among _ s.fields.items
parts_within o (body.Enum e) = tt
parts_within o (body.Union u) = tt

structs_within : (others : List Declared) (o : Option Declared) → StructsWithin (option_map (struct_shared others) o) (option_map struct_shown o)
structs_within others None = tt
structs_within others (Some d) =
    record { name = refl; size = refl; parts = parts_within (other_body others d) d.body }

tables_within : (others : List Declared) (o : Option Declared) → TablesWithin (option_map (table_shared others) o) (option_map table_shown o)
tables_within others None = tt
tables_within others (Some d) = record { name = refl; fields = fields_within (other_body others d) d.body }

both_ways : {A : Type 0} (P : A → A → Type 0) (x y u v : A) → x ≡ u → y ≡ v → P u v → P x y
both_ways P x y u v e f p = subst (λ z. P z y) (sym e) (subst (P u) (sym f) p)

pub shared_lines_are_shown : SharedLinesAreShown
shared_lines_are_shown schema other i all less shown shared S =
    let ds = schema.declarations.items in
    let es = other.declarations.items in
    let within : Within less all = record {
      enums = λ k.
          shapes_at enum_shape enum_shown less.enums.items ds k shared.enums_are
          ∙ sym (shapes_at enum_shape enum_shown all.enums.items ds k shown.enums_are);
      structs = λ k.
          both_ways StructsWithin _ _ (option_map (struct_shared es) (slice_get ds k)) (option_map struct_shown (slice_get ds k))
          (shapes_at struct_shape (struct_shared es) less.structs.items ds k shared.structs_are)
          (shapes_at struct_shape struct_shown all.structs.items ds k shown.structs_are)
          (structs_within es (slice_get ds k));
      unions = λ k.
          shapes_at union_shape union_shown less.unions.items ds k shared.unions_are
          ∙ sym (shapes_at union_shape union_shown all.unions.items ds k shown.unions_are);
      tables = λ k.
          both_ways TablesWithin _ _ (option_map (table_shared es) (slice_get ds k)) (option_map table_shown (slice_get ds k))
          (shapes_at table_shape (table_shared es) less.tables.items ds k shared.tables_are)
          (shapes_at table_shape table_shown all.tables.items ds k shown.tables_are)
          (tables_within es (slice_get ds k));
      tags = shared.tags_need_values ∙ sym shown.tags_need_values;
    } in
    subst (λ r. AreAmong (events less greatest_depth less.root S 0 (codes "root")) (events all greatest_depth r S 0 (codes "root"))) (shared.root_is ∙ sym shown.root_is)
    (events_among less all within greatest_depth less.root S 0 (codes "root"))
