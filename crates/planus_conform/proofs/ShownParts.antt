-- Dumps by two schemas whose parts are related show the same.
use Rattle.std.proofs.Common.{◌≡◌, ℕ, zero, suc, ◌+◌, ◌*◌, Bool, true, false, List, [], ◌∷◌, ◌++◌, length, drop, refl, sym, ap, ◌∙◌, Option, Some, None, slice_get, codes}
use Rattle.std.specs.Prelude.{◌==◌, if◌then◌else◌, nat_le, slice_index, Result, Ok, Err}
use Rattle.std.specs.Int.{w32}
use Rattle.planus_read.specs.Tables.{Slot}
use Rattle.planus_read.specs.declared.errors.ErrorKind.TheVariants.{InvalidOffset}
use Rattle.planus_dump.specs.Answers.{Seen, SeenItems, SeenUnion, SeenUnions, bits_at, lone_tag, table_at, vector_at, union_at, unions_at}
use Rattle.planus_dump.specs.Events.{Event, line, TableEvents, fault_event, absent_events, wrong_tag, stride_of, enum_events, enum_size, struct_size, fixed_size, fixed_events, values_events, counted_events, structs, greatest_nesting, value_events, led_events, fixed_list_events, item_events, items_events, list_events, buffer_events, nested_events, member_events, union_events, union_field_events, union_items_events, unions_events, kind_events, events}
use Rattle.planus_dump.specs.Lines.{field_path, item_path, table_line, list_line, union_line, unions_line, struct_line}
use Rattle.planus_dump.specs.Tests.{fault_text, answered, byte_list_tests, content_at}
use Rattle.planus_dump.specs.Shapes.{FieldShape, TableShape, VariantShape, StructFieldShape, StructShape}
use Rattle.planus_dump.specs.declared.schemas.Item.{Item}
use Rattle.planus_dump.specs.declared.schemas.Item.TheVariants as item
use Rattle.planus_dump.specs.declared.schemas.Kind.{Kind}
use Rattle.planus_dump.specs.declared.schemas.Kind.TheVariants as kind
use Rattle.planus_dump.specs.declared.schemas.Schema.{Schema}
use Rattle.planus_inspect.specs.Shown.{scalar_fixed, scalar_kind, scalar_list, base_fixed, one_kind, list_kind, kind_of, member_kind, scalar_number}
use Rattle.planus_schema.specs.declared.scalar.Scalar.{Scalar}
use Rattle.planus_schema.specs.declared.scalar.Scalar.TheVariants as scalar
use Rattle.planus_schema.specs.declared.schema.Base.{Base}
use Rattle.planus_schema.specs.declared.schema.Base.TheVariants as base
use Rattle.planus_schema.specs.declared.schema.FieldType.{FieldType}
use Rattle.planus_conform.specs.Matching.{Matches}
use Rattle.planus_conform.specs.Types.{same_base, same_truth, same_type}
use Rattle.planus_conform.proofs.Parts.{both_true, is_index_some, same_scalars}
use Rattle.planus_conform.proofs.EventsByShapes.{enum_by, enum_is, enum_size_by, enum_size_is, struct_size_by, struct_size_is, parts_by, struct_by, struct_is, variant_by, union_by, union_is, fields_by, table_by, shape_by, shape_is}
use Rattle.planus_conform.proofs.Related.{PartAlike, PartsAlike, StructsAlike, MembersAlike, UnionsAlike, NestedAlike, FieldAlike, FieldsAlike, TableAlike, TablesAlike, Related}

both : {A : Type 0} (a b c d : List A) → a ≡ b → c ≡ d → a ++ c ≡ b ++ d
both a b c d e f = ap (λ x. x ++ c) e ∙ ap (λ x. b ++ x) f

module _ (m : List (Option ℕ)) where
  abbrev Same : TableEvents → TableEvents → Type 0
  Same E F = (i j : ℕ) → Matches m i j → (S : List ℕ) (f : ℕ) (path : List ℕ) → E i S f path ≡ F j S f path

  -- ---- values of a fixed size

  module _ (a b : Schema) (related : Related m a b) where
    enum_same : (i j : ℕ) → Matches m i j → (S : List ℕ) (f : ℕ) (path : List ℕ) → enum_events (slice_get a.enums.items i) S f path ≡ enum_events (slice_get b.enums.items j) S f path
    enum_same i j e S f path =
        enum_is (slice_get a.enums.items i) S f path ∙ ap (λ o. enum_by o S f path) (related.enums i j e)
        ∙ sym (enum_is (slice_get b.enums.items j) S f path)

    enum_size_same : (i j : ℕ) → Matches m i j → enum_size (slice_get a.enums.items i) ≡ enum_size (slice_get b.enums.items j)
    enum_size_same i j e =
        enum_size_is (slice_get a.enums.items i) ∙ ap enum_size_by (related.enums i j e)
        ∙ sym (enum_size_is (slice_get b.enums.items j))

    by_size : (o p : Option StructShape) → StructsAlike m o p → struct_size_by o ≡ struct_size_by p
    by_size None None h = refl
    by_size None (Some y) h = absurd h
    by_size (Some x) None h = absurd h
    by_size (Some x) (Some y) h = h.size

    struct_size_same : (i j : ℕ) → Matches m i j → struct_size (slice_get a.structs.items i) ≡ struct_size (slice_get b.structs.items j)
    struct_size_same i j e =
        struct_size_is (slice_get a.structs.items i) ∙ by_size _ _ (related.structs i j e)
        ∙ sym (struct_size_is (slice_get b.structs.items j))

    scalar_size_same : (s : Scalar) → fixed_size a (scalar_fixed s) ≡ fixed_size b (scalar_fixed s)
    scalar_size_same scalar.Bool = refl
    scalar_size_same scalar.Byte = refl
    scalar_size_same scalar.UByte = refl
    scalar_size_same scalar.Short = refl
    scalar_size_same scalar.UShort = refl
    scalar_size_same scalar.Int = refl
    scalar_size_same scalar.UInt = refl
    scalar_size_same scalar.Long = refl
    scalar_size_same scalar.ULong = refl
    scalar_size_same scalar.Float = refl
    scalar_size_same scalar.Double = refl

    size_same : (x y : Base) → same_base m x y ≡ true → fixed_size a (base_fixed x) ≡ fixed_size b (base_fixed y)
    size_same (base.Scalar s) (base.Scalar t) e =
        scalar_size_same s ∙ ap (λ u. fixed_size b (scalar_fixed u)) (same_scalars s t e)
    size_same base.Text base.Text e = refl
    size_same (base.Enum i) (base.Enum j) e = enum_size_same i j (is_index_some _ j e)
    size_same (base.Struct i) (base.Struct j) e = struct_size_same i j (is_index_some _ j e)
    size_same (base.Table i) (base.Table j) e = refl
    size_same (base.Union i) (base.Union j) e = refl
    size_same x y e = absurd cc

    module _ (T U : TableEvents) (same : Same T U) where
      scalar_same : (s : Scalar) (S : List ℕ) (f : ℕ) (path : List ℕ) → fixed_events a T (scalar_fixed s) S f path ≡ fixed_events b U (scalar_fixed s) S f path
      scalar_same scalar.Bool S f path = refl
      scalar_same scalar.Byte S f path = refl
      scalar_same scalar.UByte S f path = refl
      scalar_same scalar.Short S f path = refl
      scalar_same scalar.UShort S f path = refl
      scalar_same scalar.Int S f path = refl
      scalar_same scalar.UInt S f path = refl
      scalar_same scalar.Long S f path = refl
      scalar_same scalar.ULong S f path = refl
      scalar_same scalar.Float S f path = refl
      scalar_same scalar.Double S f path = refl

      fixed_same : (x y : Base) → same_base m x y ≡ true → (S : List ℕ) (f : ℕ) (path : List ℕ) → fixed_events a T (base_fixed x) S f path ≡ fixed_events b U (base_fixed y) S f path
      fixed_same (base.Scalar s) (base.Scalar t) e S f path =
          scalar_same s S f path ∙ ap (λ u. fixed_events b U (scalar_fixed u) S f path) (same_scalars s t e)
      fixed_same base.Text base.Text e S f path = refl
      fixed_same (base.Enum i) (base.Enum j) e S f path = enum_same i j (is_index_some _ j e) S f path
      fixed_same (base.Struct i) (base.Struct j) e S f path = same i j (is_index_some _ j e) S f path
      fixed_same (base.Table i) (base.Table j) e S f path = refl
      fixed_same (base.Union i) (base.Union j) e S f path = refl
      fixed_same x y e S f path = absurd cc

      values_same : (x y : Base) → same_base m x y ≡ true → (S : List ℕ) (f : ℕ) (path : List ℕ) (n k : ℕ) → values_events a T (base_fixed x) S f path n k ≡ values_events b U (base_fixed y) S f path n k
      values_same x y e S f path zero k = refl
      values_same x y e S f path (suc n) k =
          both (fixed_events a T (base_fixed x) S (f + k * fixed_size a (base_fixed x)) (item_path path k))
          (fixed_events b U (base_fixed y) S (f + k * fixed_size b (base_fixed y)) (item_path path k)) _ _
          (fixed_same x y e S (f + k * fixed_size a (base_fixed x)) (item_path path k)
          ∙ ap (λ z. fixed_events b U (base_fixed y) S (f + k * z) (item_path path k)) (size_same x y e))
          (values_same x y e S f path n (k + 1))

      counted_same : (o : Option ℕ) (x y : Base) → same_base m x y ≡ true → (S : List ℕ) (f : ℕ) (path : List ℕ) → counted_events a T o (base_fixed x) S f path ≡ counted_events b U o (base_fixed y) S f path
      counted_same None x y e S f path = fixed_same x y e S f path
      counted_same (Some n) x y e S f path = values_same x y e S f path n 0

      part_same : (x y : StructFieldShape) → PartAlike m x y → (S path : List ℕ) → counted_events a T x.count x.fixed S x.distance (field_path path x.name) ≡ counted_events b U y.count y.fixed S y.distance (field_path path y.name)
      part_same x y h S path =
          ap (λ k. counted_events a T x.count k S x.distance (field_path path x.name)) h.x_is
          ∙ counted_same x.count h.base_x h.base_y h.same S x.distance (field_path path x.name)
          ∙ ap (λ k. counted_events b U x.count k S x.distance (field_path path x.name)) (sym h.y_is)
          ∙ ap (λ c. counted_events b U c y.fixed S x.distance (field_path path x.name)) h.count
          ∙ ap (λ d. counted_events b U y.count y.fixed S d (field_path path x.name)) h.distance
          ∙ ap (λ n. counted_events b U y.count y.fixed S y.distance (field_path path n)) h.name

      parts_same : (xs ys : List StructFieldShape) → PartsAlike m xs ys → (S path : List ℕ) → parts_by a T xs S path ≡ parts_by b U ys S path
      parts_same [] [] h S path = refl
      parts_same [] (y ∷ ys) h S path = absurd h
      parts_same (x ∷ xs) [] h S path = absurd h
      parts_same (x ∷ xs) (y ∷ ys) h S path =
          both _ _ _ _ (part_same x y h.0 S path) (parts_same xs ys h.1 S path)

      struct_same : (o p : Option StructShape) → StructsAlike m o p → (S : List ℕ) (f : ℕ) (path : List ℕ) → struct_by a T o S f path ≡ struct_by b U p S f path
      struct_same None None h S f path = refl
      struct_same None (Some y) h S f path = absurd h
      struct_same (Some x) None h S f path = absurd h
      struct_same (Some x) (Some y) h S f path =
          ap (λ r. if nat_le (f + x.size) (length S) then line (struct_line path x.name) ∷ r else fault_event path (fault_text InvalidOffset) ∷ []) (parts_same x.fields y.fields h.parts (drop f S) path)
          ∙ ap (λ n. if nat_le (f + n) (length S) then line (struct_line path x.name) ∷ parts_by b U y.fields (drop f S) path else fault_event path (fault_text InvalidOffset) ∷ []) h.size
          ∙ ap (λ w. if nat_le (f + y.size) (length S) then line (struct_line path w) ∷ parts_by b U y.fields (drop f S) path else fault_event path (fault_text InvalidOffset) ∷ []) h.name

    structs_same : (left : ℕ) → Same (structs a left) (structs b left)
    unfolding structs
    structs_same zero i j e S f path = refl
    structs_same (suc left) i j e S f path =
        struct_is a (structs a left) (slice_get a.structs.items i) S f path
        ∙ struct_same (structs a left) (structs b left) (structs_same left) _ _ (related.structs i j e) S f path
        ∙ sym (struct_is b (structs b left) (slice_get b.structs.items j) S f path)

    value_same : (x y : Base) → same_base m x y ≡ true → (S : List ℕ) (f : ℕ) (path : List ℕ) → value_events a (base_fixed x) S f path ≡ value_events b (base_fixed y) S f path
    value_same x y e S f path =
        fixed_same (structs a greatest_nesting) (structs b greatest_nesting) (structs_same greatest_nesting) x y e S f path

    fixed_list_same : (x y : Base) → same_base m x y ≡ true → (path S : List ℕ) (f : ℕ) → fixed_list_events a (base_fixed x) path (vector_at (fixed_size a (base_fixed x)) S f) ≡ fixed_list_events b (base_fixed y) path (vector_at (fixed_size b (base_fixed y)) S f)
    fixed_list_same x y e path S f =
        by_result (vector_at (fixed_size a (base_fixed x)) S f)
        ∙ ap (λ z. fixed_list_events b (base_fixed y) path (vector_at z S f)) (size_same x y e)
      where
        by_result : (r : Result SeenItems (List ℕ)) → fixed_list_events a (base_fixed x) path r ≡ fixed_list_events b (base_fixed y) path r
        by_result (Ok items) =
            ap (λ r. line (list_line path items.count) ∷ r)
            (values_same (structs a greatest_nesting) (structs b greatest_nesting) (structs_same greatest_nesting) x y e items.bytes 0 path items.count 0)
        by_result (Err w) = refl

    led_same : (i j : ℕ) → same_base m (base.Struct i) (base.Struct j) ≡ true → (S : List ℕ) (f : ℕ) (path : List ℕ) (r : Result ℕ (List ℕ)) → led_events a i S f path r ≡ led_events b j S f path r
    led_same i j e S f path (Ok n) = value_same (base.Struct i) (base.Struct j) e S (f + n) path
    led_same i j e S f path (Err w) = refl

    wrong_same : (table : Seen) (k : ℕ) → wrong_tag a table k ≡ wrong_tag b table k
    wrong_same table k = ap (λ t. if t then lone_tag table k else None) related.tags

    at_place : (r : Bool) (path : List ℕ) (d : ℕ) (x y : List Event) → x ≡ y → (if d == 0 then absent_events r path else x) ≡ (if d == 0 then absent_events r path else y)
    at_place r path d x y e = ap (λ z. if d == 0 then absent_events r path else z) e

    -- ---- what has parts

    module _ (E F : TableEvents) (same : Same E F) where
      items_same : (x y : Item) → stride_of x ≡ stride_of y → ((S : List ℕ) (f : ℕ) (path : List ℕ) → item_events E x S f path ≡ item_events F y S f path)
          → (S path : List ℕ) (n k : ℕ) → items_events E x S path n k ≡ items_events F y S path n k
      items_same x y e h S path zero k = refl
      items_same x y e h S path (suc n) k =
          both _ _ _ _
          (h S (k * stride_of x) (item_path path k) ∙ ap (λ z. item_events F y S (k * z) (item_path path k)) e)
          (items_same x y e h S path n (k + 1))

      list_same : (x y : Item) → stride_of x ≡ stride_of y → ((S : List ℕ) (f : ℕ) (path : List ℕ) → item_events E x S f path ≡ item_events F y S f path)
          → (path S : List ℕ) (f : ℕ) → list_events E x path (vector_at (stride_of x) S f) ≡ list_events F y path (vector_at (stride_of y) S f)
      list_same x y e h path S f =
          by_result (vector_at (stride_of x) S f) ∙ ap (λ z. list_events F y path (vector_at z S f)) e
        where
          by_result : (r : Result SeenItems (List ℕ)) → list_events E x path r ≡ list_events F y path r
          by_result (Ok items) =
              ap (λ r. line (list_line path items.count) ∷ r) (items_same x y e h items.bytes path items.count 0)
          by_result (Err w) = refl

      -- one kind in one slot shows the same
      abbrev Alike : Kind → Kind → Type 0
      Alike x y = (r : Bool) (k : ℕ) (table : Seen) (path : List ℕ) → kind_events E a r x k table path ≡ kind_events F b r y k table path

      list_at : (x y : Item) → stride_of x ≡ stride_of y → ((S : List ℕ) (f : ℕ) (path : List ℕ) → item_events E x S f path ≡ item_events F y S f path) → Alike (kind.List x) (kind.List y)
      list_at x y e h r k table path =
          at_place r path (Slot table.slots k) _ _ (list_same x y e h path table.object (Slot table.slots k))

      fixed_at : (x y : Base) → same_base m x y ≡ true → Alike (kind.Fixed (base_fixed x)) (kind.Fixed (base_fixed y))
      fixed_at x y e r k table path =
          at_place r path (Slot table.slots k) _ _ (value_same x y e table.object (Slot table.slots k) path)

      fixed_list_at : (x y : Base) → same_base m x y ≡ true → Alike (kind.FixedList (base_fixed x)) (kind.FixedList (base_fixed y))
      fixed_list_at x y e r k table path =
          at_place r path (Slot table.slots k) _ _ (fixed_list_same x y e path table.object (Slot table.slots k))

      table_at_place : (i j : ℕ) → Matches m i j → Alike (kind.One (item.Table i)) (kind.One (item.Table j))
      table_at_place i j e r k table path =
          at_place r path (Slot table.slots k) _ _ (same i j e table.object (Slot table.slots k) path)

      -- ---- buffers in byte vectors

      buffer_same : (i j : ℕ) → Matches m i j → (path content : List ℕ) (r : Result Seen (List ℕ)) → buffer_events E i path content r ≡ buffer_events F j path content r
      buffer_same i j e path content (Ok table) = same i j e content 0 path
      buffer_same i j e path content (Err w) = refl

      nested_same : (i j : ℕ) → Matches m i j → (path : List ℕ) (r : Result (List ℕ) (List ℕ)) → nested_events E i path r ≡ nested_events F j path r
      nested_same i j e path (Ok content) = buffer_same i j e path content (table_at content 0)
      nested_same i j e path (Err w) = refl

      nested_at : (i j : ℕ) → Matches m i j → Alike (kind.Nested i) (kind.Nested j)
      nested_at i j e r k table path =
          at_place r path (Slot table.slots k) _ _
          (nested_same i j e path (answered (byte_list_tests table.object (Slot table.slots k)) (content_at table.object (Slot table.slots k))))

      -- ---- unions

      member_same : (x y : Base) → same_base m x y ≡ true → (S : List ℕ) (f : ℕ) (path : List ℕ) → member_events E a (member_kind x) S f path ≡ member_events F b (member_kind y) S f path
      member_same (base.Table i) (base.Table j) e S f path = same i j (is_index_some _ j e) S f path
      member_same (base.Struct i) (base.Struct j) e S f path = led_same i j e S f path (bits_at w32 S f)
      member_same (base.Scalar s) (base.Scalar t) e S f path = refl
      member_same base.Text base.Text e S f path = refl
      member_same (base.Enum i) (base.Enum j) e S f path = refl
      member_same (base.Union i) (base.Union j) e S f path = refl
      member_same x y e S f path = absurd cc

      variant_same : (tag : ℕ) (S : List ℕ) (f : ℕ) (path : List ℕ) (o p : Option VariantShape) → MembersAlike m o p → variant_by E a tag S f path o ≡ variant_by F b tag S f path p
      variant_same tag S f path None None h = refl
      variant_same tag S f path None (Some y) h = absurd h
      variant_same tag S f path (Some x) None h = absurd h
      variant_same tag S f path (Some x) (Some y) h =
          ap (λ n. line (union_line path tag n) ∷ member_events E a x.kind S f path) h.name
          ∙ ap (λ r. line (union_line path tag y.name) ∷ r)
          (ap (λ k. member_events E a k S f path) h.x_is ∙ member_same h.base_x h.base_y h.same S f path ∙ ap (λ k. member_events F b k S f path) (sym h.y_is))

      union_by_same : (o p : Option (List VariantShape)) → UnionsAlike m o p → (tag : ℕ) (S : List ℕ) (f : ℕ) (path : List ℕ) → union_by E a o tag S f path ≡ union_by F b p tag S f path
      union_by_same None None h tag S f path = refl
      union_by_same None (Some ys) h tag S f path = absurd h
      union_by_same (Some xs) None h tag S f path = absurd h
      union_by_same (Some xs) (Some ys) h tag S f path = variant_same tag S f path _ _ (h tag)

      union_same : (i j : ℕ) → Matches m i j → (tag : ℕ) (S : List ℕ) (f : ℕ) (path : List ℕ) → union_events E a (slice_get a.unions.items i) tag S f path ≡ union_events F b (slice_get b.unions.items j) tag S f path
      union_same i j e tag S f path =
          union_is E a (slice_get a.unions.items i) tag S f path
          ∙ union_by_same _ _ (related.unions i j e) tag S f path
          ∙ sym (union_is F b (slice_get b.unions.items j) tag S f path)

      union_field_same : (i j : ℕ) → Matches m i j → (r : Bool) (S path : List ℕ) (o : Option ℕ) (u : Result (Option SeenUnion) (List ℕ)) → union_field_events E a r i S path o u ≡ union_field_events F b r j S path o u
      union_field_same i j e r S path o (Ok None) = refl
      union_field_same i j e r S path o (Ok (Some u)) = union_same i j e u.tag S u.offset path
      union_field_same i j e r S path o (Err w) = refl

      union_items_same : (i j : ℕ) → Matches m i j → (items : SeenUnions) (path : List ℕ) (n k : ℕ) → union_items_events E a i items path n k ≡ union_items_events F b j items path n k
      union_items_same i j e items path zero k = refl
      union_items_same i j e items path (suc n) k =
          both _ _ _ _
          (union_same i j e (slice_index items.tags k) items.references (k * 4) (item_path path k))
          (union_items_same i j e items path n (k + 1))

      unions_same : (i j : ℕ) → Matches m i j → (r : Bool) (path : List ℕ) (u : Result (Option SeenUnions) (List ℕ)) → unions_events E a r i path u ≡ unions_events F b r j path u
      unions_same i j e r path (Ok None) = refl
      unions_same i j e r path (Ok (Some items)) =
          ap (λ z. line (unions_line path items.count) ∷ z) (union_items_same i j e items path items.count 0)
      unions_same i j e r path (Err w) = refl

      union_at_slot : (i j : ℕ) → Matches m i j → Alike (kind.Union i) (kind.Union j)
      union_at_slot i j e r k table path =
          ap (λ o. union_field_events E a r i table.object path o (union_at table k)) (wrong_same table k)
          ∙ union_field_same i j e r table.object path (wrong_tag b table k) (union_at table k)

      unions_at_slot : (i j : ℕ) → Matches m i j → Alike (kind.UnionVector i) (kind.UnionVector j)
      unions_at_slot i j e r k table path = unions_same i j e r path (unions_at table k)

      -- ---- fields

      one_scalar : (s : Scalar) → Alike (scalar_kind s) (scalar_kind s)
      one_scalar scalar.Bool r k table path = refl
      one_scalar scalar.Byte r k table path = refl
      one_scalar scalar.UByte r k table path = refl
      one_scalar scalar.Short r k table path = refl
      one_scalar scalar.UShort r k table path = refl
      one_scalar scalar.Int r k table path = refl
      one_scalar scalar.UInt r k table path = refl
      one_scalar scalar.Long r k table path = refl
      one_scalar scalar.ULong r k table path = refl
      one_scalar scalar.Float r k table path = refl
      one_scalar scalar.Double r k table path = refl

      number_list_at : (s : Scalar) → Alike (kind.List (item.Number (scalar_number s))) (kind.List (item.Number (scalar_number s)))
      number_list_at s r k table path =
          list_at (item.Number (scalar_number s)) (item.Number (scalar_number s)) refl (λ S f p. refl) r k table path

      scalars : (s : Scalar) → Alike (scalar_list s) (scalar_list s)
      scalars scalar.Bool r k table path = list_at item.Bool item.Bool refl (λ S f p. refl) r k table path
      scalars scalar.Byte r k table path = number_list_at scalar.Byte r k table path
      scalars scalar.UByte r k table path = refl
      scalars scalar.Short r k table path = number_list_at scalar.Short r k table path
      scalars scalar.UShort r k table path = number_list_at scalar.UShort r k table path
      scalars scalar.Int r k table path = number_list_at scalar.Int r k table path
      scalars scalar.UInt r k table path = number_list_at scalar.UInt r k table path
      scalars scalar.Long r k table path = number_list_at scalar.Long r k table path
      scalars scalar.ULong r k table path = number_list_at scalar.ULong r k table path
      scalars scalar.Float r k table path = fixed_list_at (base.Scalar scalar.Float) (base.Scalar scalar.Float) refl r k table path
      scalars scalar.Double r k table path = fixed_list_at (base.Scalar scalar.Double) (base.Scalar scalar.Double) refl r k table path

      one_same : (x y : Base) → same_base m x y ≡ true → Alike (one_kind x) (one_kind y)
      one_same (base.Scalar s) (base.Scalar t) e r k table path =
          one_scalar s r k table path ∙ ap (λ u. kind_events F b r (scalar_kind u) k table path) (same_scalars s t e)
      one_same base.Text base.Text e r k table path = refl
      one_same (base.Enum i) (base.Enum j) e r k table path = fixed_at (base.Enum i) (base.Enum j) e r k table path
      one_same (base.Struct i) (base.Struct j) e r k table path = fixed_at (base.Struct i) (base.Struct j) e r k table path
      one_same (base.Table i) (base.Table j) e r k table path = table_at_place i j (is_index_some _ j e) r k table path
      one_same (base.Union i) (base.Union j) e r k table path = union_at_slot i j (is_index_some _ j e) r k table path
      one_same x y e r k table path = absurd cc

      many_same : (x y : Base) → same_base m x y ≡ true → Alike (list_kind x) (list_kind y)
      many_same (base.Scalar s) (base.Scalar t) e r k table path =
          scalars s r k table path ∙ ap (λ u. kind_events F b r (scalar_list u) k table path) (same_scalars s t e)
      many_same base.Text base.Text e r k table path = list_at item.Text item.Text refl (λ S f p. refl) r k table path
      many_same (base.Enum i) (base.Enum j) e r k table path = fixed_list_at (base.Enum i) (base.Enum j) e r k table path
      many_same (base.Struct i) (base.Struct j) e r k table path = fixed_list_at (base.Struct i) (base.Struct j) e r k table path
      many_same (base.Table i) (base.Table j) e r k table path =
          list_at (item.Table i) (item.Table j) refl (λ S f p. same i j (is_index_some _ j e) S f p) r k table path
      many_same (base.Union i) (base.Union j) e r k table path = unions_at_slot i j (is_index_some _ j e) r k table path
      many_same x y e r k table path = absurd cc

      kind_same : (t u : FieldType) → same_type m t u ≡ true → (o p : Option ℕ) → NestedAlike m o p → Alike (kind_of t o) (kind_of u p)
      kind_same t u e (Some i) (Some j) h r k table path = nested_at i j h r k table path
      kind_same t u e None (Some j) h r k table path = absurd h
      kind_same t u e (Some i) None h r k table path = absurd h
      kind_same t u e None None h r k table path =
          let parts = both_true (same_truth t.vector u.vector) (same_base m t.base u.base) e in
          by_vector parts.1 t.vector u.vector parts.0
        where
          by_vector : same_base m t.base u.base ≡ true → (v w : Bool) → same_truth v w ≡ true
              → kind_events E a r (if v then list_kind t.base else one_kind t.base) k table path ≡ kind_events F b r (if w then list_kind u.base else one_kind u.base) k table path
          by_vector s true true e = many_same t.base u.base s r k table path
          by_vector s true false e = absurd cc
          by_vector s false true e = absurd cc
          by_vector s false false e = one_same t.base u.base s r k table path

      abbrev labelled : List ℕ → Bool → List ℕ
      labelled name deprecated = if deprecated then name ++ codes " (deprecated)" else name

      field_same : (x y : FieldShape) → FieldAlike m x y → (table : Seen) (path : List ℕ)
          → kind_events E a x.required x.kind x.slot table (field_path path (labelled x.name x.deprecated)) ≡ kind_events F b y.required y.kind y.slot table (field_path path (labelled y.name y.deprecated))
      field_same x y h table path =
          let p = field_path path (labelled x.name x.deprecated) in
          ap (λ z. kind_events E a x.required z x.slot table p) h.x_is
          ∙ kind_same h.type_x h.type_y h.same h.root_x h.root_y h.nested x.required x.slot table p
          ∙ ap (λ z. kind_events F b x.required z x.slot table p) (sym h.y_is)
          ∙ ap (λ z. kind_events F b z y.kind x.slot table p) h.required
          ∙ ap (λ z. kind_events F b y.required y.kind z table p) h.slot
          ∙ ap (λ z. kind_events F b y.required y.kind y.slot table (field_path path (labelled z x.deprecated))) h.name
          ∙ ap (λ z. kind_events F b y.required y.kind y.slot table (field_path path (labelled y.name z))) h.deprecated

      fields_same : (xs ys : List FieldShape) → FieldsAlike m xs ys → (table : Seen) (path : List ℕ) → fields_by E a table path xs ≡ fields_by F b table path ys
      fields_same [] [] h table path = refl
      fields_same [] (y ∷ ys) h table path = absurd h
      fields_same (x ∷ xs) [] h table path = absurd h
      fields_same (x ∷ xs) (y ∷ ys) h table path =
          both _ _ _ _ (field_same x y h.0 table path) (fields_same xs ys h.1 table path)

      table_same : (x y : TableShape) → TableAlike m x y → (path : List ℕ) (r : Result Seen (List ℕ)) → table_by E a x path r ≡ table_by F b y path r
      table_same x y h path (Ok table) =
          ap (λ n. line (table_line path n) ∷ fields_by E a table path x.fields) h.name
          ∙ ap (λ r. line (table_line path y.name) ∷ r) (fields_same x.fields y.fields h.fields table path)
      table_same x y h path (Err w) = refl

      shape_same : (o p : Option TableShape) → TablesAlike m o p → (S : List ℕ) (f : ℕ) (path : List ℕ) → shape_by E a o S f path ≡ shape_by F b p S f path
      shape_same None None h S f path = refl
      shape_same None (Some y) h S f path = absurd h
      shape_same (Some x) None h S f path = absurd h
      shape_same (Some x) (Some y) h S f path = table_same x y h path (table_at S f)

    pub events_same : (left : ℕ) → Same (events a left) (events b left)
    unfolding events
    events_same zero i j e S f path = refl
    events_same (suc left) i j e S f path =
        shape_is (events a left) a (slice_get a.tables.items i) S f path
        ∙ shape_same (events a left) (events b left) (events_same left) _ _ (related.tables i j e) S f path
        ∙ sym (shape_is (events b left) b (slice_get b.tables.items j) S f path)
