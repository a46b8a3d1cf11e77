-- The buffer of a run has no errors, if the schema fits.
use Rattle.std.proofs.Common.{◌≡◌, ◌≢◌, ℕ, zero, suc, ◌+◌, ◌-◌, ◌*◌, ◌<◌, ◌≤◌, ◌==◌, ◌||◌, List, [], ◌∷◌, length, map, drop, take, refl, sym, length-drop, ap, ◌∙◌, subst, arith, Option, Some, None, Result, Ok, Bool, true, false, ◌⊎◌, inl, inr}
use Rattle.std.specs.Option.{unwrap_or}
use Rattle.std.specs.Prelude.{if◌then◌else◌, max, slice_get, slice_index, nat_le, nat_lt, Vec}
use Rattle.std.specs.List.{AllByRecursion, list_all}
use Rattle.std.specs.Int.{Width, w8, w16, w32, byte_len, from_le_bytes, to_le_bytes}
use Rattle.std.specs.String.{string_bytes}
use Rattle.std.specs.declared.alloc.Global.{Global}
use Rattle.std.proofs.lemmas.Bool.{le-leb, eq-eqb, eqb-true}
use Rattle.std.proofs.lemmas.List.{drop-drop}
use Rattle.std.proofs.Math.Nat.{suc-mul, mul-le-mul_right}
use Rattle.planus_read.specs.Bytes.{Num, BytesStand, position_of}
use Rattle.planus_read.specs.Values as value
use Rattle.planus_read.specs.Values.{Value, Field, field_at, slot_count, vtable_size}
use Rattle.planus_read.specs.Stands.{Stands, at, at_both, ReferenceStands, FieldStands, TableStands}
use Rattle.planus_read.specs.Reading.{number, Leads, target, items_at, count_at, vtable_size_at, slots_of, table_clauses}
use Rattle.planus_read.specs.ReadsBack.{ReadsBack}
use Rattle.planus_read.specs.Tables.{Slot}
use Rattle.planus_read.specs.TableReading.{SlotReads}
use Rattle.planus_read.proofs.Reading.{num_inside, num_there, table_holds, number_of_signed, stood_inside}
use Rattle.planus_read.proofs.SliceLaws.{references_lead, bytes_in_slice, stands_in_slices, leads_in_slices}
use Rattle.planus_read.proofs.ListItems.{num_of_bytes}
use Rattle.planus_read.proofs.TableReading.{table_there, any_slot_reads, table_slot_bytes, slot_reads_whole}
use Rattle.planus.specs.Steps.{Step, FieldStep, text, bytes, numbers, refs, unions, table, number_field, struct_field, ref_field, tags_field, values_field}
use Rattle.planus.specs.Slots.{greatest_field}
use Rattle.planus.specs.Runs.{Finish, value_at, value_of, width_of, fits_width, numbers_value, table_of, field_of, all_of, union_of, distance_at, tags_distance, references_distance}
use Rattle.planus.specs.FinishHolds.{ValueHolds}
use Rattle.planus.proofs.Lists.{made_of}
use Rattle.planus.proofs.TableFields.{table_made}
use Rattle.planus_dump.specs.Lines.{item_path, field_path}
use Rattle.planus_dump.specs.Tests.{table_tests}
use Rattle.planus_dump.specs.Answers.{lone_tag, Seen, SeenItems, SeenUnion, SeenUnions, table_at, union_at, unions_at, tagged_union, union_vector_by, union_vector_at, some_of}
use Rattle.planus_dump.specs.Events.{Event, field_label, absent_events, no_union_events, wrong_tag, TableEvents, stride_of, variant_of, member_events, item_events, items_events, list_events, place_events, variant_events, union_events, union_field_events, union_items_events, unions_events, present, kind_events, fields_events, table_events, shape_events, events, leaf_events}
use Rattle.planus_dump.specs.Faults.{HaveNoFault, IsNoFault}
use Rattle.planus_dump.specs.Describes.{plain_size, plain_field_size, IsTextStep, IsByteListStep, held_at, IsItem, IsListOf, IsReferred, IsFieldOf, IsMember, IsVariantOf, IsTagged, IsUnion, IsVectorOfUnions, IsUnionVector, HasKind, IsTableOf, Describes}
use Rattle.planus_dump.specs.declared.schemas.Schema.{Schema}
use Rattle.planus_dump.specs.declared.schemas.TableSchema.{TableSchema}
use Rattle.planus_dump.specs.declared.schemas.FieldSchema.{FieldSchema}
use Rattle.planus_dump.specs.declared.schemas.VariantSchema.{VariantSchema}
use Rattle.planus_dump.specs.declared.schemas.VariantKind.{VariantKind}
use Rattle.planus_dump.specs.declared.schemas.VariantKind.TheVariants as member
use Rattle.planus_dump.specs.declared.schemas.Kind.{Kind}
use Rattle.planus_dump.specs.declared.schemas.Kind.TheVariants.{One, List as ListOf, Union, UnionVector, Bytes, Fixed, FixedList, Nested}
use Rattle.planus_dump.specs.declared.schemas.Item.{Item}
use Rattle.planus_dump.specs.declared.schemas.Item.TheVariants.{Text, Table}
use Rattle.planus_dump.specs.declared.values.Leaf.TheVariants.{Text as LeafText, Bytes as LeafBytes}
use Rattle.planus_dump.proofs.Matching.{all_pass, le_false, lt_false, eq_false}
use Rattle.planus_dump.proofs.Answering.{table_matches}
use Rattle.planus_dump.proofs.GoodSchemas.{all_append, all_at, HasTags}
use Rattle.planus_dump.proofs.Written.{list_width, IsNumber, field_number, SameSlot, same_slots, Held, value_held, lists_held, Referred, referred_at, Tagged, tagged_at}
use Rattle.planus_dump.proofs.Leaves.{plain_item_event, plain_field_event, plain_stride, reference_stride, text_event, byte_list_event, VectorIs, answered_vector, bytes_vector, answered_unions, byte_at}

absent_is : (required : Bool) (path : List ℕ) → required ≡ false → HaveNoFault (absent_events required path)
absent_is true path e = cc
absent_is false path e = tt

no_wrong_tag : (schema : Schema) (seen : Seen) (i : ℕ) (required : Bool) (path : List ℕ) → Slot seen.slots i ≡ 0 → HaveNoFault (absent_events required path)
    → HaveNoFault (no_union_events required path (wrong_tag schema seen i))
no_wrong_tag schema seen i required path slot h = by_schema schema.tags_need_values
  where
    test : (Slot seen.slots i == 0) ≡ true
    test = eq-eqb (Slot seen.slots i) 0 slot

    none : lone_tag seen i ≡ None
    none = rw test refl

    by_schema : (need : Bool) → HaveNoFault (no_union_events required path (if need then lone_tag seen i else None))
    by_schema true = subst (λ (o : Option ℕ). HaveNoFault (no_union_events required path o)) (sym none) h
    by_schema false = h

items_no_fault : (E : TableEvents) (item : Item) (S path : List ℕ) (n i : ℕ) → ((j : ℕ) → i ≤ j → j < i + n → HaveNoFault (item_events E item S (j * stride_of item) (item_path path j)))
    → HaveNoFault (items_events E item S path n i)
items_no_fault E item S path zero i each = tt
items_no_fault E item S path (suc n) i each =
    all_append IsNoFault (item_events E item S (i * stride_of item) (item_path path i)) (items_events E item S path n (i + 1))
    (each i (omega arith) (omega arith)) (items_no_fault E item S path n (i + 1) (λ j least below. each j (omega arith) (omega arith)))

list_no_fault : (E : TableEvents) (item : Item) (S : List ℕ) (f : ℕ) (path : List ℕ) → VectorIs (stride_of item) S f
    → ((j : ℕ) → j < count_at S f → HaveNoFault (item_events E item (drop (items_at S f) S) (j * stride_of item) (item_path path j)))
    → HaveNoFault (place_events E (ListOf item) S f path)
list_no_fault E item S f path v each =
    subst (λ (a : Result SeenItems (List ℕ)). HaveNoFault (list_events E item path a)) (sym v.is)
    (refl, items_no_fault E item (drop (items_at S f) S) path (count_at S f) 0 (λ j least below. each j (omega arith)))

plain_list_no_fault : (E : TableEvents) (item : Item) (size : ℕ) (S : List ℕ) (f : ℕ) (path : List ℕ) → plain_size item ≡ Some size → VectorIs size S f
    → HaveNoFault (place_events E (ListOf item) S f path)
plain_list_no_fault E item size S f path is v =
    let stride : stride_of item ≡ size = plain_stride item size is in
    list_no_fault E item S f path (subst (λ n. VectorIs n S f) (sym stride) v)
    (λ j below. plain_item_event E item size (drop (items_at S f) S) (j * stride_of item) (item_path path j) is (inside_item j below stride))
  where
    inside_item : (j : ℕ) → j < count_at S f → stride_of item ≡ size → j * stride_of item + size ≤ length (drop (items_at S f) S)
    inside_item j below stride =
        let whole : items_at S f + count_at S f * size ≤ length S = v.inside in
        let next : suc j ≤ count_at S f = omega arith in
        let more : suc j * size ≤ count_at S f * size = mul-le-mul_right size next in
        subst (λ n. j * n + size ≤ length (drop (items_at S f) S)) (sym stride) (omega (arith, length-drop (items_at S f) S, suc-mul j size))

module _ (steps : List Step) (given : Finish) (values : AllByRecursion (ValueHolds steps given) given.places) (E : TableEvents) (IsTable : ℕ → ℕ → Type 0)
    (tables : (index n d start f : ℕ) (path : List ℕ) → IsTable index n → value_at given.places n ≡ Some d → Leads given.bytes (start + f) (position_of given.bytes d)
    → HaveNoFault (E index (drop start given.bytes) f path)) where
  text_by : (d start f : ℕ) (path : List ℕ) (step : Step) (v : Value) → IsTextStep (Some step) → value_of given.places step ≡ Some v → ReadsBack given.bytes (at (position_of given.bytes d)) v
      → Leads given.bytes (start + f) (position_of given.bytes d) → HaveNoFault (leaf_events LeafText (drop start given.bytes) f path)
  text_by d start f path (text content) v is e reads leads =
      let same : value.text content ≡ v = cc in
      let back : ReadsBack given.bytes (at (position_of given.bytes d)) (value.text content) = subst (ReadsBack given.bytes (at (position_of given.bytes d))) (sym same) reads in
      text_event (drop start given.bytes) f content path (back start f leads).there
  text_by d start f path _ v is e reads leads = absurd is

  text_no_fault : (n d start f : ℕ) (path : List ℕ) → IsTextStep (slice_get steps n) → value_at given.places n ≡ Some d → Leads given.bytes (start + f) (position_of given.bytes d)
      → HaveNoFault (leaf_events LeafText (drop start given.bytes) f path)
  text_no_fault n d start f path is e leads =
      let held : Held steps given.places given.bytes (at (position_of given.bytes d)) n = value_held steps given values n d e in
      text_by d start f path held.step held.value (subst IsTextStep held.there is) held.is_value held.reads_back leads

  item_no_fault : (item : Item) (n d start f : ℕ) (path : List ℕ) → IsItem steps IsTable item n → value_at given.places n ≡ Some d → Leads given.bytes (start + f) (position_of given.bytes d)
      → HaveNoFault (item_events E item (drop start given.bytes) f path)
  item_no_fault Text n d start f path is e leads = text_no_fault n d start f path is e leads
  item_no_fault (Table index) n d start f path is e leads = tables index n d start f path is e leads
  item_no_fault _ n d start f path is e leads = absurd is

  byte_list_by : (d start f : ℕ) (path : List ℕ) (step : Step) (v : Value) → IsByteListStep (Some step) → value_of given.places step ≡ Some v → ReadsBack given.bytes (at (position_of given.bytes d)) v
      → Leads given.bytes (start + f) (position_of given.bytes d) → HaveNoFault (leaf_events LeafBytes (drop start given.bytes) f path)
  byte_list_by d start f path (bytes content) v is e reads leads =
      let same : value.byte_list content ≡ v = cc in
      let back : ReadsBack given.bytes (at (position_of given.bytes d)) (value.byte_list content) = subst (ReadsBack given.bytes (at (position_of given.bytes d))) (sym same) reads in
      byte_list_event (drop start given.bytes) f content path (back start f leads).there
  byte_list_by d start f path _ v is e reads leads = absurd is

  byte_list_no_fault : (n d start f : ℕ) (path : List ℕ) → IsByteListStep (slice_get steps n) → value_at given.places n ≡ Some d → Leads given.bytes (start + f) (position_of given.bytes d)
      → HaveNoFault (leaf_events LeafBytes (drop start given.bytes) f path)
  byte_list_no_fault n d start f path is e leads =
      let held : Held steps given.places given.bytes (at (position_of given.bytes d)) n = value_held steps given values n d e in
      byte_list_by d start f path held.step held.value (subst IsByteListStep held.there is) held.is_value held.reads_back leads

  items_here : (start k position items : ℕ) → start + position ≡ k + 4 → position ≡ items → drop items (drop start given.bytes) ≡ drop (k + 4) given.bytes
  items_here start k position items first is = drop-drop items start given.bytes ∙ ap (λ p. drop p given.bytes) (omega arith)

  numbers_by : (item : Item) (d start f : ℕ) (path : List ℕ) (size : ℕ) (o : Option Width) (items : List ℕ) (v : Value) → plain_size item ≡ Some size → ((w : Width) → o ≡ Some w → byte_len w ≡ size)
      → numbers_value o items ≡ Some v → ReadsBack given.bytes (at (position_of given.bytes d)) v → Leads given.bytes (start + f) (position_of given.bytes d)
      → HaveNoFault (place_events E (ListOf item) (drop start given.bytes) f path)
  numbers_by item d start f path size None items v is sizes e reads leads = cc
  numbers_by item d start f path size (Some w) items v is sizes e reads leads = by_fit (list_all (fits_width w) items) e
    where
      by_fit : (fits : Bool) → (if fits then Some (value.plain_list (byte_len w) (byte_len w) (map (to_le_bytes w) items)) else None) ≡ Some v
          → HaveNoFault (place_events E (ListOf item) (drop start given.bytes) f path)
      by_fit true e =
          let same : value.plain_list (byte_len w) (byte_len w) (map (to_le_bytes w) items) ≡ v = cc in
          let back : ReadsBack given.bytes (at (position_of given.bytes d)) (value.plain_list (byte_len w) (byte_len w) (map (to_le_bytes w) items))
          = subst (ReadsBack given.bytes (at (position_of given.bytes d))) (sym same) reads in
          let list = back start f leads in
          let found = answered_vector (byte_len w) (drop start given.bytes) f _ list.vector in
          plain_list_no_fault E item size (drop start given.bytes) f path is (subst (λ n. VectorIs n (drop start given.bytes) f) (sizes w refl) found.vector)
      by_fit false e = cc

  refs_by : (item : Item) (d start f : ℕ) (path : List ℕ) (referred distances : List ℕ) → plain_size item ≡ None → AllByRecursion (IsItem steps IsTable item) referred
      → all_of (value_at given.places) referred ≡ Some distances → ReadsBack given.bytes (at (position_of given.bytes d)) (value.reference_list distances)
      → Leads given.bytes (start + f) (position_of given.bytes d) → HaveNoFault (place_events E (ListOf item) (drop start given.bytes) f path)
  refs_by item d start f path referred distances is all e back leads =
      let k : ℕ = position_of given.bytes d in
      let S : List ℕ = drop start given.bytes in
      let list = back start f leads in
      let found = answered_vector 4 S f _ list.vector in
      let stride : stride_of item ≡ 4 = reference_stride item is in
      let here : drop (items_at S f) S ≡ drop (k + 4) given.bytes = items_here start k list.position (items_at S f) list.first found.position in
      list_no_fault E item S f path (subst (λ n. VectorIs n S f) (sym stride) found.vector)
      (λ j below.
      let one : Referred (IsItem steps IsTable item) given.places distances j = referred_at (IsItem steps IsTable item) given.places referred distances e all j (omega (arith, found.count)) in
      subst (λ bytes. HaveNoFault (item_events E item bytes (j * stride_of item) (item_path path j))) (sym here)
      (subst (λ n. HaveNoFault (item_events E item (drop (k + 4) given.bytes) (j * n) (item_path path j))) (sym stride)
      (item_no_fault item one.step one.distance (k + 4) (j * 4) (item_path path j) one.holds one.is_value (list.each j one.distance one.there).leads)))

  list_by : (item : Item) (d start f : ℕ) (path : List ℕ) (step : Step) (v : Value) → IsListOf steps IsTable item (Some step) → value_of given.places step ≡ Some v
      → ReadsBack given.bytes (at (position_of given.bytes d)) v → Leads given.bytes (start + f) (position_of given.bytes d)
      → HaveNoFault (place_events E (ListOf item) (drop start given.bytes) f path)
  list_by item d start f path (numbers width items) v is e reads leads = numbers_by item d start f path width (width_of width) items v is (list_width width) e reads leads
  list_by item d start f path (bytes content) v is e reads leads =
      let same : value.byte_list content ≡ v = cc in
      let back : ReadsBack given.bytes (at (position_of given.bytes d)) (value.byte_list content) = subst (ReadsBack given.bytes (at (position_of given.bytes d))) (sym same) reads in
      plain_list_no_fault E item 1 (drop start given.bytes) f path is (bytes_vector (drop start given.bytes) f content (back start f leads).there)
  list_by item d start f path (refs referred) v is e reads leads =
      let made = made_of value.reference_list (all_of (value_at given.places) referred) v e in
      refs_by item d start f path referred made.0 is.0 is.1 made.1 (subst (ReadsBack given.bytes (at (position_of given.bytes d))) (sym made.2) reads) leads
  list_by item d start f path _ v is e reads leads = absurd is

  referred_no_fault : (kind : Kind) (n d start f : ℕ) (path : List ℕ) → IsReferred steps IsTable kind n → value_at given.places n ≡ Some d → Leads given.bytes (start + f) (position_of given.bytes d)
      → HaveNoFault (place_events E kind (drop start given.bytes) f path)
  referred_no_fault (One item) n d start f path is e leads = item_no_fault item n d start f path is e leads
  referred_no_fault Bytes n d start f path is e leads = byte_list_no_fault n d start f path is e leads
  referred_no_fault (ListOf item) n d start f path is e leads =
      let held : Held steps given.places given.bytes (at (position_of given.bytes d)) n = value_held steps given values n d e in
      list_by item d start f path held.step held.value (subst (IsListOf steps IsTable item) held.there is) held.is_value held.reads_back leads
  referred_no_fault _ n d start f path is e leads = absurd is

  field_no_fault : (required : Bool) (kind : Kind) (content : FieldStep) (field : Field) (k q : ℕ) (path : List ℕ) → IsFieldOf steps IsTable required kind (Some content) → field_of given.places content ≡ Some field
      → FieldStands given.bytes (k + q) field → HaveNoFault (place_events E kind (drop k given.bytes) q path)
  field_no_fault required kind (number_field size number) field k q path is e stands =
      let one : IsNumber size number field = field_number given.places size number field e in
      let there : BytesStand given.bytes (k + q) one.item.bytes = subst (FieldStands given.bytes (k + q)) one.is stands in
      let within : length one.item.bytes ≤ length (drop q (drop k given.bytes)) = stood_inside (drop q (drop k given.bytes)) one.item.bytes (bytes_in_slice given.bytes k q one.item.bytes there) in
      plain_field_event E kind size (drop k given.bytes) q path is (omega (arith, one.sized, one.some, length-drop q (drop k given.bytes)))
  field_no_fault required kind (ref_field n) field k q path is e stands =
      let made = made_of value.reference (value_at given.places n) field e in
      let there : ReferenceStands given.bytes (k + q) made.0 = subst (FieldStands given.bytes (k + q)) (sym made.2) stands in
      referred_no_fault kind n made.0 k q path is made.1 (references_lead given.bytes (k + q) made.0 there)
  field_no_fault required kind (tags_field n) field k q path is e stands = absurd is
  field_no_fault required kind (values_field n) field k q path is e stands = absurd is
  field_no_fault required kind (struct_field alignment content) field k q path is e stands = absurd is

  present_no_fault : (schema : Schema) (required : Bool) (kind : Kind) (o : Option FieldStep) (p : Option Field) (k q : ℕ) (path : List ℕ) → IsFieldOf steps IsTable required kind o → SameSlot given.places o p
      → SlotReads given.bytes k q p → HaveNoFault (present E schema required path q (place_events E kind (drop k given.bytes) q path))
  present_no_fault schema required kind None p k q path is same reads =
      let zero_here : q ≡ 0 = subst (SlotReads given.bytes k q) same reads in
      let test : (q == 0) ≡ true = eq-eqb q 0 zero_here in rw test (absent_is required path is)
  present_no_fault schema required kind (Some content) p k q path is (field, same, e) reads =
      let here : (4 ≤ q) × FieldStands given.bytes (k + q) field = subst (SlotReads given.bytes k q) same reads in
      let least : 4 ≤ q = here.0 in
      let test : (q == 0) ≡ false = eq_false q 0 (λ z. absurd (omega arith)) in
      rw test (field_no_fault required kind content field k q path is e here.1)

  member_no_fault : (schema : Schema) (kind : VariantKind) (n d start f : ℕ) (path : List ℕ) → IsMember steps IsTable kind n → value_at given.places n ≡ Some d → Leads given.bytes (start + f) (position_of given.bytes d)
      → HaveNoFault (member_events E schema kind (drop start given.bytes) f path)
  member_no_fault schema (member.Table index) n d start f path is e leads = tables index n d start f path is e leads
  member_no_fault schema (member.Struct index) n d start f path is e leads = absurd is
  member_no_fault schema member.Text n d start f path is e leads = text_no_fault n d start f path is e leads

  variant_no_fault : (schema : Schema) (o : Option VariantSchema) (tag n d start f : ℕ) (path : List ℕ) → IsVariantOf steps IsTable o n → value_at given.places n ≡ Some d → Leads given.bytes (start + f) (position_of given.bytes d)
      → HaveNoFault (variant_events E schema tag (drop start given.bytes) f path o)
  variant_no_fault schema (Some variant) tag n d start f path is e leads = (refl, member_no_fault schema variant.kind n d start f path is e leads)
  variant_no_fault schema None tag n d start f path is e leads = absurd is

  tagged_no_fault : (schema : Schema) (variants : Option (Vec VariantSchema Global)) (tag n d start f : ℕ) (path : List ℕ) → IsTagged steps IsTable variants tag n → value_at given.places n ≡ Some d
      → Leads given.bytes (start + f) (position_of given.bytes d) → HaveNoFault (union_events E schema variants tag (drop start given.bytes) f path)
  tagged_no_fault schema (Some variants) tag n d start f path is e leads = variant_no_fault schema (variant_of variants.items tag) tag n d start f path is e leads
  tagged_no_fault schema None tag n d start f path is e leads = absurd is

record Sees (B : List ℕ) (k : ℕ) (entries : List (ℕ × Field)) (seen : Seen) : Type 0 where
  object : seen.object ≡ drop k B
  inside : k + 4 ≤ length B
  slot_bytes : length seen.slots ≡ 2 * slot_count entries
  slots : (i : ℕ) → SlotReads B k (Slot seen.slots i) (field_at entries i)

record Found (B : List ℕ) (k start f : ℕ) (entries : List (ℕ × Field)) : Type 0 where
  seen : Seen
  is : table_at (drop start B) f ≡ Ok seen
  sees : Sees B k entries seen

table_found : (B : List ℕ) (k start f : ℕ) (entries : List (ℕ × Field)) → TableStands B k entries → Leads B (start + f) k → Found B k start f entries
unfolding table_at
table_found B k start f entries stands leads =
    let reference : start + f + 4 ≤ length B = num_inside B (start + f) w32 leads.0 leads.1 in
    let to : k ≡ start + f + leads.0 = leads.2 in
    let whole : k ≡ start + (k - start) = omega arith in
    let from : start ≤ length B = omega arith in
    let S : List ℕ = drop start B in
    let here : TableStands S (k - start) entries = stands_in_slices B start (at (k - start)) (value.table entries) from (subst (λ n. Stands B (at n) (value.table entries)) whole stands) in
    let leads_here : Leads S f (k - start) = leads_in_slices B start f (k - start) (subst (Leads B (start + f)) whole leads) in
    let facts = table_holds S f (k - start) here.vtable (vtable_size entries) (table_there S f (k - start) entries leads_here here) in
    let seen : Seen = record { object = drop (target S f) S; slots = slots_of S (target S f) } in
    let V : List ℕ = drop 4 (take (vtable_size entries) (drop here.vtable S)) in
    let same : V ≡ slots_of S (target S f) = ap (λ z. drop 4 (take z (drop here.vtable S))) facts.3 ∙ ap (λ t. drop 4 (take (vtable_size_at S (target S f)) (drop t S))) facts.2 in
    let word : (n : ℕ) × (Num B k w32 ≡ Some n) = number_of_signed (Num B k w32) _ stands.word in
    let place : start + target S f ≡ k = omega (arith, facts.1) in
    record {
      seen = seen;
      is = all_pass (table_clauses S f) (table_tests S f) seen (table_matches S f) facts.0;
      sees = record {
        object = drop-drop (target S f) start B ∙ ap (λ n. drop n B) place;
        inside = num_inside B k w32 word.0 word.1;
        slot_bytes = ap length (sym same) ∙ table_slot_bytes S (k - start) entries here;
        slots = λ i. subst (λ bytes. SlotReads B k (Slot bytes i) (field_at entries i)) same
            (subst (λ n. SlotReads B n (Slot V i) (field_at entries i)) (sym whole)
            (slot_reads_whole B start (k - start) (Slot V i) (field_at entries i) from (any_slot_reads S (k - start) entries here i)));
      };
    }

slot_lies : (V : List ℕ) (i : ℕ) (o : Option ℕ) → Num V (2 * i) w16 ≡ o → unwrap_or o 0 ≢ 0 → 2 * i + 2 ≤ length V
slot_lies V i None is some = absurd (some refl)
slot_lies V i (Some q) is some = num_inside V (2 * i) w16 q is

slot_inside : (V : List ℕ) (i : ℕ) → 4 ≤ Slot V i → 2 * i + 2 ≤ length V
slot_inside V i least = slot_lies V i (Num V (2 * i) w16) refl (λ z. absurd (omega (arith, least, z)))

last_holds : (here : Bool) (a n i : ℕ) (field : Field) (rest : Option Field) → (here ≡ false → a ≢ i) → max (a + 1) n ≡ i + 1 → (n ≡ i + 1 → rest ≡ None → ⊥)
    → (if here then Some field else rest) ≡ None → ⊥
last_holds true a n i field rest other most further e = cc
last_holds false a n i field rest other most further e = further (later (other refl)) e
  where
    later : a ≢ i → n ≡ i + 1
    later differs = grind arith

no_last : (entries : List (ℕ × Field)) (i : ℕ) → slot_count entries ≡ i + 1 → field_at entries i ≡ None → ⊥
no_last [] i e h = absurd (omega arith)
no_last (entry ∷ entries) i e h = last_holds (entry.0 == i) entry.0 (slot_count entries) i entry.1 (field_at entries i) (λ t same. cc (eq-eqb entry.0 i same)) e (no_last entries i) h

tests_zero : (a b c : Bool) → b ≡ true → (a || b || c) ≡ true
tests_zero true b c e = refl
tests_zero false true c e = refl
tests_zero false false c e = cc

le_or_lt : (a b : ℕ) → (a ≤ b) ⊎ (b < a)
le_or_lt a b = grind arith

module _ (B : List ℕ) (k : ℕ) (entries : List (ℕ × Field)) (seen : Seen) (sees : Sees B k entries seen) (i : ℕ) (none : field_at entries i ≡ None) (next : field_at entries (i + 1) ≡ None) where
  zero_slot : Slot seen.slots i ≡ 0
  zero_slot = subst (SlotReads B k (Slot seen.slots i)) none (sees.slots i)

  next_zero : Slot seen.slots (i + 1) ≡ 0
  next_zero = subst (SlotReads B k (Slot seen.slots (i + 1))) next (sees.slots (i + 1))

  first_byte : (o : Option ℕ) → Num seen.object (Slot seen.slots i) w8 ≡ o → tagged_union seen i o ≡ Ok None
  first_byte (Some tag) is =
      let test : (Slot seen.slots i == 0) ≡ true = eq-eqb (Slot seen.slots i) 0 zero_slot in
      let tests : (tag == 0 || Slot seen.slots i == 0 || Slot seen.slots (i + 1) == 0) ≡ true = tests_zero (tag == 0) (Slot seen.slots i == 0) (Slot seen.slots (i + 1) == 0) test in
      rw tests refl
  first_byte None is =
      let there : Num (drop k B) 0 w8 ≡ Some (number (drop k B) 0 w8) = num_there (drop k B) 0 w8 (omega (arith, sees.inside, length-drop k B)) in
      let absent : Num (drop k B) 0 w8 ≡ None = ap (λ n. Num (drop k B) n w8) (sym zero_slot) ∙ ap (λ bytes. Num bytes (Slot seen.slots i) w8) (sym sees.object) ∙ is in cc

  union_none : union_at seen i ≡ Ok None
  union_none = by_length (le_or_lt (length seen.slots) (2 * i))
    where
      by_length : (length seen.slots ≤ 2 * i) ⊎ (2 * i < length seen.slots) → union_at seen i ≡ Ok None
      by_length (inl history) = let test : nat_le (length seen.slots) (2 * i) ≡ true = le-leb (length seen.slots) (2 * i) history in rw test refl
      by_length (inr within) =
          let apart : slot_count entries ≢ i + 1 = λ e. no_last entries i e none in
          let count : length seen.slots ≡ 2 * slot_count entries = sees.slot_bytes in
          let first : nat_le (length seen.slots) (2 * i) ≡ false = le_false (length seen.slots) (2 * i) within in
          let second : nat_lt (length seen.slots) (2 * i + 4) ≡ false = lt_false (length seen.slots) (2 * i + 4) (omega arith) in
          rw (first, second) (first_byte (Num seen.object (Slot seen.slots i) w8) refl)

  unions_none : unions_at seen i ≡ Ok None
  unions_none = by_length (nat_lt (length seen.slots) (2 * i + 4))
    where
      by_length : (short : Bool) → (if short then Ok None else union_vector_by seen.object (Slot seen.slots i) (Slot seen.slots (i + 1))) ≡ Ok None
      by_length true = refl
      by_length false =
          let first : (Slot seen.slots i == 0) ≡ true = eq-eqb (Slot seen.slots i) 0 zero_slot in
          let second : (Slot seen.slots (i + 1) == 0) ≡ true = eq-eqb (Slot seen.slots (i + 1)) 0 next_zero in
          rw (first, second) refl

union_field_by : (E : TableEvents) (schema : Schema) (required : Bool) (index : ℕ) (object path : List ℕ) (wrong : Option ℕ) (r : Result (Option SeenUnion) (List ℕ)) (o : Option SeenUnion) → r ≡ Ok o
    → HaveNoFault (union_field_events E schema required index object path wrong (Ok o)) → HaveNoFault (union_field_events E schema required index object path wrong r)
union_field_by E schema required index object path wrong r o e h = subst (λ (a : Result (Option SeenUnion) (List ℕ)). HaveNoFault (union_field_events E schema required index object path wrong a)) (sym e) h

unions_by : (E : TableEvents) (schema : Schema) (required : Bool) (index : ℕ) (path : List ℕ) (r : Result (Option SeenUnions) (List ℕ)) (o : Option SeenUnions) → r ≡ Ok o
    → HaveNoFault (unions_events E schema required index path (Ok o)) → HaveNoFault (unions_events E schema required index path r)
unions_by E schema required index path r o e h = subst (λ (a : Result (Option SeenUnions) (List ℕ)). HaveNoFault (unions_events E schema required index path a)) (sym e) h

union_items_no_fault : (E : TableEvents) (schema : Schema) (index : ℕ) (items : SeenUnions) (path : List ℕ) (n i : ℕ)
    → ((j : ℕ) → i ≤ j → j < i + n → HaveNoFault (union_events E schema (slice_get schema.unions.items index) (slice_index items.tags j) items.references (j * 4) (item_path path j)))
    → HaveNoFault (union_items_events E schema index items path n i)
union_items_no_fault E schema index items path zero i each = tt
union_items_no_fault E schema index items path (suc n) i each =
    all_append IsNoFault (union_events E schema (slice_get schema.unions.items index) (slice_index items.tags i) items.references (i * 4) (item_path path i))
    (union_items_events E schema index items path n (i + 1))
    (each i (omega arith) (omega arith)) (union_items_no_fault E schema index items path n (i + 1) (λ j least below. each j (omega arith) (omega arith)))

union_is : (seen : Seen) (i tag q p : ℕ) → 2 * i + 4 ≤ length seen.slots → Slot seen.slots i ≡ q → Slot seen.slots (i + 1) ≡ p → q ≢ 0 → p ≢ 0 → Num seen.object q w8 ≡ Some tag
    → ((tag ≡ 0) × (union_at seen i ≡ Ok None)) ⊎ (union_at seen i ≡ Ok (Some (record { tag = tag; offset = p })))
union_is seen i tag q p both slot next some more byte =
    let first : nat_le (length seen.slots) (2 * i) ≡ false = le_false (length seen.slots) (2 * i) (omega arith) in
    let second : nat_lt (length seen.slots) (2 * i + 4) ≡ false = lt_false (length seen.slots) (2 * i + 4) both in
    let whole : union_at seen i ≡ tagged_union seen i (Num seen.object (Slot seen.slots i) w8) = rw (first, second) refl in
    let known : union_at seen i ≡ tagged_union seen i (Some tag) = whole ∙ ap (tagged_union seen i) (ap (λ n. Num seen.object n w8) slot ∙ byte) in
    by_tag (tag == 0) refl known
  where
    by_tag : (none : Bool) → (tag == 0) ≡ none → union_at seen i ≡ tagged_union seen i (Some tag)
        → ((tag ≡ 0) × (union_at seen i ≡ Ok None)) ⊎ (union_at seen i ≡ Ok (Some (record { tag = tag; offset = p })))
    by_tag true is known = inl (eqb-true tag 0 is, known ∙ rw is refl)
    by_tag false is known =
        let one : (Slot seen.slots i == 0) ≡ false = ap (λ n. n == 0) slot ∙ eq_false q 0 some in
        let two : (Slot seen.slots (i + 1) == 0) ≡ false = ap (λ n. n == 0) next ∙ eq_false p 0 more in
        let offset : tagged_union seen i (Some tag) ≡ Ok (Some (record { tag = tag; offset = Slot seen.slots (i + 1) })) = rw (is, one, two) refl in
        inr (known ∙ offset ∙ ap (λ n. Ok (Some (let u : SeenUnion = record { tag = tag; offset = n } in u))) next)

unions_is : (seen : Seen) (i q p : ℕ) → 2 * i + 4 ≤ length seen.slots → Slot seen.slots i ≡ q → Slot seen.slots (i + 1) ≡ p → q ≢ 0 → p ≢ 0
    → unions_at seen i ≡ some_of (union_vector_at seen.object q p)
unions_is seen i q p both slot next some more =
    let second : nat_lt (length seen.slots) (2 * i + 4) ≡ false = lt_false (length seen.slots) (2 * i + 4) both in
    let whole : unions_at seen i ≡ union_vector_by seen.object (Slot seen.slots i) (Slot seen.slots (i + 1)) = rw second refl in
    let one : (q == 0) ≡ false = eq_false q 0 some in
    let two : (p == 0) ≡ false = eq_false p 0 more in
    let there : union_vector_by seen.object q p ≡ some_of (union_vector_at seen.object q p) = rw (one, two) refl in
    whole ∙ ap (λ n. union_vector_by seen.object n (Slot seen.slots (i + 1))) slot ∙ ap (union_vector_by seen.object q) next ∙ there

least_is_some : (q : ℕ) → 4 ≤ q → q ≢ 0
least_is_some q least z = absurd (omega arith)

module _ (steps : List Step) (given : Finish) (values : AllByRecursion (ValueHolds steps given) given.places) (E : TableEvents) (IsTable : ℕ → ℕ → Type 0)
    (tables : (index n d start f : ℕ) (path : List ℕ) → IsTable index n → value_at given.places n ≡ Some d → Leads given.bytes (start + f) (position_of given.bytes d)
    → HaveNoFault (E index (drop start given.bytes) f path))
    (schema : Schema) (k : ℕ) (entries : List (ℕ × Field)) (seen : Seen) (sees : Sees given.bytes k entries seen) (path : List ℕ) (i : ℕ) (required : Bool)
    (tags_are : AllByRecursion HasTags schema.unions.items) where
  place_no_fault : (kind : Kind) (o : Option FieldStep) → IsFieldOf steps IsTable required kind o → SameSlot given.places o (field_at entries i)
      → HaveNoFault (present E schema required path (Slot seen.slots i) (place_events E kind seen.object (Slot seen.slots i) path))
  place_no_fault kind o is same =
      subst (λ bytes. HaveNoFault (present E schema required path (Slot seen.slots i) (place_events E kind bytes (Slot seen.slots i) path))) (sym sees.object)
      (present_no_fault steps given values E IsTable tables schema required kind o (field_at entries i) k (Slot seen.slots i) path is same (sees.slots i))

  absent_no_fault : (kind : Kind) (o : Option FieldStep) (es : List Event) → plain_field_size kind ≡ None → ((n : ℕ) → IsReferred steps IsTable kind n → ⊥)
      → IsFieldOf steps IsTable required kind o → SameSlot given.places o (field_at entries i) → HaveNoFault (present E schema required path (Slot seen.slots i) es)
  absent_no_fault kind None es none refers is same =
      let zero_here : Slot seen.slots i ≡ 0 = subst (SlotReads given.bytes k (Slot seen.slots i)) same (sees.slots i) in
      let test : (Slot seen.slots i == 0) ≡ true = eq-eqb (Slot seen.slots i) 0 zero_here in rw test (absent_is required path is)
  absent_no_fault kind (Some (number_field width value)) es none refers is same = cc
  absent_no_fault kind (Some (ref_field n)) es none refers is same = absurd (refers n is)
  absent_no_fault kind (Some (tags_field n)) es none refers is same = absurd is
  absent_no_fault kind (Some (values_field n)) es none refers is same = absurd is
  absent_no_fault kind (Some (struct_field alignment content)) es none refers is same = absurd is

  zero_tagged : (index tag n : ℕ) → tag ≡ 0 → IsTagged steps IsTable (slice_get schema.unions.items index) tag n → ⊥
  zero_tagged index tag n zero_is is = by_union (slice_get schema.unions.items index) (λ variants there. all_at HasTags schema.unions.items index variants tags_are there) (subst (λ t. IsTagged steps IsTable (slice_get schema.unions.items index) t n) zero_is is)
    where
      by_union : (o : Option (Vec VariantSchema Global)) → ((variants : Vec VariantSchema Global) → o ≡ Some variants → HasTags variants) → IsTagged steps IsTable o 0 n → ⊥
      by_union None tagged is = is
      by_union (Some variants) tagged is = subst (λ (v : Option VariantSchema). IsVariantOf steps IsTable v n) (tagged variants refl) is

  union_no_fault : (index : ℕ) (o p : Option FieldStep) → IsUnion steps IsTable required (slice_get schema.unions.items index) o p → SameSlot given.places o (field_at entries i)
      → SameSlot given.places p (field_at entries (i + 1)) → HaveNoFault (kind_events E schema required (Union index) i seen path)
  union_no_fault index None None is same next =
      union_field_by E schema required index seen.object path (wrong_tag schema seen i) (union_at seen i) None (union_none given.bytes k entries seen sees i same next)
      (no_wrong_tag schema seen i required path (zero_slot given.bytes k entries seen sees i same next) (absent_is required path is))
  union_no_fault index (Some (number_field width tag)) (Some (ref_field n)) is (field, same, e) (referred, next, r) =
      let one : IsNumber width tag field = field_number given.places width tag field e in
      let made = made_of value.reference (value_at given.places n) referred r in
      let first : (4 ≤ Slot seen.slots i) × FieldStands given.bytes (k + Slot seen.slots i) field = subst (SlotReads given.bytes k (Slot seen.slots i)) same (sees.slots i) in
      let second : (4 ≤ Slot seen.slots (i + 1)) × FieldStands given.bytes (k + Slot seen.slots (i + 1)) referred = subst (SlotReads given.bytes k (Slot seen.slots (i + 1))) next (sees.slots (i + 1)) in
      let there : BytesStand given.bytes (k + Slot seen.slots i) one.item.bytes = subst (FieldStands given.bytes (k + Slot seen.slots i)) one.is first.1 in
      let byte : Num (drop k given.bytes) (Slot seen.slots i) w8 ≡ Some (from_le_bytes w8 one.item.bytes)
      = num_of_bytes (drop k given.bytes) (Slot seen.slots i) w8 one.item.bytes (one.sized ∙ is.0) (bytes_in_slice given.bytes k (Slot seen.slots i) one.item.bytes there) in
      let tagged : Num seen.object (Slot seen.slots i) w8 ≡ Some tag = ap (λ bytes. Num bytes (Slot seen.slots i) w8) sees.object ∙ byte ∙ ap (λ t. Some t) (one.again is.0) in
      let leads : ReferenceStands given.bytes (k + Slot seen.slots (i + 1)) made.0 = subst (FieldStands given.bytes (k + Slot seen.slots (i + 1))) (sym made.2) second.1 in
      let within : 2 * (i + 1) + 2 ≤ length seen.slots = slot_inside seen.slots (i + 1) second.0 in
      by_tag n tag made.0 is.1 made.1 leads
      (union_is seen i tag (Slot seen.slots i) (Slot seen.slots (i + 1)) (omega arith) refl refl (least_is_some (Slot seen.slots i) first.0) (least_is_some (Slot seen.slots (i + 1)) second.0) tagged)
    where
      by_tag : (n tag d : ℕ) → IsTagged steps IsTable (slice_get schema.unions.items index) tag n → value_at given.places n ≡ Some d → ReferenceStands given.bytes (k + Slot seen.slots (i + 1)) d
          → ((tag ≡ 0) × (union_at seen i ≡ Ok None)) ⊎ (union_at seen i ≡ Ok (Some (record { tag = tag; offset = Slot seen.slots (i + 1) })))
          → HaveNoFault (kind_events E schema required (Union index) i seen path)
      by_tag n tag d is e leads (inl (zero_is, none)) = absurd (zero_tagged index tag n zero_is is)
      by_tag n tag d is e leads (inr some) =
          union_field_by E schema required index seen.object path (wrong_tag schema seen i) (union_at seen i) (Some (record { tag = tag; offset = Slot seen.slots (i + 1) })) some
          (subst (λ bytes. HaveNoFault (union_events E schema (slice_get schema.unions.items index) tag bytes (Slot seen.slots (i + 1)) path)) (sym sees.object)
          (tagged_no_fault steps given values E IsTable tables schema (slice_get schema.unions.items index) tag n d k (Slot seen.slots (i + 1)) path is e
          (references_lead given.bytes (k + Slot seen.slots (i + 1)) d leads)))
  union_no_fault index _ _ is same next = absurd is

  union_vector_items_no_fault : (index q p t d : ℕ) (step : Step) (v : Value) → IsVectorOfUnions steps IsTable (slice_get schema.unions.items index) (Some step) → value_of given.places step ≡ Some v
      → ReadsBack given.bytes (at_both (position_of given.bytes t) (position_of given.bytes d)) v
      → Leads given.bytes (k + q) (position_of given.bytes t) → Leads given.bytes (k + p) (position_of given.bytes d)
      → HaveNoFault (unions_events E schema required index path (some_of (union_vector_at seen.object q p)))
  union_vector_items_no_fault index q p t d (unions items) v is e reads tags references =
      let B = given.bytes in
      let kt : ℕ = position_of given.bytes t in
      let kv : ℕ = position_of given.bytes d in
      let S : List ℕ = drop k given.bytes in
      let made = made_of value.union_vector (all_of (union_of given.places) items) v e in
      let back : ReadsBack given.bytes (at_both kt kv) (value.union_vector made.0) = subst (ReadsBack given.bytes (at_both kt kv)) (sym made.2) reads in
      let list = back k q p tags references in
      let found = answered_unions S q p _ list.vector in
      let vector : SeenUnions = record { tags = drop (items_at S q) S; references = drop (items_at S p) S; count = count_at S q } in
      let tags_here : drop (items_at S q) S ≡ drop (kt + 4) given.bytes = drop-drop (items_at S q) k given.bytes ∙ ap (λ n. drop n given.bytes) (omega (arith, list.first_tag, found.tags)) in
      let references_here : drop (items_at S p) S ≡ drop (kv + 4) given.bytes = drop-drop (items_at S p) k given.bytes ∙ ap (λ n. drop n given.bytes) (omega (arith, list.first_reference, found.references)) in
      let answered : some_of (union_vector_at seen.object q p) ≡ Ok (Some vector) = ap (λ bytes. some_of (union_vector_at bytes q p)) sees.object ∙ ap some_of found.is in
      unions_by E schema required index path (some_of (union_vector_at seen.object q p)) (Some vector) answered (
        refl,
        union_items_no_fault E schema index vector path (count_at S q) 0
            (λ j least below.
            let one : Tagged (IsTagged steps IsTable (slice_get schema.unions.items index)) given.places made.0 j
            = tagged_at (IsTagged steps IsTable (slice_get schema.unions.items index)) given.places items made.0 made.1 is j (omega (arith, found.count)) in
            let tag : slice_index (drop (items_at S q) S) j ≡ one.pair.0 = ap (λ bytes. slice_index bytes j) tags_here ∙ byte_at (drop (kt + 4) given.bytes) j one.pair.0 (list.each_tag j one.pair one.there).there in
            subst (λ n. HaveNoFault (union_events E schema (slice_get schema.unions.items index) n (drop (items_at S p) S) (j * 4) (item_path path j))) (sym tag)
            (subst (λ bytes. HaveNoFault (union_events E schema (slice_get schema.unions.items index) one.pair.0 bytes (j * 4) (item_path path j))) (sym references_here)
            (tagged_no_fault steps given values E IsTable tables schema (slice_get schema.unions.items index) one.pair.0 one.step one.pair.1 (kv + 4) (j * 4) (item_path path j) one.holds one.is_value
            (list.each_reference j one.pair one.there).leads))),
      )
  union_vector_items_no_fault index q p t d _ v is e reads tags references = absurd is

  union_vector_no_fault : (index : ℕ) (o p : Option FieldStep) → IsUnionVector steps IsTable required (slice_get schema.unions.items index) o p → SameSlot given.places o (field_at entries i)
      → SameSlot given.places p (field_at entries (i + 1)) → HaveNoFault (kind_events E schema required (UnionVector index) i seen path)
  union_vector_no_fault index None None is same next =
      unions_by E schema required index path (unions_at seen i) None (unions_none given.bytes k entries seen sees i same next) (absent_is required path is)
  union_vector_no_fault index (Some (tags_field n)) (Some (values_field m)) is (tags_there, same, e) (values_there, next, r) =
      let first : (4 ≤ Slot seen.slots i) × FieldStands given.bytes (k + Slot seen.slots i) tags_there = subst (SlotReads given.bytes k (Slot seen.slots i)) same (sees.slots i) in
      let second : (4 ≤ Slot seen.slots (i + 1)) × FieldStands given.bytes (k + Slot seen.slots (i + 1)) values_there = subst (SlotReads given.bytes k (Slot seen.slots (i + 1))) next (sees.slots (i + 1)) in
      let made_tags = made_of value.tags (distance_at tags_distance given.places n) tags_there e in
      let made = made_of value.values (distance_at references_distance given.places m) values_there r in
      let there : ReferenceStands given.bytes (k + Slot seen.slots i) made_tags.0 = subst (FieldStands given.bytes (k + Slot seen.slots i)) (sym made_tags.2) first.1 in
      let behind : ReferenceStands given.bytes (k + Slot seen.slots (i + 1)) made.0 = subst (FieldStands given.bytes (k + Slot seen.slots (i + 1))) (sym made.2) second.1 in
      let within : 2 * (i + 1) + 2 ≤ length seen.slots = slot_inside seen.slots (i + 1) second.0 in
      let held : Held steps given.places given.bytes (at_both (position_of given.bytes made_tags.0) (position_of given.bytes made.0)) n
      = lists_held steps given values n made_tags.0 made.0 made_tags.1 (ap (distance_at references_distance given.places) is.0 ∙ made.1) in
      let whole : unions_at seen i ≡ some_of (union_vector_at seen.object (Slot seen.slots i) (Slot seen.slots (i + 1)))
      = unions_is seen i (Slot seen.slots i) (Slot seen.slots (i + 1)) (omega arith) refl refl (least_is_some (Slot seen.slots i) first.0) (least_is_some (Slot seen.slots (i + 1)) second.0) in
      subst (λ (a : Result (Option SeenUnions) (List ℕ)). HaveNoFault (unions_events E schema required index path a)) (sym whole)
      (union_vector_items_no_fault index (Slot seen.slots i) (Slot seen.slots (i + 1)) made_tags.0 made.0 held.step held.value
      (subst (IsVectorOfUnions steps IsTable (slice_get schema.unions.items index)) held.there is.1) held.is_value held.reads_back
      (references_lead given.bytes (k + Slot seen.slots i) made_tags.0 there) (references_lead given.bytes (k + Slot seen.slots (i + 1)) made.0 behind))
  union_vector_no_fault index _ _ is same next = absurd is

  kind_no_fault : (fields : List (ℕ × FieldStep)) → ((j : ℕ) → SameSlot given.places (held_at fields j) (field_at entries j)) → (kind : Kind) → HasKind steps IsTable schema fields i required kind
      → HaveNoFault (kind_events E schema required kind i seen path)
  kind_no_fault fields same (Union index) is = union_no_fault index (held_at fields i) (held_at fields (i + 1)) is (same i) (same (i + 1))
  kind_no_fault fields same (UnionVector index) is = union_vector_no_fault index (held_at fields i) (held_at fields (i + 1)) is (same i) (same (i + 1))
  kind_no_fault fields same (One item) is = place_no_fault (One item) (held_at fields i) is (same i)
  kind_no_fault fields same Bytes is = place_no_fault Bytes (held_at fields i) is (same i)
  kind_no_fault fields same (ListOf item) is = place_no_fault (ListOf item) (held_at fields i) is (same i)
  kind_no_fault fields same (Nested index) is = place_no_fault (Nested index) (held_at fields i) is (same i)
  kind_no_fault fields same (Fixed value) is = absent_no_fault (Fixed value) (held_at fields i) _ refl (λ n refers. refers) is (same i)
  kind_no_fault fields same (FixedList value) is = absent_no_fault (FixedList value) (held_at fields i) _ refl (λ n refers. refers) is (same i)

module _ (steps : List Step) (given : Finish) (values : AllByRecursion (ValueHolds steps given) given.places) (schema : Schema)
    (tags_are : AllByRecursion HasTags schema.unions.items) where
  module _ (E : TableEvents) (IsTable : ℕ → ℕ → Type 0)
      (tables : (index n d start f : ℕ) (path : List ℕ) → IsTable index n → value_at given.places n ≡ Some d → Leads given.bytes (start + f) (position_of given.bytes d)
      → HaveNoFault (E index (drop start given.bytes) f path)) where
    fields_no_fault : (k : ℕ) (entries : List (ℕ × Field)) (seen : Seen) → Sees given.bytes k entries seen → (path : List ℕ) → (fields : List (ℕ × FieldStep))
        → ((j : ℕ) → SameSlot given.places (held_at fields j) (field_at entries j)) → (shape : List FieldSchema)
        → AllByRecursion (λ field. HasKind steps IsTable schema fields field.slot field.required field.kind) shape → HaveNoFault (fields_events E schema seen path shape)
    fields_no_fault k entries seen sees path fields same [] is = tt
    fields_no_fault k entries seen sees path fields same (field ∷ shape) is =
        all_append IsNoFault (kind_events E schema field.required field.kind field.slot seen (field_path path (field_label field))) (fields_events E schema seen path shape)
        (kind_no_fault steps given values E IsTable tables schema k entries seen sees (field_path path (field_label field))
        field.slot field.required tags_are fields same field.kind is.0)
        (fields_no_fault k entries seen sees path fields same shape is.1)

    table_by : (shape : TableSchema) (d start f : ℕ) (path : List ℕ) (step : Step) (v : Value) → IsTableOf steps IsTable schema (Some shape) (Some step)
        → value_of given.places step ≡ Some v → Stands given.bytes (at (position_of given.bytes d)) v → Leads given.bytes (start + f) (position_of given.bytes d)
        → HaveNoFault (shape_events E schema (Some shape) (drop start given.bytes) f path)
    table_by shape d start f path (table fields) v is e stands leads =
        let made = made_of value.table (table_of given.places fields) v e in
        let here : TableStands given.bytes (position_of given.bytes d) made.0 = subst (Stands given.bytes (at (position_of given.bytes d))) (sym made.2) stands in
        let found : Found given.bytes (position_of given.bytes d) start f made.0 = table_found given.bytes (position_of given.bytes d) start f made.0 here leads in
        subst (λ (a : Result Seen (List ℕ)). HaveNoFault (table_events E schema shape path a)) (sym found.is) (
          refl,
          fields_no_fault (position_of given.bytes d) made.0 found.seen found.sees path fields (same_slots given.places [] greatest_field fields made.0 (table_made given.places fields made.0 made.1).1) shape.fields.items is,
        )
    table_by shape d start f path _ v is e stands leads = absurd is

    shape_by : (o : Option TableSchema) (n d start f : ℕ) (path : List ℕ) → IsTableOf steps IsTable schema o (slice_get steps n)
        → value_at given.places n ≡ Some d → Leads given.bytes (start + f) (position_of given.bytes d) → HaveNoFault (shape_events E schema o (drop start given.bytes) f path)
    shape_by None n d start f path is e leads = tt
    shape_by (Some shape) n d start f path is e leads =
        let held : Held steps given.places given.bytes (at (position_of given.bytes d)) n = value_held steps given values n d e in
        table_by shape d start f path held.step held.value (subst (IsTableOf steps IsTable schema (Some shape)) held.there is) held.is_value held.stands leads

  pub tables_no_fault : (left index n d start f : ℕ) (path : List ℕ) → Describes schema steps left index n → value_at given.places n ≡ Some d → Leads given.bytes (start + f) (position_of given.bytes d)
      → HaveNoFault (events schema left index (drop start given.bytes) f path)
  unfolding events Describes
  tables_no_fault zero index n d start f path is e leads = (refl, tt)
  tables_no_fault (suc left) index n d start f path is e leads =
      shape_by (events schema left) (Describes schema steps left) (tables_no_fault left) (slice_get schema.tables.items index) n d start f path
      is e leads
