use Rattle.std.proofs.Common.{ap, inr, ◌≡◌, refl, ◌∙◌, ◌*◌, arith, rules, drop, Some, Ok, Err, sym, subst, add-one}
use Rattle.std.proofs.Math.ListN.{drop_of_length-le}
use Rattle.std.proofs.Math.Seq.{drop-cons}
use Rattle.planus_read.specs.Places.{place_bytes, place_start, place_offset, tagged_place}
use Rattle.planus_read.specs.Slices.{slice_bytes, slice_start}
use Rattle.planus_read.specs.Tables.{table_object, table_slots, table_start}
use Rattle.planus_view.specs.VectorView.{view_of}
use Rattle.planus_view.specs.UnionVectorView.{view_of as unions_of}
use Rattle.planus_verify.specs.Schemas.{shapes, variant_in}
use Rattle.planus_verify.specs.Steps.{reference_steps, variant_steps, value_steps, text_steps}
use Rattle.planus_verify.specs.Steps.{place_faults, fields_steps}
use Rattle.planus_verify.specs.Walks.{NoTable, Walks, InOrder}
use Rattle.planus_verify.specs.declared.fault.Fault.TheVariants as fault
use Rattle.planus_verify.specs.declared.schema.ValueKind.TheVariants as value
use Rattle.planus_verify.proofs.Fields.{value_field, union_field, unions_field}
use Rattle.planus_verify.proofs.Fields.{field_passes, field_stops, fields_end, FieldsSoFar, place_of}
use Rattle.planus_verify.specs.lemmas.InOrder.{no_tables}
use Rattle.planus_verify.proofs.Loops.{no_vector, vector_is, items_begin, item_passes, item_stops}
use Rattle.planus_verify.proofs.Loops.{items_end, reference_item, variant_item}
use Rattle.planus_verify.proofs.Tables.{reference_is, nested_is, place_is}
use Rattle.planus_verify.proofs.Unions.{union_there, union_absent, unions_fail}
use Rattle.planus_verify.proofs.Unions.{unions_there, items_steps, tagged_there, tagged_absent}
use Rattle.planus_verify.proofs.Unions.{vector_there}
use Rattle.planus_verify.proofs.walk.+walk.Goals as goal

pub verify_field-returns-else-offset-eq0 : goal.verify_field-returns-else-offset-eq0
verify_field-returns-else-offset-eq0 t c =
    let W = Walks (shapes c.args.schema.now) c.args.depth in
    let variants = c.args.schema.now.variants.now in
    let place = place_of c.args.index c.offset_from_start.result c.args.field.now in
    let begins = c.offset_from_start.ensures ∙ c.object.ensures.start in
    let same = ap (λ n. place_of c.args.index n c.args.field.now) begins in
    value_field W variants c.args.index (table_object c.args.table)
    (table_slots c.args.table) (table_start c.args.table) c.args.field.now
    c.args.left c.verify_value.result place same c.in-Value.kind
    (slice_bytes c.object-in-Value.result) (slice_start c.object-in-Value.result)
    c.slot_offset-offset.result c.in-Value.is c.object-in-Value.ensures.bytes
    c.object-in-Value.ensures.start c.slot_offset-offset.ensures.value c.if-offset-eq0.false
    c.verify_value.ensures

pub verify_field-returns-in-Union : goal.verify_field-returns-in-Union
verify_field-returns-in-Union t c =
    let W = Walks (shapes c.args.schema.now) c.args.depth in
    let variants = c.args.schema.now.variants.now in
    let place = place_of c.args.index c.offset_from_start.result c.args.field.now in
    let begins = c.offset_from_start.ensures ∙ c.object.ensures.start in
    let same = ap (λ n. place_of c.args.index n c.args.field.now) begins in
    union_field W variants c.args.index (table_object c.args.table)
    (table_slots c.args.table) (table_start c.args.table) c.args.field.now
    c.args.left c.verify_union.result place same c.in-Union.union c.in-Union.is
    c.verify_union.ensures

pub verify_field-returns-in-Unions : goal.verify_field-returns-in-Unions
verify_field-returns-in-Unions t c =
    let W = Walks (shapes c.args.schema.now) c.args.depth in
    let variants = c.args.schema.now.variants.now in
    let place = place_of c.args.index c.offset_from_start.result c.args.field.now in
    let begins = c.offset_from_start.ensures ∙ c.object.ensures.start in
    let same = ap (λ n. place_of c.args.index n c.args.field.now) begins in
    unions_field W variants c.args.index (table_object c.args.table)
    (table_slots c.args.table) (table_start c.args.table) c.args.field.now
    c.args.left c.verify_unions.result place same c.in-Unions.union c.in-Unions.is
    c.verify_unions.ensures

pub verify_fields-loop-field-init : goal.verify_fields-loop-field-init
verify_fields-loop-field-init t c =
    λ r h. h

pub verify_fields-returns-in_err-left : goal.verify_fields-returns-in_err-left
verify_fields-returns-in_err-left t c =
    let W = Walks (shapes c.args.schema.now) c.args.depth in
    let variants = c.args.schema.now.variants.now in
    let answer = c.from_residual.result in
    let found = c.in_err-left.field-0.0 in
    let same : answer ≡ Err found = search rules in
    subst (InOrder W (fields_steps variants c.args.index (table_object c.args.table)
    (table_slots c.args.table) (table_start c.args.table) c.args.fields.now)
    c.args.before) (sym same)
    (field_stops W variants c.args.index (table_object c.args.table)
    (table_slots c.args.table) (table_start c.args.table) c.args.fields.now c.args.before
    (drop c.loop-field.field-index c.args.fields.now) _ _ c.loop-field.left found
    (drop-cons c.args.fields.now c.loop-field.field-index _ c.loop-field-test.true)
    c.loop-field.invariant c.in_err-left.ensures)

pub verify_fields-loop-field-preserved : goal.verify_fields-loop-field-preserved
verify_fields-loop-field-preserved t c =
    let W = Walks (shapes c.args.schema.now) c.args.depth in
    let variants = c.args.schema.now.variants.now in
    subst
    (λ k. FieldsSoFar W variants c.args.index (table_object c.args.table)
    (table_slots c.args.table) (table_start c.args.table) c.args.fields.now c.args.before
    (drop k c.args.fields.now) c.in_ok-left.left) (sym (add-one c.loop-field.field-index))
    (field_passes W variants c.args.index (table_object c.args.table)
    (table_slots c.args.table) (table_start c.args.table) c.args.fields.now c.args.before
    (drop c.loop-field.field-index c.args.fields.now) _ _ c.loop-field.left c.in_ok-left.left
    (drop-cons c.args.fields.now c.loop-field.field-index _ c.loop-field-test.true)
    c.loop-field.invariant c.in_ok-left.ensures)

pub verify_fields-returns : goal.verify_fields-returns
verify_fields-returns t c =
    let W = Walks (shapes c.args.schema.now) c.args.depth in
    let variants = c.args.schema.now.variants.now in
    let past = c.loop-field-test.false in
    fields_end W variants c.args.index (table_object c.args.table)
    (table_slots c.args.table) (table_start c.args.table) c.args.fields.now c.args.before
    (drop c.loop-field.field-index c.args.fields.now) c.loop-field.left
    (drop_of_length-le c.args.fields.now (omega (arith, past))) c.loop-field.invariant

pub verify_nested-returns-in-Ok : goal.verify_nested-returns-in-Ok
verify_nested-returns-in-Ok t c =
    let there = c.in-Ok.ensures in
    nested_is (Walks (shapes c.args.schema.now) c.args.depth) c.args.place c.args.index
    (place_bytes c.args.at) (place_start c.args.at) (place_offset c.args.at) there.0
    (place_bytes c.new-root.result) (place_start c.new-root.result)
    (place_offset c.new-root.result) c.args.left c.verify_reference.result there.1
    (c.new-root.ensures.bytes ∙ (c.new.ensures.bytes ∙ there.2))
    (c.new-root.ensures.begin ∙ c.new.ensures.start) c.new-root.ensures.offset
    c.verify_reference.ensures

pub verify_reference-returns-in-Ok : goal.verify_reference-returns-in-Ok
verify_reference-returns-in-Ok t c =
    reference_is (Walks (shapes c.args.schema.now) c.args.depth) (fault.Field c.args.place)
    c.args.index (place_bytes c.args.at) (place_start c.args.at) (place_offset c.args.at)
    c.in-Ok.table c.args.left _ c.in-Ok.ensures c.verify_table.ensures

pub verify_reference-returns-in-Err : goal.verify_reference-returns-in-Err
verify_reference-returns-in-Err t c =
    inr (
      fault.Field c.args.place c.in-Err.kind,
      (c.in-Err.kind, c.in-Err.ensures, refl),
      refl,
    )

pub verify_tables-returns-in-Err : goal.verify_tables-returns-in-Err
verify_tables-returns-in-Err t c =
    no_vector (Walks (shapes c.args.schema.now) c.args.depth) (place_faults c.args.place)
    (λ i. reference_steps (place_faults c.args.place (Some i)) c.args.index)
    (slice_bytes c.args.buffer) (slice_start c.args.buffer) c.args.offset c.args.before
    c.in-Err.kind c.in-Err.ensures

pub verify_tables-loop-i-init : goal.verify_tables-loop-i-init
verify_tables-loop-i-init t c =
    let items = view_of c.in-Ok.items in
    items_begin (Walks (shapes c.args.schema.now) c.args.depth) items.count
    (λ i. reference_steps (place_faults c.args.place (Some i)) c.args.index items.bytes items.start
    (i * 4)) c.args.before

pub verify_tables-returns-in_err-left : goal.verify_tables-returns-in_err-left
verify_tables-returns-in_err-left t c =
    let W = Walks (shapes c.args.schema.now) c.args.depth in
    let answer = c.from_residual.result in
    let found = c.in_err-left.field-0.0 in
    let same : answer ≡ Err found = search rules in
    let items = view_of c.in-Ok.items in
    let here = reference_item W c.args.place c.at.result c.loop-i.i _ items.bytes _ items.start _
    (c.loop-i.i * 4) c.loop-i.left (Err found) c.at.ensures c.get_unchecked-at.ensures.bytes
    c.get_unchecked-at.ensures.begin c.get_unchecked-at.ensures.offset c.args.index
    c.in_err-left.ensures in
    vector_is W (place_faults c.args.place)
    (λ i. reference_steps (place_faults c.args.place (Some i)) c.args.index)
    (slice_bytes c.args.buffer) (slice_start c.args.buffer) c.args.offset items c.args.before answer
    c.in-Ok.ensures
    (subst (InOrder W _ c.args.before) (sym same)
    (item_stops W items.count
    (λ i. reference_steps (place_faults c.args.place (Some i)) c.args.index items.bytes items.start
    (i * 4)) c.loop-i.i c.args.before c.loop-i.left found (search rules) c.loop-i.invariant here))

pub verify_tables-loop-i-preserved : goal.verify_tables-loop-i-preserved
verify_tables-loop-i-preserved t c =
    let W = Walks (shapes c.args.schema.now) c.args.depth in
    let items = view_of c.in-Ok.items in
    let next = c.in_ok-left.left in
    item_passes W items.count
    (λ i. reference_steps (place_faults c.args.place (Some i)) c.args.index items.bytes items.start
    (i * 4)) c.loop-i.i c.args.before c.loop-i.left next (search rules) c.loop-i.invariant
    (reference_item W c.args.place c.at.result c.loop-i.i _ items.bytes _ items.start _
    (c.loop-i.i * 4) c.loop-i.left _ c.at.ensures c.get_unchecked-at.ensures.bytes
    c.get_unchecked-at.ensures.begin c.get_unchecked-at.ensures.offset c.args.index
    c.in_ok-left.ensures)

pub verify_tables-returns : goal.verify_tables-returns
verify_tables-returns t c =
    let W = Walks (shapes c.args.schema.now) c.args.depth in
    let items = view_of c.in-Ok.items in
    vector_is W (place_faults c.args.place)
    (λ i. reference_steps (place_faults c.args.place (Some i)) c.args.index)
    (slice_bytes c.args.buffer) (slice_start c.args.buffer) c.args.offset items c.args.before _
    c.in-Ok.ensures
    (items_end W items.count
    (λ i. reference_steps (place_faults c.args.place (Some i)) c.args.index items.bytes items.start
    (i * 4)) c.loop-i.i c.args.before c.loop-i.left (search rules) c.loop-i.invariant)

pub verify_union-returns-in-Ok-Some : goal.verify_union-returns-in-Ok-Some
verify_union-returns-in-Ok-Some t c =
    let W = Walks (shapes c.args.schema.now) c.args.depth in
    let there = tagged_there c.args.table c.args.place.slot c.in-Ok-Some.field-0 c.in-Ok-Some.tagged
    c.in-Ok-Some.field-0-is c.in-Ok-Some.ensures in
    union_there W c.args.schema.now.variants.now c.args.place c.args.required c.args.union c.args.place.slot
    c.args.table c.args.left there.0 _ _ _ _ c.verify_variant.result there.1 there.2.tag_is
    there.2.place_is.bytes there.2.place_is.begin there.2.place_is.offset
    c.verify_variant.ensures

pub verify_union-returns-in-Ok-None : goal.verify_union-returns-in-Ok-None
verify_union-returns-in-Ok-None t c =
    let W = Walks (shapes c.args.schema.now) c.args.depth in
    union_absent W c.args.schema.now.variants.now c.args.place c.args.required c.args.union c.args.place.slot
    c.args.table c.args.left c.absent.result
    (tagged_absent c.args.table c.args.place.slot c.in-Ok-None.field-0 c.in-Ok-None.field-0-is
    c.in-Ok-None.ensures) c.absent.ensures

pub verify_unions-returns-in-Err : goal.verify_unions-returns-in-Err
verify_unions-returns-in-Err t c =
    let W = Walks (shapes c.args.schema.now) c.args.depth in
    unions_fail W c.args.schema.now.variants.now c.args.place c.args.required c.args.union c.args.place.slot
    c.args.table c.args.before c.in-Err.error.error_kind c.in-Err.ensures.0

pub verify_unions-loop-i-init : goal.verify_unions-loop-i-init
verify_unions-loop-i-init t c =
    let items = unions_of c.in-Ok-Some.items in
    items_begin (Walks (shapes c.args.schema.now) c.args.depth) items.count
    (items_steps c.args.schema.now.variants.now c.args.place c.args.union items) c.args.before

pub verify_unions-returns-in_err-left : goal.verify_unions-returns-in_err-left
verify_unions-returns-in_err-left t c =
    let W = Walks (shapes c.args.schema.now) c.args.depth in
    let answer = c.from_residual.result in
    let found = c.in_err-left.field-0.0 in
    let same : answer ≡ Err found = search rules in
    let items = unions_of c.in-Ok-Some.items in
    let one = c.in-Ok.ensures in
    let slots = vector_there c.args.table c.args.place.slot c.in-Ok-Some.field-0
    c.in-Ok-Some.items c.in-Ok-Some.field-0-is c.in-Ok-Some.ensures in
    let here = variant_item W c.args.place c.at.result c.loop-i.i _ items.references _ items.start _
    (c.loop-i.i * 4) c.loop-i.left (Err found)
    c.at.ensures one.place_is.bytes one.place_is.begin
    one.place_is.offset _
    (subst (λ n. InOrder W (variant_steps (fault.Field c.at.result) (variant_in
    c.args.schema.now.variants.now c.args.union n) (place_bytes (tagged_place c.in-Ok.tagged))
    (place_start (tagged_place c.in-Ok.tagged)) (place_offset (tagged_place c.in-Ok.tagged))) c.loop-i.left (Err found)) one.tag_is
    c.in_err-left.ensures) in
    unions_there W c.args.schema.now.variants.now c.args.place c.args.required c.args.union c.args.place.slot
    c.args.table c.args.before items answer slots.0 slots.1
    (subst (InOrder W _ c.args.before) (sym same)
    (item_stops W items.count
    (items_steps c.args.schema.now.variants.now c.args.place c.args.union items) c.loop-i.i c.args.before c.loop-i.left found (search rules) c.loop-i.invariant here))

pub verify_unions-loop-i-preserved : goal.verify_unions-loop-i-preserved
verify_unions-loop-i-preserved t c =
    let W = Walks (shapes c.args.schema.now) c.args.depth in
    let items = unions_of c.in-Ok-Some.items in
    let next = c.in_ok-left.left in
    let one = c.in-Ok.ensures in
    item_passes W items.count
    (items_steps c.args.schema.now.variants.now c.args.place c.args.union items) c.loop-i.i c.args.before c.loop-i.left next (search rules) c.loop-i.invariant
    (variant_item W c.args.place c.at.result c.loop-i.i _ items.references _ items.start _
    (c.loop-i.i * 4) c.loop-i.left (Ok next)
    c.at.ensures one.place_is.bytes one.place_is.begin
    one.place_is.offset _
    (subst (λ n. InOrder W (variant_steps (fault.Field c.at.result) (variant_in
    c.args.schema.now.variants.now c.args.union n) (place_bytes (tagged_place c.in-Ok.tagged))
    (place_start (tagged_place c.in-Ok.tagged)) (place_offset (tagged_place c.in-Ok.tagged))) c.loop-i.left (Ok next)) one.tag_is
    c.in_ok-left.ensures))

pub verify_unions-returns : goal.verify_unions-returns
verify_unions-returns t c =
    let W = Walks (shapes c.args.schema.now) c.args.depth in
    let items = unions_of c.in-Ok-Some.items in
    let slots = vector_there c.args.table c.args.place.slot c.in-Ok-Some.field-0
    c.in-Ok-Some.items c.in-Ok-Some.field-0-is c.in-Ok-Some.ensures in
    unions_there W c.args.schema.now.variants.now c.args.place c.args.required c.args.union c.args.place.slot
    c.args.table c.args.before items _ slots.0 slots.1
    (items_end W items.count
    (items_steps c.args.schema.now.variants.now c.args.place c.args.union items) c.loop-i.i c.args.before c.loop-i.left (search rules) c.loop-i.invariant)

pub verify_value-returns-in-Text : goal.verify_value-returns-in-Text
verify_value-returns-in-Text t c =
    let W = Walks (shapes c.args.schema.now) c.args.depth in
    subst (λ k. InOrder W (value_steps (place_faults c.args.place) k (slice_bytes c.args.buffer)
    (slice_start c.args.buffer) c.args.offset) c.args.left c.verify_text.result) (sym c.in-Text.is)
    (let at = c.new-at.ensures in
    subst (λ l. InOrder W (text_steps (fault.Field c.args.place) l c.args.offset) c.args.left
    c.verify_text.result) at.bytes
    (subst (λ k. InOrder W (text_steps (fault.Field c.args.place) (place_bytes c.new-at.result) k)
    c.args.left c.verify_text.result) at.offset
    (no_tables W (text_steps (fault.Field c.args.place) (place_bytes c.new-at.result)
    (place_offset c.new-at.result)) c.args.left c.verify_text.result c.verify_text.ensures)))

pub verify_value-returns-in-Texts : goal.verify_value-returns-in-Texts
verify_value-returns-in-Texts t c =
    let W = Walks (shapes c.args.schema.now) c.args.depth in
    subst (λ k. InOrder W (value_steps (place_faults c.args.place) k (slice_bytes c.args.buffer)
    (slice_start c.args.buffer) c.args.offset) c.args.left c.verify_texts.result) (sym c.in-Texts.is)
    (no_tables (Walks (shapes c.args.schema.now) c.args.depth) (value_steps (place_faults c.args.place)
    value.Texts (slice_bytes c.args.buffer) (slice_start c.args.buffer) c.args.offset) c.args.left
    c.verify_texts.result c.verify_texts.ensures)

pub verify_value-returns-in-Table : goal.verify_value-returns-in-Table
verify_value-returns-in-Table t c =
    let W = Walks (shapes c.args.schema.now) c.args.depth in
    subst (λ k. InOrder W (value_steps (place_faults c.args.place) k (slice_bytes c.args.buffer)
    (slice_start c.args.buffer) c.args.offset) c.args.left c.verify_reference.result) (sym c.in-Table.is)
    (let at = c.new-at.ensures in
    place_is (λ S start f. InOrder W (reference_steps (fault.Field c.args.place) c.in-Table.index S
    start f) c.args.left c.verify_reference.result) _ _ _ _ _ _ at.bytes at.begin at.offset
    c.verify_reference.ensures)

pub verify_value-returns-in-Nested : goal.verify_value-returns-in-Nested
verify_value-returns-in-Nested t c =
    let W = Walks (shapes c.args.schema.now) c.args.depth in
    subst (λ k. InOrder W (value_steps (place_faults c.args.place) k (slice_bytes c.args.buffer)
    (slice_start c.args.buffer) c.args.offset) c.args.left c.verify_nested.result) (sym c.in-Nested.is)
    (let at = c.new-at.ensures in
    place_is (λ S start f. InOrder W (value_steps (place_faults c.args.place)
    (value.Nested c.in-Nested.index) S start f) c.args.left c.verify_nested.result) _ _ _ _ _ _
    at.bytes at.begin at.offset c.verify_nested.ensures)

pub verify_variant-returns-in-Some-Table : goal.verify_variant-returns-in-Some-Table
verify_variant-returns-in-Some-Table t c =
    let W = Walks (shapes c.args.schema.now) c.args.depth in
    let tagged = c.args.tagged in
    let variants = c.args.schema.now.variants.now in
    let known = sym c.in-Some-Table.is ∙ (c.variant_kind.ensures
    ∙ ap (variant_in variants c.args.union) c.tag.ensures) in
    subst (λ o. InOrder W (variant_steps (fault.Field c.args.place) o
    (place_bytes (tagged_place tagged)) (place_start (tagged_place tagged))
    (place_offset (tagged_place tagged))) c.args.left c.verify_reference.result)
    (ap (λ k. Some k) (sym c.in-Some-Table.field-0-is) ∙ known)
    (subst (λ p. InOrder W (reference_steps (fault.Field c.args.place) c.in-Some-Table.index
    (place_bytes p) (place_start p) (place_offset p)) c.args.left c.verify_reference.result)
    c.place-at.ensures c.verify_reference.ensures)

pub verify_variant-returns-in-Some-Text : goal.verify_variant-returns-in-Some-Text
verify_variant-returns-in-Some-Text t c =
    let W = Walks (shapes c.args.schema.now) c.args.depth in
    let tagged = c.args.tagged in
    let variants = c.args.schema.now.variants.now in
    let known = sym c.in-Some-Text.is ∙ (c.variant_kind.ensures
    ∙ ap (variant_in variants c.args.union) c.tag.ensures) in
    subst (λ o. InOrder W (variant_steps (fault.Field c.args.place) o
    (place_bytes (tagged_place tagged)) (place_start (tagged_place tagged))
    (place_offset (tagged_place tagged))) c.args.left c.verify_text.result)
    (ap (λ k. Some k) (sym c.in-Some-Text.field-0-is) ∙ known)
    (no_tables W (text_steps (fault.Field c.args.place) (place_bytes (tagged_place tagged))
    (place_offset (tagged_place tagged))) c.args.left c.verify_text.result
    (subst (λ p. InOrder NoTable (text_steps (fault.Field c.args.place) (place_bytes p)
    (place_offset p)) c.args.left c.verify_text.result) c.place-at.ensures c.verify_text.ensures))
