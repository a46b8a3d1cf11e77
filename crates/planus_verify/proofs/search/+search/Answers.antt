use Rattle.std.proofs.Common.{ap, ◌≡◌, ◌∙◌, ◌*◌, arith, rules, drop, Some, Ok, Err, sym, subst, add-one, slice_index}
use Rattle.std.proofs.Math.ListN.{drop_of_length-le}
use Rattle.std.proofs.Math.Seq.{drop-cons}
use Rattle.planus_read.specs.Places.{place_bytes, place_start, place_offset, tagged_place}
use Rattle.planus_read.specs.Reading.{table_clauses}
use Rattle.planus_read.specs.Slices.{slice_bytes, slice_start}
use Rattle.planus_read.specs.Tables.{table_object, table_slots, table_start}
use Rattle.planus_view.specs.VectorView.{view_of}
use Rattle.planus_view.specs.UnionVectorView.{view_of as unions_of}
use Rattle.planus_verify.specs.Schemas.{shapes, variant_in}
use Rattle.planus_verify.specs.Searches.{SearchesField, SearchesFields, SearchesSteps}
use Rattle.planus_verify.specs.Soughts.{ends_of}
use Rattle.planus_verify.specs.Steps.{reference_steps, variant_steps, value_steps, place_faults}
use Rattle.planus_verify.specs.Steps.{items_from}
use Rattle.planus_verify.specs.declared.fault.Fault.TheVariants as fault
use Rattle.planus_verify.specs.declared.schema.ValueKind.TheVariants as value
use Rattle.planus_verify.specs.declared.schema.FieldKind.TheVariants as kind
use Rattle.planus_verify.specs.declared.schema.VariantKind.TheVariants as variant
use Rattle.planus_verify.proofs.Fields.{place_of}
use Rattle.planus_verify.proofs.FieldReadings.{of_kind, value_read, value_absent, item_read}
use Rattle.planus_verify.proofs.FieldSearches.{absent_passed, plain_passed, text_passed}
use Rattle.planus_verify.proofs.FieldSearches.{bytes_passed, plains_passed, texts_passed}
use Rattle.planus_verify.proofs.FieldSearches.{union_absent, union_fails, unions_absent, unions_fail}
use Rattle.planus_verify.proofs.FieldSearches.{vector_fails, vector_searched, nested_fails}
use Rattle.planus_verify.proofs.FieldSearches.{nested_searched, union_searched, unions_searched}
use Rattle.planus_verify.proofs.FieldSearches.{vector_absent}
use Rattle.planus_verify.proofs.Outcomes.{broken}
use Rattle.planus_verify.proofs.Searches.{table_searched, table_found, too_deep, too_many}
use Rattle.planus_verify.proofs.Searches.{reference_found, reference_fails, reference_field}
use Rattle.planus_verify.proofs.Searches.{field_passes, field_stops, fields_end, FieldsSoFar}
use Rattle.planus_verify.proofs.Searches.{items_begin, item_passes, item_stops, items_end}
use Rattle.planus_verify.proofs.Searches.{item_steps}
use Rattle.planus_verify.proofs.Tables.{table_is, place_is}
use Rattle.planus_verify.proofs.Unions.{tagged_there, tagged_absent, vector_there, items_steps}
use Rattle.planus_verify.proofs.search.+search.Goals as goal

pub search_field-returns-then-offset-eq0 : goal.search_field-returns-then-offset-eq0
search_field-returns-then-offset-eq0 t c =
    let schema = shapes c.args.search.now.schema in
    let begins = c.offset_from_start.ensures ∙ c.object.ensures.start in
    let same = ap (λ n. place_of c.args.index n c.args.field.now) begins in
    let place = place_of c.args.index c.offset_from_start.result c.args.field.now in
    value_absent
    (λ steps. SearchesField schema (ends_of (shapes c.args.search.now.schema) c.args.search.now.sought) c.args.depth steps c.args.left
    (Ok c.args.left)) schema.variants c.args.index (table_object c.args.table)
    (table_slots c.args.table) (table_start c.args.table) c.args.field.now place same
    c.in-Value.kind c.slot_offset-offset.result c.in-Value.is c.slot_offset-offset.ensures.value
    c.if-offset-eq0.true
    (absent_passed schema (ends_of (shapes c.args.search.now.schema) c.args.search.now.sought) c.args.depth c.args.left (place_faults place)
    c.args.field.now.required)

pub search_field-returns-else-offset-eq0 : goal.search_field-returns-else-offset-eq0
search_field-returns-else-offset-eq0 t c =
    let schema = shapes c.args.search.now.schema in
    let begins = c.offset_from_start.ensures ∙ c.object.ensures.start in
    let same = ap (λ n. place_of c.args.index n c.args.field.now) begins in
    value_read
    (λ steps. SearchesField schema (ends_of (shapes c.args.search.now.schema) c.args.search.now.sought) c.args.depth steps c.args.left
    c.search_value.result) schema.variants c.args.index (table_object c.args.table)
    (table_slots c.args.table) (table_start c.args.table) c.args.field.now
    (place_of c.args.index c.offset_from_start.result c.args.field.now) same c.in-Value.kind
    (slice_bytes c.object-in-Value.result) (slice_start c.object-in-Value.result)
    c.slot_offset-offset.result c.in-Value.is c.object-in-Value.ensures.bytes
    c.object-in-Value.ensures.start c.slot_offset-offset.ensures.value c.if-offset-eq0.false
    c.search_value.ensures

pub search_field-returns-in-Union : goal.search_field-returns-in-Union
search_field-returns-in-Union t c =
    let schema = shapes c.args.search.now.schema in
    let begins = c.offset_from_start.ensures ∙ c.object.ensures.start in
    let same = ap (λ n. place_of c.args.index n c.args.field.now) begins in
    of_kind
    (λ steps. SearchesField schema (ends_of (shapes c.args.search.now.schema) c.args.search.now.sought) c.args.depth steps c.args.left
    c.search_union.result) schema.variants c.args.index (table_object c.args.table)
    (table_slots c.args.table) (table_start c.args.table) c.args.field.now
    (place_of c.args.index c.offset_from_start.result c.args.field.now) same
    (kind.Union c.in-Union.union) c.in-Union.is (c.search_union.ensures c.args.field.now.required)

pub search_field-returns-in-Unions : goal.search_field-returns-in-Unions
search_field-returns-in-Unions t c =
    let schema = shapes c.args.search.now.schema in
    let begins = c.offset_from_start.ensures ∙ c.object.ensures.start in
    let same = ap (λ n. place_of c.args.index n c.args.field.now) begins in
    of_kind
    (λ steps. SearchesField schema (ends_of (shapes c.args.search.now.schema) c.args.search.now.sought) c.args.depth steps c.args.left
    c.search_unions.result) schema.variants c.args.index (table_object c.args.table)
    (table_slots c.args.table) (table_start c.args.table) c.args.field.now
    (place_of c.args.index c.offset_from_start.result c.args.field.now) same
    (kind.Unions c.in-Unions.union) c.in-Unions.is
    (c.search_unions.ensures c.args.field.now.required)

pub search_fields-loop-field-init : goal.search_fields-loop-field-init
search_fields-loop-field-init t c =
    λ r h. h

pub search_fields-returns-in_err-left : goal.search_fields-returns-in_err-left
search_fields-returns-in_err-left t c =
    let schema = shapes c.args.search.now.schema in
    let answer = c.from_residual.result in
    let end = c.in_err-left.field-0.0 in
    let same : answer ≡ Err end = search rules in
    subst
    (SearchesFields schema (ends_of (shapes c.args.search.now.schema) c.args.search.now.sought) c.args.depth c.args.index
    (table_object c.args.table) (table_slots c.args.table) (table_start c.args.table)
    c.args.fields.now c.args.before) (sym same)
    (field_stops schema (ends_of (shapes c.args.search.now.schema) c.args.search.now.sought) c.args.depth c.args.index
    (table_object c.args.table) (table_slots c.args.table) (table_start c.args.table)
    c.args.fields.now c.args.before (drop c.loop-field.field-index c.args.fields.now) _ _
    c.loop-field.left end
    (drop-cons c.args.fields.now c.loop-field.field-index _ c.loop-field-test.true)
    c.loop-field.invariant c.in_err-left.ensures)

pub search_fields-loop-field-preserved : goal.search_fields-loop-field-preserved
search_fields-loop-field-preserved t c =
    let schema = shapes c.args.search.now.schema in
    subst
    (λ k. FieldsSoFar schema (ends_of (shapes c.args.search.now.schema) c.args.search.now.sought) c.args.depth c.args.index
    (table_object c.args.table) (table_slots c.args.table) (table_start c.args.table)
    c.args.fields.now c.args.before (drop k c.args.fields.now) c.in_ok-left.left)
    (sym (add-one c.loop-field.field-index))
    (field_passes schema (ends_of (shapes c.args.search.now.schema) c.args.search.now.sought) c.args.depth c.args.index
    (table_object c.args.table) (table_slots c.args.table) (table_start c.args.table)
    c.args.fields.now c.args.before (drop c.loop-field.field-index c.args.fields.now) _ _
    c.loop-field.left c.in_ok-left.left
    (drop-cons c.args.fields.now c.loop-field.field-index _ c.loop-field-test.true)
    c.loop-field.invariant c.in_ok-left.ensures)

pub search_fields-returns : goal.search_fields-returns
search_fields-returns t c =
    let past = c.loop-field-test.false in
    fields_end (shapes c.args.search.now.schema) (ends_of (shapes c.args.search.now.schema) c.args.search.now.sought) c.args.depth c.args.index
    (table_object c.args.table) (table_slots c.args.table) (table_start c.args.table)
    c.args.fields.now c.args.before (drop c.loop-field.field-index c.args.fields.now)
    c.loop-field.left (drop_of_length-le c.args.fields.now (omega (arith, past)))
    c.loop-field.invariant

pub search_nested-returns-in-Ok : goal.search_nested-returns-in-Ok
search_nested-returns-in-Ok t c =
    let there = c.in-Ok.ensures in
    nested_searched (shapes c.args.search.now.schema) (ends_of (shapes c.args.search.now.schema) c.args.search.now.sought) c.args.depth
    c.args.left c.args.place c.args.index (place_bytes c.args.at) (place_start c.args.at)
    (place_offset c.args.at) there.0 (place_bytes c.new-root.result)
    (place_start c.new-root.result) (place_offset c.new-root.result) c.search_reference.result
    there.1 (c.new-root.ensures.bytes ∙ (c.new.ensures.bytes ∙ there.2))
    (c.new-root.ensures.begin ∙ c.new.ensures.start) c.new-root.ensures.offset
    c.search_reference.ensures

pub search_nested-returns-in-Err : goal.search_nested-returns-in-Err
search_nested-returns-in-Err t c =
    nested_fails (shapes c.args.search.now.schema) (ends_of (shapes c.args.search.now.schema) c.args.search.now.sought) c.args.depth
    c.args.left c.args.place c.args.index (place_bytes c.args.at) (place_start c.args.at)
    (place_offset c.args.at) _ c.in-Err.ensures

pub search_reference-returns-in-Ok : goal.search_reference-returns-in-Ok
search_reference-returns-in-Ok t c =
    reference_found (shapes c.args.search.now.schema) (ends_of (shapes c.args.search.now.schema) c.args.search.now.sought) c.args.depth
    c.args.place c.args.index (place_bytes c.args.at) (place_start c.args.at)
    (place_offset c.args.at) c.in-Ok.table c.args.left c.search_table.result _
    (table_is (place_bytes c.args.at) (place_start c.args.at) (place_offset c.args.at)
    c.in-Ok.table c.in-Ok.ensures)
    c.search_table.ensures c.extended.ensures

pub search_reference-returns-in-Err : goal.search_reference-returns-in-Err
search_reference-returns-in-Err t c =
    reference_fails (shapes c.args.search.now.schema) (ends_of (shapes c.args.search.now.schema) c.args.search.now.sought) c.args.depth
    c.args.place c.args.index (place_bytes c.args.at) (place_start c.args.at)
    (place_offset c.args.at) c.args.left
    (broken (table_clauses (place_bytes c.args.at) (place_offset c.args.at)) _ c.in-Err.ensures)

pub search_table-returns-then-depth-eq0 : goal.search_table-returns-then-depth-eq0
search_table-returns-then-depth-eq0 t c =
    too_deep (shapes c.args.search.now.schema) (ends_of (shapes c.args.search.now.schema) c.args.search.now.sought) c.args.depth c.args.index
    (table_object c.args.table) (table_slots c.args.table) (table_start c.args.table) c.args.left
    c.if-depth-eq0.true

pub search_table-returns-then-left-eq0 : goal.search_table-returns-then-left-eq0
search_table-returns-then-left-eq0 t c =
    too_many (shapes c.args.search.now.schema) (ends_of (shapes c.args.search.now.schema) c.args.search.now.sought) c.args.depth c.args.index
    (table_object c.args.table) (table_slots c.args.table) (table_start c.args.table) c.args.left
    c.if-depth-eq0.false c.if-left-eq0.true

pub search_table-returns-in-Some : goal.search_table-returns-in-Some
search_table-returns-in-Some t c =
    let schema = shapes c.args.search.now.schema in
    table_found schema (ends_of schema c.args.search.now.sought) c.args.depth c.args.index
    (table_object c.args.table) (table_slots c.args.table) (table_start c.args.table) c.args.left
    c.new.result.items c.in-Some.last c.put.result c.if-depth-eq0.false c.in-Some.ensures.some
    (search rules) c.put.ensures

pub search_table-returns : goal.search_table-returns
search_table-returns t c =
    table_searched (shapes c.args.search.now.schema) (ends_of (shapes c.args.search.now.schema) c.args.search.now.sought) c.args.depth
    c.args.index (table_object c.args.table) (table_slots c.args.table) (table_start c.args.table)
    c.fields_at-fields.result.now c.args.left c.search_fields.result c.if-depth-eq0.false
    c.if-left-eq0.false c.in_default.ensures.none c.fields_at-fields.ensures
    c.search_fields.ensures

pub search_tables-returns-in-Err : goal.search_tables-returns-in-Err
search_tables-returns-in-Err t c =
    vector_fails (shapes c.args.search.now.schema) (ends_of (shapes c.args.search.now.schema) c.args.search.now.sought) c.args.depth
    c.args.before c.args.place c.args.index (slice_bytes c.args.buffer)
    (slice_start c.args.buffer) c.args.offset _ c.in-Err.ensures

pub search_tables-loop-i-init : goal.search_tables-loop-i-init
search_tables-loop-i-init t c =
    let items = view_of c.in-Ok.items in
    items_begin (shapes c.args.search.now.schema) (ends_of (shapes c.args.search.now.schema) c.args.search.now.sought) c.args.depth items.count
    (λ i. place_faults c.args.place (Some i)) (λ i. Some (variant.Table c.args.index)) items.bytes items.start
    c.args.before

pub search_tables-returns-in_err-left : goal.search_tables-returns-in_err-left
search_tables-returns-in_err-left t c =
    let schema = shapes c.args.search.now.schema in
    let to = (ends_of (shapes c.args.search.now.schema) c.args.search.now.sought) in
    let answer = c.from_residual.result in
    let end = c.in_err-left.field-0.0 in
    let same : answer ≡ Err end = search rules in
    let items = view_of c.in-Ok.items in
    let here = item_read
    (λ steps. SearchesSteps schema to c.args.depth steps c.loop-i.left (Err end)) c.args.place
    c.at.result c.loop-i.i _ items.bytes _ items.start _ (c.loop-i.i * 4)
    (Some (variant.Table c.args.index))
    c.at.ensures c.get_unchecked-at.ensures.bytes c.get_unchecked-at.ensures.begin
    c.get_unchecked-at.ensures.offset c.in_err-left.ensures in
    vector_searched schema to c.args.depth c.args.before c.args.place c.args.index
    (slice_bytes c.args.buffer) (slice_start c.args.buffer) c.args.offset items answer
    c.in-Ok.ensures
    (subst
    (SearchesSteps schema to c.args.depth (items_from 0 items.count
    (item_steps (λ i. place_faults c.args.place (Some i)) (λ i. Some (variant.Table c.args.index)) items.bytes
    items.start)) c.args.before) (sym same)
    (item_stops schema to c.args.depth items.count (λ i. place_faults c.args.place (Some i))
    (λ i. Some (variant.Table c.args.index)) items.bytes items.start c.loop-i.i c.args.before c.loop-i.left end
    (search rules) c.loop-i.invariant here))

pub search_tables-loop-i-preserved : goal.search_tables-loop-i-preserved
search_tables-loop-i-preserved t c =
    let schema = shapes c.args.search.now.schema in
    let to = (ends_of (shapes c.args.search.now.schema) c.args.search.now.sought) in
    let items = view_of c.in-Ok.items in
    let next = c.in_ok-left.left in
    item_passes schema to c.args.depth items.count (λ i. place_faults c.args.place (Some i))
    (λ i. Some (variant.Table c.args.index)) items.bytes items.start c.loop-i.i c.args.before c.loop-i.left next
    (search rules) c.loop-i.invariant
    (item_read
    (λ steps. SearchesSteps schema to c.args.depth steps c.loop-i.left (Ok next)) c.args.place
    c.at.result c.loop-i.i _ items.bytes _ items.start _ (c.loop-i.i * 4)
    (Some (variant.Table c.args.index))
    c.at.ensures c.get_unchecked-at.ensures.bytes c.get_unchecked-at.ensures.begin
    c.get_unchecked-at.ensures.offset c.in_ok-left.ensures)

pub search_tables-returns : goal.search_tables-returns
search_tables-returns t c =
    let schema = shapes c.args.search.now.schema in
    let to = (ends_of (shapes c.args.search.now.schema) c.args.search.now.sought) in
    let items = view_of c.in-Ok.items in
    vector_searched schema to c.args.depth c.args.before c.args.place c.args.index
    (slice_bytes c.args.buffer) (slice_start c.args.buffer) c.args.offset items
    (Ok c.loop-i.left) c.in-Ok.ensures
    (items_end schema to c.args.depth items.count (λ i. place_faults c.args.place (Some i))
    (λ i. Some (variant.Table c.args.index)) items.bytes items.start c.loop-i.i c.args.before c.loop-i.left
    (search rules) c.loop-i.invariant)

pub search_union-returns-in-Ok-Some : goal.search_union-returns-in-Ok-Some
search_union-returns-in-Ok-Some t c =
    let schema = shapes c.args.search.now.schema in
    let there = tagged_there c.args.table c.args.place.slot c.in-Ok-Some.field-0
    c.in-Ok-Some.tagged c.in-Ok-Some.field-0-is c.in-Ok-Some.ensures in
    λ required. union_searched schema (ends_of (shapes c.args.search.now.schema) c.args.search.now.sought) c.args.depth c.args.left c.args.place
    schema.variants required c.args.union c.args.place.slot c.args.table c.search_variant.result
    there.0 _ _ _ _ there.1 there.2.tag_is there.2.place_is.bytes there.2.place_is.begin
    there.2.place_is.offset c.search_variant.ensures

pub search_union-returns-in-Ok-None : goal.search_union-returns-in-Ok-None
search_union-returns-in-Ok-None t c =
    let schema = shapes c.args.search.now.schema in
    λ required. union_absent schema (ends_of (shapes c.args.search.now.schema) c.args.search.now.sought) c.args.depth c.args.left
    schema.variants c.args.place required c.args.union c.args.place.slot c.args.table
    (tagged_absent c.args.table c.args.place.slot c.in-Ok-None.field-0 c.in-Ok-None.field-0-is
    c.in-Ok-None.ensures)

pub search_union-returns-in-Err : goal.search_union-returns-in-Err
search_union-returns-in-Err t c =
    let schema = shapes c.args.search.now.schema in
    λ required. union_fails schema (ends_of (shapes c.args.search.now.schema) c.args.search.now.sought) c.args.depth c.args.left
    schema.variants c.args.place required c.args.union c.args.place.slot c.args.table _
    c.in-Err.ensures.0

pub search_unions-returns-in-Ok-None : goal.search_unions-returns-in-Ok-None
search_unions-returns-in-Ok-None t c =
    let schema = shapes c.args.search.now.schema in
    λ required. unions_absent schema (ends_of (shapes c.args.search.now.schema) c.args.search.now.sought) c.args.depth c.args.before
    schema.variants c.args.place required c.args.union c.args.place.slot c.args.table
    (vector_absent c.args.table c.args.place.slot c.in-Ok-None.field-0 c.in-Ok-None.field-0-is
    c.in-Ok-None.ensures)

pub search_unions-returns-in-Err : goal.search_unions-returns-in-Err
search_unions-returns-in-Err t c =
    let schema = shapes c.args.search.now.schema in
    λ required. unions_fail schema (ends_of (shapes c.args.search.now.schema) c.args.search.now.sought) c.args.depth c.args.before
    schema.variants c.args.place required c.args.union c.args.place.slot c.args.table _
    c.in-Err.ensures.0

pub search_unions-loop-i-init : goal.search_unions-loop-i-init
search_unions-loop-i-init t c =
    let schema = shapes c.args.search.now.schema in
    let items = unions_of c.in-Ok-Some.items in
    items_begin schema (ends_of (shapes c.args.search.now.schema) c.args.search.now.sought) c.args.depth items.count
    (λ i. place_faults c.args.place (Some i))
    (λ i. variant_in schema.variants c.args.union (slice_index items.tags i)) items.references
    items.start c.args.before

pub search_unions-returns-in_err-left : goal.search_unions-returns-in_err-left
search_unions-returns-in_err-left t c =
    let schema = shapes c.args.search.now.schema in
    let to = (ends_of (shapes c.args.search.now.schema) c.args.search.now.sought) in
    let answer = c.from_residual.result in
    let end = c.in_err-left.field-0.0 in
    let same : answer ≡ Err end = search rules in
    let items = unions_of c.in-Ok-Some.items in
    let one = c.in-Ok.ensures in
    let slots = vector_there c.args.table c.args.place.slot c.in-Ok-Some.field-0
    c.in-Ok-Some.items c.in-Ok-Some.field-0-is c.in-Ok-Some.ensures in
    let here = item_read
    (λ steps. SearchesSteps schema to c.args.depth steps c.loop-i.left (Err end)) c.args.place
    c.at.result c.loop-i.i _ items.references _ items.start _ (c.loop-i.i * 4)
    (variant_in schema.variants c.args.union (slice_index items.tags c.loop-i.i))
    c.at.ensures one.place_is.bytes one.place_is.begin one.place_is.offset
    (subst
    (λ n. SearchesSteps schema to c.args.depth (variant_steps (fault.Field c.at.result)
    (variant_in schema.variants c.args.union n) (place_bytes (tagged_place c.in-Ok.tagged))
    (place_start (tagged_place c.in-Ok.tagged)) (place_offset (tagged_place c.in-Ok.tagged)))
    c.loop-i.left (Err end)) one.tag_is c.in_err-left.ensures) in
    λ required. unions_searched schema to c.args.depth c.args.before c.args.place schema.variants
    required c.args.union c.args.place.slot c.args.table answer items slots.0 slots.1
    (subst
    (SearchesSteps schema to c.args.depth
    (items_from 0 items.count (items_steps schema.variants c.args.place c.args.union items))
    c.args.before) (sym same)
    (item_stops schema to c.args.depth items.count (λ i. place_faults c.args.place (Some i))
    (λ i. variant_in schema.variants c.args.union (slice_index items.tags i)) items.references
    items.start c.loop-i.i c.args.before c.loop-i.left end (search rules) c.loop-i.invariant here))

pub search_unions-loop-i-preserved : goal.search_unions-loop-i-preserved
search_unions-loop-i-preserved t c =
    let schema = shapes c.args.search.now.schema in
    let to = (ends_of (shapes c.args.search.now.schema) c.args.search.now.sought) in
    let items = unions_of c.in-Ok-Some.items in
    let next = c.in_ok-left.left in
    let one = c.in-Ok.ensures in
    item_passes schema to c.args.depth items.count (λ i. place_faults c.args.place (Some i))
    (λ i. variant_in schema.variants c.args.union (slice_index items.tags i)) items.references
    items.start c.loop-i.i c.args.before c.loop-i.left next (search rules) c.loop-i.invariant
    (item_read
    (λ steps. SearchesSteps schema to c.args.depth steps c.loop-i.left (Ok next)) c.args.place
    c.at.result c.loop-i.i _ items.references _ items.start _ (c.loop-i.i * 4)
    (variant_in schema.variants c.args.union (slice_index items.tags c.loop-i.i))
    c.at.ensures one.place_is.bytes one.place_is.begin one.place_is.offset
    (subst
    (λ n. SearchesSteps schema to c.args.depth (variant_steps (fault.Field c.at.result)
    (variant_in schema.variants c.args.union n) (place_bytes (tagged_place c.in-Ok.tagged))
    (place_start (tagged_place c.in-Ok.tagged)) (place_offset (tagged_place c.in-Ok.tagged)))
    c.loop-i.left (Ok next)) one.tag_is c.in_ok-left.ensures))

pub search_unions-returns : goal.search_unions-returns
search_unions-returns t c =
    let schema = shapes c.args.search.now.schema in
    let to = (ends_of (shapes c.args.search.now.schema) c.args.search.now.sought) in
    let items = unions_of c.in-Ok-Some.items in
    let slots = vector_there c.args.table c.args.place.slot c.in-Ok-Some.field-0
    c.in-Ok-Some.items c.in-Ok-Some.field-0-is c.in-Ok-Some.ensures in
    λ required. unions_searched schema to c.args.depth c.args.before c.args.place schema.variants
    required c.args.union c.args.place.slot c.args.table (Ok c.loop-i.left) items
    slots.0 slots.1
    (items_end schema to c.args.depth items.count (λ i. place_faults c.args.place (Some i))
    (λ i. variant_in schema.variants c.args.union (slice_index items.tags i)) items.references
    items.start c.loop-i.i c.args.before c.loop-i.left (search rules) c.loop-i.invariant)

pub search_value-returns-in-Table : goal.search_value-returns-in-Table
search_value-returns-in-Table t c =
    let schema = shapes c.args.search.now.schema in
    let to = (ends_of (shapes c.args.search.now.schema) c.args.search.now.sought) in
    let at = c.new-at.ensures in
    subst
    (λ k. SearchesField schema to c.args.depth (value_steps (place_faults c.args.place) k
    (slice_bytes c.args.buffer) (slice_start c.args.buffer) c.args.offset) c.args.left
    c.search_reference.result) (sym c.in-Table.is)
    (reference_field schema to c.args.depth (fault.Field c.args.place) c.in-Table.index
    (slice_bytes c.args.buffer) (slice_start c.args.buffer) c.args.offset c.args.left
    c.search_reference.result
    (place_is
    (λ S start f. SearchesSteps schema to c.args.depth
    (reference_steps (fault.Field c.args.place) c.in-Table.index S start f) c.args.left
    c.search_reference.result) _ _ _ _ _ _ at.bytes at.begin at.offset
    c.search_reference.ensures))

pub search_value-returns-in-Plain : goal.search_value-returns-in-Plain
search_value-returns-in-Plain t c =
    let schema = shapes c.args.search.now.schema in
    subst
    (λ k. SearchesField schema (ends_of (shapes c.args.search.now.schema) c.args.search.now.sought) c.args.depth
    (value_steps (place_faults c.args.place) k (slice_bytes c.args.buffer)
    (slice_start c.args.buffer) c.args.offset) c.args.left (Ok c.args.left)) (sym c.in-Plain.is)
    (plain_passed schema (ends_of (shapes c.args.search.now.schema) c.args.search.now.sought) c.args.depth c.args.left
    (place_faults c.args.place) c.in-Plain.field-0 (slice_bytes c.args.buffer) (slice_start c.args.buffer)
    c.args.offset)

pub search_value-returns-in-Text : goal.search_value-returns-in-Text
search_value-returns-in-Text t c =
    let schema = shapes c.args.search.now.schema in
    subst
    (λ k. SearchesField schema (ends_of (shapes c.args.search.now.schema) c.args.search.now.sought) c.args.depth
    (value_steps (place_faults c.args.place) k (slice_bytes c.args.buffer)
    (slice_start c.args.buffer) c.args.offset) c.args.left (Ok c.args.left)) (sym c.in-Text.is)
    (text_passed schema (ends_of (shapes c.args.search.now.schema) c.args.search.now.sought) c.args.depth c.args.left
    (place_faults c.args.place) (slice_bytes c.args.buffer) (slice_start c.args.buffer)
    c.args.offset)

pub search_value-returns-in-Bytes : goal.search_value-returns-in-Bytes
search_value-returns-in-Bytes t c =
    let schema = shapes c.args.search.now.schema in
    subst
    (λ k. SearchesField schema (ends_of (shapes c.args.search.now.schema) c.args.search.now.sought) c.args.depth
    (value_steps (place_faults c.args.place) k (slice_bytes c.args.buffer)
    (slice_start c.args.buffer) c.args.offset) c.args.left (Ok c.args.left)) (sym c.in-Bytes.is)
    (bytes_passed schema (ends_of (shapes c.args.search.now.schema) c.args.search.now.sought) c.args.depth c.args.left
    (place_faults c.args.place) (slice_bytes c.args.buffer) (slice_start c.args.buffer)
    c.args.offset)

pub search_value-returns-in-Plains : goal.search_value-returns-in-Plains
search_value-returns-in-Plains t c =
    let schema = shapes c.args.search.now.schema in
    subst
    (λ k. SearchesField schema (ends_of (shapes c.args.search.now.schema) c.args.search.now.sought) c.args.depth
    (value_steps (place_faults c.args.place) k (slice_bytes c.args.buffer)
    (slice_start c.args.buffer) c.args.offset) c.args.left (Ok c.args.left)) (sym c.in-Plains.is)
    (plains_passed schema (ends_of (shapes c.args.search.now.schema) c.args.search.now.sought) c.args.depth c.args.left
    (place_faults c.args.place) c.in-Plains.field-0 (slice_bytes c.args.buffer) (slice_start c.args.buffer)
    c.args.offset)

pub search_value-returns-in-Texts : goal.search_value-returns-in-Texts
search_value-returns-in-Texts t c =
    let schema = shapes c.args.search.now.schema in
    subst
    (λ k. SearchesField schema (ends_of (shapes c.args.search.now.schema) c.args.search.now.sought) c.args.depth
    (value_steps (place_faults c.args.place) k (slice_bytes c.args.buffer)
    (slice_start c.args.buffer) c.args.offset) c.args.left (Ok c.args.left)) (sym c.in-Texts.is)
    (texts_passed schema (ends_of (shapes c.args.search.now.schema) c.args.search.now.sought) c.args.depth c.args.left
    (place_faults c.args.place) (slice_bytes c.args.buffer) (slice_start c.args.buffer)
    c.args.offset)

pub search_value-returns-in-Tables : goal.search_value-returns-in-Tables
search_value-returns-in-Tables t c =
    let schema = shapes c.args.search.now.schema in
    subst
    (λ k. SearchesField schema (ends_of (shapes c.args.search.now.schema) c.args.search.now.sought) c.args.depth
    (value_steps (place_faults c.args.place) k (slice_bytes c.args.buffer)
    (slice_start c.args.buffer) c.args.offset) c.args.left c.search_tables.result)
    (sym c.in-Tables.is) c.search_tables.ensures

pub search_value-returns-in-Nested : goal.search_value-returns-in-Nested
search_value-returns-in-Nested t c =
    let schema = shapes c.args.search.now.schema in
    let to = (ends_of (shapes c.args.search.now.schema) c.args.search.now.sought) in
    let at = c.new-at.ensures in
    subst
    (λ k. SearchesField schema to c.args.depth (value_steps (place_faults c.args.place) k
    (slice_bytes c.args.buffer) (slice_start c.args.buffer) c.args.offset) c.args.left
    c.search_nested.result) (sym c.in-Nested.is)
    (place_is
    (λ S start f. SearchesField schema to c.args.depth
    (value_steps (place_faults c.args.place) (value.Nested c.in-Nested.index) S start f)
    c.args.left c.search_nested.result) _ _ _ _ _ _ at.bytes at.begin at.offset
    c.search_nested.ensures)

pub search_variant-returns-in-Some-Table : goal.search_variant-returns-in-Some-Table
search_variant-returns-in-Some-Table t c =
    let schema = shapes c.args.search.now.schema in
    let to = (ends_of (shapes c.args.search.now.schema) c.args.search.now.sought) in
    let tagged = c.args.tagged in
    let known = sym c.in-Some-Table.is ∙ (c.variant_kind.ensures
    ∙ ap (variant_in schema.variants c.args.union) c.tag.ensures) in
    subst
    (λ o. SearchesSteps schema to c.args.depth (variant_steps (fault.Field c.args.place) o
    (place_bytes (tagged_place tagged)) (place_start (tagged_place tagged))
    (place_offset (tagged_place tagged))) c.args.left c.search_reference.result)
    (ap (λ k. Some k) (sym c.in-Some-Table.field-0-is) ∙ known)
    (subst
    (λ p. SearchesSteps schema to c.args.depth (reference_steps (fault.Field c.args.place)
    c.in-Some-Table.index (place_bytes p) (place_start p) (place_offset p)) c.args.left
    c.search_reference.result) c.place.ensures c.search_reference.ensures)
