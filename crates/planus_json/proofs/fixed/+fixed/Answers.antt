use Rattle.std.proofs.Common.{◌≡◌, ◌-◌, ◌^◌, ◌≤◌, ◌∷◌, [], ap, sym, subst, ◌∙◌, Some, None, slice_get, arith, refl, length}
use Rattle.std.proofs.lemmas.Bool.{ltb-true, ltb-false}
use Rattle.std.proofs.lemmas.Option.{slice_get_past, slice_get_read}
use Rattle.std.specs.String.{string_bytes}
use Rattle.planus_read.specs.Slices.{slice_bytes}
use Rattle.planus_read.specs.Places.{place_bytes, place_offset}
use Rattle.planus_dump.specs.Lines.{item_path, field_path}
use Rattle.planus_json.specs.Json.{begins, plain, label, tokens, items_tokens}
use Rattle.planus_json.specs.Trees.{structs, struct_tree, struct_members, counted_tree, values_trees, fixed_tree, enum_tree, object}
use Rattle.planus_json.proofs.Printing.{printed_none, first_failed, second_failed, two, three, loop_failed, loop_on, loop_done, goes_begin, list_tokens, object_tokens}
use Rattle.planus_json.proofs.FixedTrees.{structs-more, structs-none, values-split, values-none, fields-split, fields-none, struct-read, item-at}
use Rattle.planus_json.proofs.fixed.+fixed.Goals as goal

pub print_fixed-returns-in-None : goal.print_fixed-returns-in-None
print_fixed-returns-in-None t c = λ ps same.
    let S = place_bytes c.args.place in let f = place_offset c.args.place in let path = c.args.path.now in let line = c.args.line.now in
    let schema = c.args.schema.now in let index = c.in-Enum.index in
    let none : slice_get schema.enums.items index ≡ None = slice_get_past schema.enums.items index
    (subst (λ xs. length xs ≤ index) c.deref.ensures.value (ltb-false index (length c.deref.result.now) (sym c.in-None.ensures.lookup.0))) in
    printed_none c.args.out.now ps
    (same ∙ ap (λ fixed. tokens line (fixed_tree schema (structs schema c.args.left) fixed S f path)) c.in-Enum.is ∙ ap (λ o. tokens line (enum_tree o S f path)) none)

pub print_struct-returns-then-left-eq0 : goal.print_struct-returns-then-left-eq0
print_struct-returns-then-left-eq0 t c = λ ps same.
    c.put_deep.ensures ps (same ∙ ap (tokens c.args.line.now) (structs-none c.args.schema.now c.args.left c.args.index (place_bytes c.args.place) (place_offset c.args.place) c.args.path.now c.if-left-eq0.true))

pub print_struct-returns-in-None : goal.print_struct-returns-in-None
print_struct-returns-in-None t c = λ ps same.
    let S = place_bytes c.args.place in let f = place_offset c.args.place in let path = c.args.path.now in
    let schema = c.args.schema.now in let index = c.args.index in
    let none : slice_get schema.structs.items index ≡ None = slice_get_past schema.structs.items index
    (subst (λ xs. length xs ≤ index) c.deref.ensures.value (ltb-false index (length c.deref.result.now) (sym c.in-None.ensures.lookup.0))) in
    printed_none c.args.out.now ps
    (same ∙ ap (tokens c.args.line.now) (structs-more schema c.args.left index S f path c.if-left-eq0.false ∙ ap (λ o. struct_tree schema (structs schema (c.args.left - 1)) o S f path) none))

pub print_struct-returns-in-Some : goal.print_struct-returns-in-Some
print_struct-returns-in-Some t c = λ ps same.
    let S = place_bytes c.args.place in let f = place_offset c.args.place in let path = c.args.path.now in
    let schema = c.args.schema.now in let index = c.args.index in
    let some : slice_get schema.structs.items index ≡ Some c.in-Some.shape.now = subst (λ xs. slice_get xs index ≡ Some c.in-Some.shape.now) c.deref.ensures.value
    (slice_get_read c.deref.result.now (length c.deref.result.now) index c.in-Some.shape.now refl (ltb-true index (length c.deref.result.now) (sym c.in-Some.ensures.lookup.0)) c.in-Some.ensures.lookup.1) in
    c.print_struct_shape.ensures ps
    (same ∙ ap (tokens c.args.line.now) (structs-more schema c.args.left index S f path c.if-left-eq0.false ∙ ap (λ o. struct_tree schema (structs schema (c.args.left - 1)) o S f path) some))

pub print_struct_shape-returns-in_err-put_open : goal.print_struct_shape-returns-in_err-put_open
print_struct_shape-returns-in_err-put_open t c = λ ps same.
    let schema = c.args.schema.now in let T = structs schema c.args.left in let path = c.args.path.now in
    let read = struct-read schema T c.args.shape.now (place_bytes c.args.place) (slice_bytes c.in-Ok.slice) (place_offset c.args.place) path c.in-Ok.ensures.0 c.in-Ok.ensures.1 in
    first_failed _ _ _ _ _ _ _ _ c.from_residual-in_err-put_open.ensures.1 (c.in_err-put_open.ensures 123 refl _ refl) (same ∙ object_tokens c.args.line.now _ _ _ read refl)

pub print_struct_shape-returns-in_err-print_struct_fields : goal.print_struct_shape-returns-in_err-print_struct_fields
print_struct_shape-returns-in_err-print_struct_fields t c = λ ps same.
    let schema = c.args.schema.now in let T = structs schema c.args.left in let path = c.args.path.now in let slice = slice_bytes c.in-Ok.slice in
    let read = struct-read schema T c.args.shape.now (place_bytes c.args.place) slice (place_offset c.args.place) path c.in-Ok.ensures.0 c.in-Ok.ensures.1
    ∙ ap (λ fields. object (struct_members schema T fields slice path)) (sym c.as_slice-fields.ensures.value) in
    second_failed _ _ _ _ _ _ _ _ _ _ c.from_residual-in_err-print_struct_fields.ensures.1 (c.in_ok-put_open.ensures 123 refl _ refl) (c.in_err-print_struct_fields.ensures _ refl)
    (same ∙ object_tokens c.args.line.now c.as_str.result.now _ _ read (c.as_str.ensures.value ∙ c.in_ok-inner.ensures))

pub print_struct_shape-returns : goal.print_struct_shape-returns
print_struct_shape-returns t c = λ ps same.
    let schema = c.args.schema.now in let T = structs schema c.args.left in let path = c.args.path.now in let slice = slice_bytes c.in-Ok.slice in
    let read = struct-read schema T c.args.shape.now (place_bytes c.args.place) slice (place_offset c.args.place) path c.in-Ok.ensures.0 c.in-Ok.ensures.1
    ∙ ap (λ fields. object (struct_members schema T fields slice path)) (sym c.as_slice-fields.ensures.value) in
    three _ _ _ _ _ _ _ _ _ (c.in_ok-put_open.ensures 123 refl _ refl) (c.in_ok-print_struct_fields.ensures _ refl) (c.put_close.ensures 125 refl _ refl)
    (same ∙ object_tokens c.args.line.now c.as_str.result.now _ _ read (c.as_str.ensures.value ∙ c.in_ok-inner.ensures))

pub print_struct_fields-loop-field-preserved : goal.print_struct_fields-loop-field-preserved
print_struct_fields-loop-field-preserved t c =
    let schema = c.args.schema.now in let T = structs schema c.args.left in
    loop_on _ _ _ _ _ _ _ c.loop-field.invariant (c.in_ok-print_struct_member.ensures _ refl)
    (fields-split schema T c.args.line.now (slice_bytes c.args.slice) c.args.path.now c.args.fields.now c.loop-field.field-index c.field-item.result (omega arith) c.field-item.is)

pub print_struct_fields-returns-in_err-print_struct_member : goal.print_struct_fields-returns-in_err-print_struct_member
print_struct_fields-returns-in_err-print_struct_member t c = λ ps same.
    let schema = c.args.schema.now in let T = structs schema c.args.left in
    loop_failed _ _ _ _ _ _ _ _ _ _ _ c.from_residual.ensures.1 c.loop-field.invariant (c.in_err-print_struct_member.ensures _ refl)
    (fields-split schema T c.args.line.now (slice_bytes c.args.slice) c.args.path.now c.args.fields.now c.loop-field.field-index c.field-item.result (omega arith) c.field-item.is) same

pub print_struct_fields-returns : goal.print_struct_fields-returns
print_struct_fields-returns t c = λ ps same.
    loop_done c.loop-field.invariant (fields-none c.args.schema.now (structs c.args.schema.now c.args.left) c.args.line.now (slice_bytes c.args.slice) c.args.path.now c.args.fields.now c.loop-field.field-index (omega (arith, c.loop-field-test.false))) same

pub print_struct_member-returns-in_err-put_name : goal.print_struct_member-returns-in_err-put_name
print_struct_member-returns-in_err-put_name t c = λ ps same.
    let line = c.args.line.now in
    first_failed _ _ _ _ _ _ _ _ c.from_residual-in_err-put_name.ensures.1 (c.in_err-put_name.ensures (begins line ∷ plain (label line (string_bytes c.args.field.now.name)) ∷ []) (ap (λ name. begins line ∷ plain (label line name) ∷ []) (sym c.as_str.ensures.value))) same

pub print_struct_member-returns : goal.print_struct_member-returns
print_struct_member-returns t c = λ ps same.
    let line = c.args.line.now in let field = c.args.field.now in let schema = c.args.schema.now in
    two _ _ _ _ _ _ _ (c.in_ok-put_name.ensures (begins line ∷ plain (label line (string_bytes field.name)) ∷ []) (ap (λ name. begins line ∷ plain (label line name) ∷ []) (sym c.as_str.ensures.value)))
    (c.print_struct_field.ensures (tokens line (counted_tree schema (structs schema c.args.left) field.count field.fixed (slice_bytes c.args.slice) field.distance (field_path c.args.path.now (string_bytes field.name))))
    (ap (λ path. tokens line (counted_tree schema (structs schema c.args.left) field.count field.fixed (slice_bytes c.args.slice) field.distance path)) (sym (c.as_str-2.ensures.value ∙ c.in_ok-path.ensures.ok)))) same

pub print_fixed_list-returns-in_err-put_open : goal.print_fixed_list-returns-in_err-put_open
print_fixed_list-returns-in_err-put_open t c = λ ps same.
    first_failed _ _ _ _ _ _ _ _ c.from_residual-in_err-put_open.ensures.1 (c.in_err-put_open.ensures 91 refl _ refl) same

pub print_fixed_list-returns-in_err-print_fixed_items : goal.print_fixed_list-returns-in_err-print_fixed_items
print_fixed_list-returns-in_err-print_fixed_items t c = λ ps same.
    second_failed _ _ _ _ _ _ _ _ _ _ c.from_residual-in_err-print_fixed_items.ensures.1 (c.in_ok-put_open.ensures 91 refl _ refl) (c.in_err-print_fixed_items.ensures _ refl)
    (same ∙ list_tokens c.args.line.now c.as_str.result.now _ _ refl (c.as_str.ensures.value ∙ c.in_ok-inner.ensures))

pub print_fixed_list-returns : goal.print_fixed_list-returns
print_fixed_list-returns t c = λ ps same.
    three _ _ _ _ _ _ _ _ _ (c.in_ok-put_open.ensures 91 refl _ refl) (c.in_ok-print_fixed_items.ensures _ refl) (c.put_close.ensures 93 refl _ refl)
    (same ∙ list_tokens c.args.line.now c.as_str.result.now _ _ refl (c.as_str.ensures.value ∙ c.in_ok-inner.ensures))

pub print_fixed_items-loop-i-init : goal.print_fixed_items-loop-i-init
print_fixed_items-loop-i-init t c =
    let items = c.args.items in let whole : items.count ≡ items.count - 0 = omega arith in
    goes_begin c.args.out.now _ _ (ap (λ k. items_tokens c.args.line.now (values_trees c.args.schema.now (structs c.args.schema.now c.args.left) items.value (slice_bytes items.slice) items.first c.args.path.now k 0)) whole)

pub print_fixed_items-loop-i-preserved : goal.print_fixed_items-loop-i-preserved
print_fixed_items-loop-i-preserved t c =
    let items = c.args.items in
    loop_on _ _ _ _ _ _ _ c.loop-i.invariant (c.in_ok-print_fixed_item.ensures _ refl)
    (values-split c.args.schema.now (structs c.args.schema.now c.args.left) c.args.line.now items.value (slice_bytes items.slice) items.first c.args.path.now items.count c.loop-i.i (omega (arith, c.loop-i-test.true)))

pub print_fixed_items-returns-in_err-print_fixed_item : goal.print_fixed_items-returns-in_err-print_fixed_item
print_fixed_items-returns-in_err-print_fixed_item t c = λ ps same.
    let items = c.args.items in
    loop_failed _ _ _ _ _ _ _ _ _ _ _ c.from_residual.ensures.1 c.loop-i.invariant (c.in_err-print_fixed_item.ensures _ refl)
    (values-split c.args.schema.now (structs c.args.schema.now c.args.left) c.args.line.now items.value (slice_bytes items.slice) items.first c.args.path.now items.count c.loop-i.i (omega (arith, c.loop-i-test.true))) same

pub print_fixed_items-returns : goal.print_fixed_items-returns
print_fixed_items-returns t c = λ ps same.
    let items = c.args.items in
    loop_done c.loop-i.invariant (values-none c.args.schema.now (structs c.args.schema.now c.args.left) c.args.line.now items.value (slice_bytes items.slice) items.first c.args.path.now (items.count - c.loop-i.i) c.loop-i.i (omega (arith, c.loop-i-test.false))) same

pub print_fixed_item-returns-in_err-put_next : goal.print_fixed_item-returns-in_err-put_next
print_fixed_item-returns-in_err-put_next t c = λ ps same. first_failed _ _ _ _ _ _ _ _ c.from_residual-in_err-put_next.ensures.1 (c.in_err-put_next.ensures _ refl) same

pub print_fixed_item-returns : goal.print_fixed_item-returns
print_fixed_item-returns t c = λ ps same.
    let items = c.args.items in let schema = c.args.schema.now in let line = c.args.line.now in
    two _ _ _ _ _ _ _ (c.in_ok-put_next.ensures _ refl)
    (c.print_fixed.ensures _ refl)
    (same ∙ ap (λ tree. begins line ∷ tokens line tree) (item-at schema c.args.left items.value (slice_bytes items.slice) (place_bytes c.item_place-place.result) items.first c.args.i c.fixed_size.result (2 ^ 64 - 1) (place_offset c.item_place-place.result) (item_path c.args.path.now c.args.i) c.as_str.result.now
    (omega arith) c.item_place-place.ensures.bytes c.item_place-place.ensures.offset c.fixed_size.ensures (c.as_str.ensures.value ∙ c.in_ok-path.ensures.ok)))

pub print_struct_fields-loop-field-init : goal.print_struct_fields-loop-field-init
print_struct_fields-loop-field-init t c = goes_begin c.args.out.now _ _ refl
