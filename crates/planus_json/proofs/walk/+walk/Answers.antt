use Rattle.std.proofs.Common.{◌⊎◌, inl, inr, List, ℕ, ◌≡◌, ◌-◌, ◌≤◌, ◌∷◌, [], ap, sym, subst, ◌∙◌, Some, None, slice_get, arith, refl, length}
use Rattle.std.proofs.lemmas.Bool.{ltb-true, ltb-false}
use Rattle.std.proofs.lemmas.Option.{slice_get_past, slice_get_read}
use Rattle.std.specs.String.{string_bytes}
use Rattle.planus_read.specs.declared.errors.ErrorKind.TheVariants.{UnknownUnionTag}
use Rattle.planus_read.specs.Slices.{slice_bytes}
use Rattle.planus_read.specs.Places.{place_bytes, place_offset, tagged_tag, tagged_place}
use Rattle.planus_dump.specs.Events.{variant_of}
use Rattle.planus_dump.specs.Lines.{item_path}
use Rattle.planus_dump.specs.Tests.{fault_text}
use Rattle.planus_dump.specs.ReadingViews.{table_seen, unions_seen}
use Rattle.planus_json.specs.Json.{Token, begins, plain, label, tokens, items_tokens}
use Rattle.planus_dump.specs.declared.schemas.Schema.{Schema}
use Rattle.planus_dump.specs.declared.schemas.Kind.{Kind}
use Rattle.planus_dump.specs.declared.schemas.Kind.TheVariants.{Union, UnionVector}
use Rattle.planus_json.specs.Trees as trees
use Rattle.planus_json.specs.Trees.{TableTree, tree, shape_tree, table_tree, fields_members, item_tree, items_trees, type_name, type_tree, union_tree, variant_tree, unions_trees, place_tree, kind_members}
use Rattle.planus_json.proofs.Printing.{printed_none, first_failed, second_failed, two, three, loop_failed, loop_on, loop_done, goes_begin, list_tokens, object_tokens}
use Rattle.planus_json.proofs.TableTrees.{trees-more, trees-none, fields-split, fields-none, list-split, list-none, unions-split, unions-none, tagged-at, list-read, one-member, placed-item}
use Rattle.planus_json.proofs.walk.+walk.Goals as goal

no_place : (E : TableTree) (schema : Schema) (kind : Kind) (S : List ℕ) (f : ℕ) (path : List ℕ) → ((n : ℕ) × (kind ≡ Union n)) ⊎ ((n : ℕ) × (kind ≡ UnionVector n)) → place_tree E schema kind S f path ≡ trees.nothing
no_place E schema kind S f path (inl (n, is)) = ap (λ k. place_tree E schema k S f path) is
no_place E schema kind S f path (inr (n, is)) = ap (λ k. place_tree E schema k S f path) is

pub print_place-returns-in-Union : goal.print_place-returns-in-Union
print_place-returns-in-Union t c = λ ps same.
    printed_none c.args.out.now ps
    (same ∙ ap (tokens c.args.line.now) (no_place (tree c.args.schema.now c.args.left) c.args.schema.now c.args.kind (place_bytes c.args.place) (place_offset c.args.place) c.args.path.now c.in-Union.is))

pub print_table-returns-then-left-eq0 : goal.print_table-returns-then-left-eq0
print_table-returns-then-left-eq0 t c = λ ps same.
    c.put_deep.ensures ps (same ∙ ap (tokens c.args.line.now) (trees-none c.args.schema.now c.args.left c.args.index (place_bytes c.args.place) (place_offset c.args.place) c.args.path.now c.if-left-eq0.true))

pub print_table-returns-in-None : goal.print_table-returns-in-None
print_table-returns-in-None t c = λ ps same.
    let S = place_bytes c.args.place in let f = place_offset c.args.place in let path = c.args.path.now in
    let schema = c.args.schema.now in let index = c.args.index in
    let none : slice_get schema.tables.items index ≡ None = slice_get_past schema.tables.items index
    (subst (λ xs. length xs ≤ index) c.deref.ensures.value (ltb-false index (length c.deref.result.now) (sym c.in-None.ensures.lookup.0))) in
    printed_none c.args.out.now ps
    (same ∙ ap (tokens c.args.line.now) (trees-more schema c.args.left index S f path c.if-left-eq0.false ∙ ap (λ o. shape_tree (tree schema (c.args.left - 1)) schema o S f path) none))

pub print_table-returns-in-Some : goal.print_table-returns-in-Some
print_table-returns-in-Some t c = λ ps same.
    let S = place_bytes c.args.place in let f = place_offset c.args.place in let path = c.args.path.now in
    let schema = c.args.schema.now in let index = c.args.index in
    let some : slice_get schema.tables.items index ≡ Some c.in-Some.shape.now = subst (λ xs. slice_get xs index ≡ Some c.in-Some.shape.now) c.deref.ensures.value
    (slice_get_read c.deref.result.now (length c.deref.result.now) index c.in-Some.shape.now refl (ltb-true index (length c.deref.result.now) (sym c.in-Some.ensures.lookup.0)) c.in-Some.ensures.lookup.1) in
    c.print_shape.ensures ps
    (same ∙ ap (tokens c.args.line.now) (trees-more schema c.args.left index S f path c.if-left-eq0.false ∙ ap (λ o. shape_tree (tree schema (c.args.left - 1)) schema o S f path) some))

pub print_shape-returns-in_err-put_open : goal.print_shape-returns-in_err-put_open
print_shape-returns-in_err-put_open t c = λ ps same.
    let schema = c.args.schema.now in let E = tree schema c.args.left in let path = c.args.path.now in
    let read = ap (table_tree E schema c.args.shape.now path) (sym c.in-Ok.ensures) in
    first_failed _ _ _ _ _ _ _ _ c.from_residual-in_err-put_open.ensures.1 (c.in_err-put_open.ensures 123 refl _ refl) (same ∙ object_tokens c.args.line.now _ _ _ read refl)

pub print_shape-returns-in_err-print_fields : goal.print_shape-returns-in_err-print_fields
print_shape-returns-in_err-print_fields t c = λ ps same.
    let schema = c.args.schema.now in let E = tree schema c.args.left in let path = c.args.path.now in
    let read = ap (table_tree E schema c.args.shape.now path) (sym c.in-Ok.ensures) ∙ ap (λ fields. trees.object (fields_members E schema (table_seen c.in-Ok.table) path fields)) (sym c.as_slice-fields.ensures.value) in
    second_failed _ _ _ _ _ _ _ _ _ _ c.from_residual-in_err-print_fields.ensures.1 (c.in_ok-put_open.ensures 123 refl _ refl) (c.in_err-print_fields.ensures _ refl)
    (same ∙ object_tokens c.args.line.now c.as_str.result.now _ _ read (c.as_str.ensures.value ∙ c.in_ok-inner.ensures))

pub print_shape-returns : goal.print_shape-returns
print_shape-returns t c = λ ps same.
    let schema = c.args.schema.now in let E = tree schema c.args.left in let path = c.args.path.now in
    let read = ap (table_tree E schema c.args.shape.now path) (sym c.in-Ok.ensures) ∙ ap (λ fields. trees.object (fields_members E schema (table_seen c.in-Ok.table) path fields)) (sym c.as_slice-fields.ensures.value) in
    three _ _ _ _ _ _ _ _ _ (c.in_ok-put_open.ensures 123 refl _ refl) (c.in_ok-print_fields.ensures _ refl) (c.put_close.ensures 125 refl _ refl)
    (same ∙ object_tokens c.args.line.now c.as_str.result.now _ _ read (c.as_str.ensures.value ∙ c.in_ok-inner.ensures))

pub print_fields-loop-field-init : goal.print_fields-loop-field-init
print_fields-loop-field-init t c = goes_begin c.args.out.now _ _ refl

pub print_fields-loop-field-preserved : goal.print_fields-loop-field-preserved
print_fields-loop-field-preserved t c =
    let schema = c.args.schema.now in
    loop_on _ _ _ _ _ _ _ c.loop-field.invariant (c.in_ok-print_field.ensures _ refl)
    (fields-split (tree schema c.args.left) schema c.args.line.now (table_seen c.args.table) c.args.path.now c.args.fields.now c.loop-field.field-index c.field-item.result (omega arith) c.field-item.is)

pub print_fields-returns-in_err-print_field : goal.print_fields-returns-in_err-print_field
print_fields-returns-in_err-print_field t c = λ ps same.
    let schema = c.args.schema.now in
    loop_failed _ _ _ _ _ _ _ _ _ _ _ c.from_residual.ensures.1 c.loop-field.invariant (c.in_err-print_field.ensures _ refl)
    (fields-split (tree schema c.args.left) schema c.args.line.now (table_seen c.args.table) c.args.path.now c.args.fields.now c.loop-field.field-index c.field-item.result (omega arith) c.field-item.is) same

pub print_fields-returns : goal.print_fields-returns
print_fields-returns t c = λ ps same.
    let schema = c.args.schema.now in
    loop_done c.loop-field.invariant (fields-none (tree schema c.args.left) schema c.args.line.now (table_seen c.args.table) c.args.path.now c.args.fields.now c.loop-field.field-index (omega (arith, c.loop-field-test.false))) same

pub print_present-returns-in_err-put_name : goal.print_present-returns-in_err-put_name
print_present-returns-in_err-put_name t c = λ ps same.
    let line = c.args.line.now in
    first_failed _ _ _ _ _ _ _ _ c.from_residual.ensures.1 (c.in_err-put_name.ensures (begins line ∷ plain (label line (string_bytes c.args.field.now.name)) ∷ []) (ap (λ name. begins line ∷ plain (label line name) ∷ []) (sym c.as_str.ensures.value))) same

pub print_present-returns : goal.print_present-returns
print_present-returns t c = λ ps same.
    let line = c.args.line.now in let name = string_bytes c.args.field.now.name in
    two _ _ _ _ _ _ _ (c.in_ok-put_name.ensures (begins line ∷ plain (label line name) ∷ []) (ap (λ name. begins line ∷ plain (label line name) ∷ []) (sym c.as_str.ensures.value)))
    (c.print_place.ensures _ refl) (same ∙ one-member line name _)

pub print_list-returns-in_err-put_open : goal.print_list-returns-in_err-put_open
print_list-returns-in_err-put_open t c = λ ps same.
    let schema = c.args.schema.now in let E = tree schema c.args.left in let path = c.args.path.now in
    let read = list-read E schema c.args.item (place_bytes c.args.place) (place_offset c.args.place) c.stride_of.result path _ c.in-Ok.ensures c.stride_of.ensures in
    first_failed _ _ _ _ _ _ _ _ c.from_residual-in_err-put_open.ensures.1 (c.in_err-put_open.ensures 91 refl _ refl) (same ∙ list_tokens c.args.line.now _ _ _ read refl)

pub print_list-returns-in_err-print_items : goal.print_list-returns-in_err-print_items
print_list-returns-in_err-print_items t c = λ ps same.
    let schema = c.args.schema.now in let E = tree schema c.args.left in let path = c.args.path.now in
    let read = list-read E schema c.args.item (place_bytes c.args.place) (place_offset c.args.place) c.stride_of.result path _ c.in-Ok.ensures c.stride_of.ensures in
    second_failed _ _ _ _ _ _ _ _ _ _ c.from_residual-in_err-print_items.ensures.1 (c.in_ok-put_open.ensures 91 refl _ refl) (c.in_err-print_items.ensures _ refl)
    (same ∙ list_tokens c.args.line.now c.as_str.result.now _ _ read (c.as_str.ensures.value ∙ c.in_ok-inner.ensures))

pub print_list-returns : goal.print_list-returns
print_list-returns t c = λ ps same.
    let schema = c.args.schema.now in let E = tree schema c.args.left in let path = c.args.path.now in
    let read = list-read E schema c.args.item (place_bytes c.args.place) (place_offset c.args.place) c.stride_of.result path _ c.in-Ok.ensures c.stride_of.ensures in
    three _ _ _ _ _ _ _ _ _ (c.in_ok-put_open.ensures 91 refl _ refl) (c.in_ok-print_items.ensures _ refl) (c.put_close.ensures 93 refl _ refl)
    (same ∙ list_tokens c.args.line.now c.as_str.result.now _ _ read (c.as_str.ensures.value ∙ c.in_ok-inner.ensures))

pub print_items-loop-i-init : goal.print_items-loop-i-init
print_items-loop-i-init t c =
    let n = c.args.count in let whole : n ≡ n - 0 = omega arith in
    goes_begin c.args.out.now _ _ (ap (λ k. items_tokens c.args.line.now (items_trees (tree c.args.schema.now c.args.left) c.args.item (slice_bytes c.args.slice) c.args.path.now k 0)) whole)

pub print_list_item-returns-in_err-put_next : goal.print_list_item-returns-in_err-put_next
print_list_item-returns-in_err-put_next t c = λ ps same. first_failed _ _ _ _ _ _ _ _ c.from_residual-in_err-put_next.ensures.1 (c.in_err-put_next.ensures _ refl) same

pub print_list_item-returns : goal.print_list_item-returns
print_list_item-returns t c = λ ps same.
    let line = c.args.line.now in
    two _ _ _ _ _ _ _ (c.in_ok-put_next.ensures _ refl) (c.print_item.ensures _ refl)
    (same ∙ ap (λ path. begins line ∷ tokens line (item_tree (tree c.args.schema.now c.args.left) c.args.item (place_bytes c.args.place) (place_offset c.args.place) path)) (sym (c.as_str.ensures.value ∙ c.in_ok-path.ensures.ok)))

pub print_union-returns-in-None : goal.print_union-returns-in-None
print_union-returns-in-None t c = λ ps same.
    let schema = c.args.schema.now in let E = tree schema c.args.left in let index = c.args.index in
    let S = place_bytes (tagged_place c.args.tagged) in let f = place_offset (tagged_place c.args.tagged) in let path = c.args.path.now in
    let none : slice_get schema.unions.items index ≡ None = slice_get_past schema.unions.items index
    (subst (λ xs. length xs ≤ index) c.deref.ensures.value (ltb-false index (length c.deref.result.now) (sym c.in-None.ensures.lookup.0))) in
    printed_none c.args.out.now ps (same ∙ ap (λ o. tokens c.args.line.now (union_tree E schema o (tagged_tag c.args.tagged) S f path)) none)

pub print_union-returns-in-Some-variant_with : goal.print_union-returns-in-Some-variant_with
print_union-returns-in-Some-variant_with t c = λ ps same.
    let schema = c.args.schema.now in let E = tree schema c.args.left in let index = c.args.index in let variants = c.in-Some.variants.now in let tag = tagged_tag c.args.tagged in
    let S = place_bytes (tagged_place c.args.tagged) in let f = place_offset (tagged_place c.args.tagged) in let path = c.args.path.now in let line = c.args.line.now in
    let some : slice_get schema.unions.items index ≡ Some variants = subst (λ xs. slice_get xs index ≡ Some variants) c.deref.ensures.value
    (slice_get_read c.deref.result.now (length c.deref.result.now) index variants refl (ltb-true index (length c.deref.result.now) (sym c.in-Some.ensures.lookup.0)) c.in-Some.ensures.lookup.1) in
    let variant = c.in-Some-variant_with.variant.now in
    let is : variant_of variants.items tag ≡ Some variant
    = sym (c.in-Some-variant_with.ensures ∙ ap (λ xs. variant_of xs c.tag-tag.result) c.as_slice.ensures.value ∙ ap (variant_of variants.items) c.tag-tag.ensures) in
    c.print_member.ensures ps
    (same ∙ ap (λ o. tokens line (union_tree E schema o tag S f path)) some ∙ ap (λ v. tokens line (variant_tree E schema tag S f path v)) is
    ∙ ap (λ place. tokens line (trees.member_tree E schema variant.kind (place_bytes place) (place_offset place) path)) (sym c.place.ensures))

pub print_union-returns-in-None-variant_with : goal.print_union-returns-in-None-variant_with
print_union-returns-in-None-variant_with t c = λ ps same.
    let schema = c.args.schema.now in let E = tree schema c.args.left in let index = c.args.index in let variants = c.in-Some.variants.now in let tag = tagged_tag c.args.tagged in
    let S = place_bytes (tagged_place c.args.tagged) in let f = place_offset (tagged_place c.args.tagged) in let path = c.args.path.now in let line = c.args.line.now in
    let some : slice_get schema.unions.items index ≡ Some variants = subst (λ xs. slice_get xs index ≡ Some variants) c.deref.ensures.value
    (slice_get_read c.deref.result.now (length c.deref.result.now) index variants refl (ltb-true index (length c.deref.result.now) (sym c.in-Some.ensures.lookup.0)) c.in-Some.ensures.lookup.1) in
    let none : variant_of variants.items tag ≡ None = sym (c.in-None-variant_with.ensures ∙ ap (λ xs. variant_of xs c.tag-tag.result) c.as_slice.ensures.value ∙ ap (variant_of variants.items) c.tag-tag.ensures) in
    c.put_fault.ensures ps
    (same ∙ ap (λ o. tokens line (union_tree E schema o tag S f path)) some ∙ ap (λ v. tokens line (variant_tree E schema tag S f path v)) none
    ∙ ap (λ k. tokens line (trees.fault path (fault_text (UnknownUnionTag k)))) (sym c.tag-tag.ensures))

pub print_union_value-returns-in_err-put_name : goal.print_union_value-returns-in_err-put_name
print_union_value-returns-in_err-put_name t c = λ ps same.
    let line = c.args.line.now in
    first_failed _ _ _ _ _ _ _ _ c.from_residual.ensures.1 (c.in_err-put_name.ensures (begins line ∷ plain (label line (string_bytes c.args.field.now.name)) ∷ []) (ap (λ name. begins line ∷ plain (label line name) ∷ []) (sym c.as_str.ensures.value))) same

pub print_union_value-returns : goal.print_union_value-returns
print_union_value-returns t c = λ ps same.
    let line = c.args.line.now in let name = string_bytes c.args.field.now.name in
    two _ _ _ _ _ _ _ (c.in_ok-put_name.ensures (begins line ∷ plain (label line name) ∷ []) (ap (λ name. begins line ∷ plain (label line name) ∷ []) (sym c.as_str.ensures.value)))
    (c.print_union.ensures _ refl) (same ∙ one-member line name _)

pub print_union_members-returns-in_err-print_union_type : goal.print_union_members-returns-in_err-print_union_type
print_union_members-returns-in_err-print_union_type t c = λ ps same.
    let line = c.args.line.now in let name = string_bytes c.args.field.now.name in let schema = c.args.schema.now in
    let p : ℕ → List Token = λ tag. begins line ∷ plain (label line (type_name name)) ∷ tokens line (type_tree (slice_get schema.unions.items c.args.index) tag) in
    first_failed _ _ _ _ _ _ _ _ c.from_residual.ensures.1 (c.in_err-print_union_type.ensures (p (tagged_tag c.args.tagged)) (ap p (sym c.tag.ensures))) same

pub print_union_members-returns : goal.print_union_members-returns
print_union_members-returns t c = λ ps same.
    let line = c.args.line.now in let name = string_bytes c.args.field.now.name in let schema = c.args.schema.now in
    let p : ℕ → List Token = λ tag. begins line ∷ plain (label line (type_name name)) ∷ tokens line (type_tree (slice_get schema.unions.items c.args.index) tag) in
    two _ _ _ _ _ _ _ (c.in_ok-print_union_type.ensures (p (tagged_tag c.args.tagged)) (ap p (sym c.tag.ensures))) (c.print_union_value.ensures _ refl) same

pub print_unions_item-returns-in_err-put_next : goal.print_unions_item-returns-in_err-put_next
print_unions_item-returns-in_err-put_next t c = λ ps same. first_failed _ _ _ _ _ _ _ _ c.from_residual-in_err-put_next.ensures.1 (c.in_err-put_next.ensures _ refl) same

pub print_unions_item-returns : goal.print_unions_item-returns
print_unions_item-returns t c = λ ps same.
    let line = c.args.line.now in let schema = c.args.schema.now in let place = tagged_place c.args.tagged in
    two _ _ _ _ _ _ _ (c.in_ok-put_next.ensures _ refl) (c.print_union.ensures _ refl)
    (same ∙ ap (λ path. begins line ∷ tokens line (union_tree (tree schema c.args.left) schema (slice_get schema.unions.items c.args.index) (tagged_tag c.args.tagged) (place_bytes place) (place_offset place) path)) (sym (c.as_str.ensures.value ∙ c.in_ok-path.ensures.ok)))

pub print_unions-returns-in_err-put_open : goal.print_unions-returns-in_err-put_open
print_unions-returns-in_err-put_open t c = λ ps same. first_failed _ _ _ _ _ _ _ _ c.from_residual-in_err-put_open.ensures.1 (c.in_err-put_open.ensures 91 refl _ refl) same

pub print_unions-returns-in_err-print_unions_items : goal.print_unions-returns-in_err-print_unions_items
print_unions-returns-in_err-print_unions_items t c = λ ps same.
    second_failed _ _ _ _ _ _ _ _ _ _ c.from_residual-in_err-print_unions_items.ensures.1 (c.in_ok-put_open.ensures 91 refl _ refl) (c.in_err-print_unions_items.ensures _ refl)
    (same ∙ list_tokens c.args.line.now c.as_str.result.now _ _ refl (c.as_str.ensures.value ∙ c.in_ok-inner.ensures))

pub print_unions-returns : goal.print_unions-returns
print_unions-returns t c = λ ps same.
    three _ _ _ _ _ _ _ _ _ (c.in_ok-put_open.ensures 91 refl _ refl) (c.in_ok-print_unions_items.ensures _ refl) (c.put_close.ensures 93 refl _ refl)
    (same ∙ list_tokens c.args.line.now c.as_str.result.now _ _ refl (c.as_str.ensures.value ∙ c.in_ok-inner.ensures))

pub print_unions_value-returns-in_err-put_name : goal.print_unions_value-returns-in_err-put_name
print_unions_value-returns-in_err-put_name t c = λ ps same.
    let line = c.args.line.now in
    first_failed _ _ _ _ _ _ _ _ c.from_residual.ensures.1 (c.in_err-put_name.ensures (begins line ∷ plain (label line (string_bytes c.args.field.now.name)) ∷ []) (ap (λ name. begins line ∷ plain (label line name) ∷ []) (sym c.as_str.ensures.value))) same

pub print_unions_value-returns : goal.print_unions_value-returns
print_unions_value-returns t c = λ ps same.
    let line = c.args.line.now in let name = string_bytes c.args.field.now.name in
    two _ _ _ _ _ _ _ (c.in_ok-put_name.ensures (begins line ∷ plain (label line name) ∷ []) (ap (λ name. begins line ∷ plain (label line name) ∷ []) (sym c.as_str.ensures.value)))
    (c.print_unions.ensures _ refl) (same ∙ one-member line name (trees.list (unions_trees (tree c.args.schema.now c.args.left) c.args.schema.now c.args.index (unions_seen c.args.unions) c.args.path.now (unions_seen c.args.unions).count 0)))

pub print_unions_members-returns-in_err-print_unions_type : goal.print_unions_members-returns-in_err-print_unions_type
print_unions_members-returns-in_err-print_unions_type t c = λ ps same. first_failed _ _ _ _ _ _ _ _ c.from_residual.ensures.1 (c.in_err-print_unions_type.ensures _ refl) same

pub print_unions_members-returns : goal.print_unions_members-returns
print_unions_members-returns t c = λ ps same. two _ _ _ _ _ _ _ (c.in_ok-print_unions_type.ensures _ refl) (c.print_unions_value.ensures _ refl) same

pub print_items-loop-i-preserved : goal.print_items-loop-i-preserved
print_items-loop-i-preserved t c =
    let E = tree c.args.schema.now c.args.left in let line = c.args.line.now in let path = c.args.path.now in let i = c.loop-i.i in
    loop_on _ _ _ _ _ _ _ c.loop-i.invariant
    (c.in_ok-print_list_item.ensures _ (placed-item E c.args.schema.now line c.args.item (slice_bytes c.args.slice) (place_bytes c.new-place.result) (item_path path i) i c.stride_of.result (place_offset c.new-place.result) c.new-place.ensures.bytes c.new-place.ensures.offset c.stride_of.ensures))
    (list-split E c.args.schema.now line c.args.item (slice_bytes c.args.slice) path c.args.count i (omega (arith, c.loop-i-test.true)))

pub print_items-returns-in_err-print_list_item : goal.print_items-returns-in_err-print_list_item
print_items-returns-in_err-print_list_item t c = λ ps same.
    let E = tree c.args.schema.now c.args.left in let line = c.args.line.now in let path = c.args.path.now in let i = c.loop-i.i in
    loop_failed _ _ _ _ _ _ _ _ _ _ _ c.from_residual.ensures.1 c.loop-i.invariant
    (c.in_err-print_list_item.ensures _ (placed-item E c.args.schema.now line c.args.item (slice_bytes c.args.slice) (place_bytes c.new-place.result) (item_path path i) i c.stride_of.result (place_offset c.new-place.result) c.new-place.ensures.bytes c.new-place.ensures.offset c.stride_of.ensures))
    (list-split E c.args.schema.now line c.args.item (slice_bytes c.args.slice) path c.args.count i (omega (arith, c.loop-i-test.true))) same

pub print_items-returns : goal.print_items-returns
print_items-returns t c = λ ps same.
    let E = tree c.args.schema.now c.args.left in
    loop_done c.loop-i.invariant (list-none E c.args.schema.now c.args.line.now c.args.item (slice_bytes c.args.slice) c.args.path.now (c.args.count - c.loop-i.i) c.loop-i.i (omega (arith, c.loop-i-test.false))) same

pub print_unions_items-loop-i-init : goal.print_unions_items-loop-i-init
print_unions_items-loop-i-init t c =
    let seen = unions_seen c.args.unions in let whole : seen.count ≡ seen.count - 0 = omega arith in
    goes_begin c.args.out.now _ _ (ap (λ k. items_tokens c.args.line.now (unions_trees (tree c.args.schema.now c.args.left) c.args.schema.now c.args.index seen c.args.path.now k 0)) whole)

pub print_unions_items-loop-i-preserved : goal.print_unions_items-loop-i-preserved
print_unions_items-loop-i-preserved t c =
    let schema = c.args.schema.now in let E = tree schema c.args.left in let line = c.args.line.now in let path = c.args.path.now in let i = c.loop-i.i in let seen = unions_seen c.args.unions in
    loop_on _ _ _ _ _ _ _ c.loop-i.invariant
    (c.in_ok-print_unions_item-in-Some.ensures _ (ap (λ t. begins line ∷ tokens line t) (tagged-at E schema (slice_get schema.unions.items c.args.index) seen i (item_path path i) c.in-Some.tagged c.in-Some.ensures.1)))
    (unions-split E schema line c.args.index seen path seen.count i (omega (arith, c.in-Some.ensures.0)))

pub print_unions_items-returns-in_err-print_unions_item-in-Some : goal.print_unions_items-returns-in_err-print_unions_item-in-Some
print_unions_items-returns-in_err-print_unions_item-in-Some t c = λ ps same.
    let schema = c.args.schema.now in let E = tree schema c.args.left in let line = c.args.line.now in let path = c.args.path.now in let i = c.loop-i.i in let seen = unions_seen c.args.unions in
    loop_failed _ _ _ _ _ _ _ _ _ _ _ c.from_residual.ensures.1 c.loop-i.invariant
    (c.in_err-print_unions_item-in-Some.ensures _ (ap (λ t. begins line ∷ tokens line t) (tagged-at E schema (slice_get schema.unions.items c.args.index) seen i (item_path path i) c.in-Some.tagged c.in-Some.ensures.1)))
    (unions-split E schema line c.args.index seen path seen.count i (omega (arith, c.in-Some.ensures.0))) same

pub print_unions_items-returns : goal.print_unions_items-returns
print_unions_items-returns t c = λ ps same.
    let schema = c.args.schema.now in let E = tree schema c.args.left in let seen = unions_seen c.args.unions in
    loop_done c.loop-i.invariant (unions-none E schema c.args.line.now c.args.index seen c.args.path.now (seen.count - c.loop-i.i) c.loop-i.i (omega (arith, c.loop-i-test.false, c.len-i-end.ensures))) same
