use Rattle.std.proofs.Common.{◌≡◌, ◌⊎◌, inl, inr, ℕ, List, ◌+◌, ◌-◌, ◌*◌, ◌≤◌, ◌++◌, ◌∷◌, [], drop, ap, sym, subst, ◌∙◌, Some, None, Ok, false, slice_get, arith, refl, length}
use Rattle.std.specs.Prelude.{slice_index}
use Rattle.std.proofs.lemmas.Bool.{ltb-true, ltb-false}
use Rattle.std.proofs.lemmas.Option.{slice_get_past, slice_get_read}
use Rattle.std.specs.String.{string_bytes}
use Rattle.planus_read.specs.declared.errors.ErrorKind.TheVariants.{UnknownUnionTag}
use Rattle.planus_read.specs.Slices.{slice_bytes}
use Rattle.planus_read.specs.Places.{place_bytes, place_offset, tagged_tag, tagged_place}
use Rattle.planus_dump.specs.declared.schemas.Fixed.{Fixed}
use Rattle.planus_dump.specs.declared.schemas.Kind.{Kind}
use Rattle.planus_dump.specs.declared.schemas.Kind.TheVariants.{Union, UnionVector, FixedList, Fixed as FixedKind}
use Rattle.planus_dump.specs.Lines.{table_line, list_line, unions_line, union_line, field_path, item_path}
use Rattle.planus_dump.specs.Tests.{fault_text}
use Rattle.planus_dump.specs.Answers.{table_at, vector_at}
use Rattle.planus_dump.specs.Events.{TableEvents, place_events, events, line, shape_events, item_events, items_events, member_events, union_events, union_items_events, unions_events, list_events, kind_events, fields_events, table_events, variant_of, fault_event, stride_of, field_label}
use Rattle.planus_dump.specs.ReadingViews.{unions_seen, table_seen}
use Rattle.planus_dump.proofs.Fed.{fed_as, fed_none, fed_then, fed_broken, goes_begin, goes_on, goes_stopped, goes_fails, goes_broken}
use Rattle.planus_dump.proofs.Feeds.{union_known, events-more, events-none, items-split, union_items-split, fields-split, found-at, tagged-at, union_unknown, list-read}
use Rattle.planus_dump.proofs.walk.+walk.Goals as goal

no_place : (E : TableEvents) (kind : Kind) (S : List ℕ) (f : ℕ) (path : List ℕ)
    → ((n : ℕ) × (kind ≡ Union n)) ⊎ ((n : ℕ) × (kind ≡ UnionVector n)) ⊎ ((fixed : Fixed) × (kind ≡ FixedKind fixed)) ⊎ ((fixed : Fixed) × (kind ≡ FixedList fixed))
    → place_events E kind S f path ≡ []
no_place E kind S f path (inl (n, is)) = ap (λ k. place_events E k S f path) is
no_place E kind S f path (inr (inl (n, is))) = ap (λ k. place_events E k S f path) is
no_place E kind S f path (inr (inr (inl (fixed, is)))) = ap (λ k. place_events E k S f path) is
no_place E kind S f path (inr (inr (inr (fixed, is)))) = ap (λ k. place_events E k S f path) is

pub dump_table-returns-then-left-eq0 : goal.dump_table-returns-then-left-eq0
dump_table-returns-then-left-eq0 g t c = λ es same.
    c.put_deep.ensures es (same ∙ events-none c.args.schema.now c.args.left c.args.index (place_bytes c.args.place) (place_offset c.args.place) c.args.path.now c.if-left-eq0.true)

pub dump_table-returns-in-None : goal.dump_table-returns-in-None
dump_table-returns-in-None g t c = λ es same.
    let S = place_bytes c.args.place in let f = place_offset c.args.place in let path = c.args.path.now in
    let schema = c.args.schema.now in let index = c.args.index in
    let none : slice_get schema.tables.items index ≡ None = slice_get_past schema.tables.items index
    (subst (λ xs. length xs ≤ index) c.deref.ensures.value (ltb-false index (length c.deref.result.now) (sym c.in-None.ensures.lookup.0))) in
    fed_none g.L.Lines.takes g.L.Lines.breaks c.args.out.now es
    (same ∙ events-more schema c.args.left index S f path c.if-left-eq0.false ∙ ap (λ o. shape_events (events schema (c.args.left - 1)) schema o S f path) none)

pub dump_table-returns-in-Some : goal.dump_table-returns-in-Some
dump_table-returns-in-Some g t c = λ es same.
    let S = place_bytes c.args.place in let f = place_offset c.args.place in let path = c.args.path.now in
    let schema = c.args.schema.now in let index = c.args.index in
    let some : slice_get schema.tables.items index ≡ Some c.in-Some.shape.now = subst (λ xs. slice_get xs index ≡ Some c.in-Some.shape.now) c.deref.ensures.value
    (slice_get_read c.deref.result.now (length c.deref.result.now) index c.in-Some.shape.now refl (ltb-true index (length c.deref.result.now) (sym c.in-Some.ensures.lookup.0)) c.in-Some.ensures.lookup.1) in
    c.dump_shape.ensures es
    (same ∙ events-more schema c.args.left index S f path c.if-left-eq0.false ∙ ap (λ o. shape_events (events schema (c.args.left - 1)) schema o S f path) some)

pub dump_shape-returns-in_err-put_table : goal.dump_shape-returns-in_err-put_table
dump_shape-returns-in_err-put_table g t c = λ es same.
    let takes = g.L.Lines.takes in let breaks = g.L.Lines.breaks in
    let schema = c.args.schema.now in let E = events schema c.args.left in let shape = c.args.shape.now in let path = c.args.path.now in
    let first = line (table_line path (string_bytes shape.name)) ∷ [] in
    let rest = fields_events E schema (table_seen c.in-Ok.table) path shape.fields.items in
    let r = c.from_residual.result in
    fed_as takes breaks c.args.out.now c.put_table.new.self (first ++ rest) es r
    (fed_broken takes breaks c.args.out.now c.put_table.new.self first rest _ r
    (c.in_err-put_table.ensures first (ap (λ name. line (table_line path name) ∷ []) (sym c.as_str.ensures.value))) c.from_residual.ensures.0)
    (same ∙ ap (table_events E schema shape path) (sym c.in-Ok.ensures))

pub dump_shape-loop-field-init : goal.dump_shape-loop-field-init
dump_shape-loop-field-init g t c =
    let takes = g.L.Lines.takes in let breaks = g.L.Lines.breaks in
    let schema = c.args.schema.now in let E = events schema c.args.left in let shape = c.args.shape.now in let path = c.args.path.now in
    let seen = table_seen c.in-Ok.table in
    let first = line (table_line path (string_bytes shape.name)) ∷ [] in
    goes_begin takes breaks c.args.out.now c.put_table.new.self (table_events E schema shape path (table_at (place_bytes c.args.place) (place_offset c.args.place))) first
    (fields_events E schema seen path c.deref-field-items.result.now)
    (ap (table_events E schema shape path) (sym c.in-Ok.ensures) ∙ ap (λ fields. first ++ fields_events E schema seen path fields) (sym c.deref-field-items.ensures.value))
    (c.in_ok-put_table.ensures first (ap (λ name. line (table_line path name) ∷ []) (sym c.as_str.ensures.value)))

pub dump_shape-returns-then-is_stopped : goal.dump_shape-returns-then-is_stopped
dump_shape-returns-then-is_stopped g t c = λ es same.
    let takes = g.L.Lines.takes in let breaks = g.L.Lines.breaks in
    let schema = c.args.schema.now in let E = events schema c.args.left in let path = c.args.path.now in
    let all = table_events E schema c.args.shape.now path (table_at (place_bytes c.args.place) (place_offset c.args.place)) in
    let rest = fields_events E schema (table_seen c.in-Ok.table) path (drop c.loop-field.field-index c.deref-field-items.result.now) in
    fed_as takes breaks c.args.out.now c.loop-field.out all es (Ok (tt {0}))
    (goes_stopped takes breaks c.args.out.now c.loop-field.out all rest c.loop-field.invariant c.if-is_stopped.ensures) same

pub dump_shape-returns-in_err-dump_field : goal.dump_shape-returns-in_err-dump_field
dump_shape-returns-in_err-dump_field g t c = λ es same.
    let takes = g.L.Lines.takes in let breaks = g.L.Lines.breaks in
    let schema = c.args.schema.now in let E = events schema c.args.left in let path = c.args.path.now in let seen = table_seen c.in-Ok.table in
    let fields = c.deref-field-items.result.now in let i = c.loop-field.field-index in let field = c.field-item.result in
    let all = table_events E schema c.args.shape.now path (table_at (place_bytes c.args.place) (place_offset c.args.place)) in
    let rest = fields_events E schema seen path (drop i fields) in
    let next = kind_events E schema field.required field.kind field.slot seen (field_path path (field_label field)) in
    let after = fields_events E schema seen path (drop (i + 1) fields) in
    let r = c.from_residual-in_err-dump_field.result in
    fed_as takes breaks c.args.out.now c.dump_field.new.out all es r
    (goes_broken takes breaks c.args.out.now c.loop-field.out c.dump_field.new.out all rest next after _ r c.loop-field.invariant
    (fields-split E schema seen path fields i field (omega arith) c.field-item.is) (c.in_err-dump_field.ensures next refl) c.from_residual-in_err-dump_field.ensures.0) same

pub dump_shape-loop-field-preserved : goal.dump_shape-loop-field-preserved
dump_shape-loop-field-preserved g t c =
    let takes = g.L.Lines.takes in let breaks = g.L.Lines.breaks in
    let schema = c.args.schema.now in let E = events schema c.args.left in let path = c.args.path.now in let seen = table_seen c.in-Ok.table in
    let fields = c.deref-field-items.result.now in let i = c.loop-field.field-index in let field = c.field-item.result in
    let all = table_events E schema c.args.shape.now path (table_at (place_bytes c.args.place) (place_offset c.args.place)) in
    let rest = fields_events E schema seen path (drop i fields) in
    let next = kind_events E schema field.required field.kind field.slot seen (field_path path (field_label field)) in
    let after = fields_events E schema seen path (drop (i + 1) fields) in
    goes_on takes breaks c.args.out.now c.loop-field.out c.dump_field.new.out all rest next after c.loop-field.invariant
    (fields-split E schema seen path fields i field (omega arith) c.field-item.is) (c.in_ok-dump_field.ensures next refl)

pub dump_place-returns-in-Union : goal.dump_place-returns-in-Union
dump_place-returns-in-Union g t c = λ es same.
    fed_none g.L.Lines.takes g.L.Lines.breaks c.args.out.now es
    (same ∙ no_place (events c.args.schema.now c.args.left) c.args.kind (place_bytes c.args.place) (place_offset c.args.place) c.args.path.now c.in-Union.is)

pub dump_items-returns-in_err-put_list : goal.dump_items-returns-in_err-put_list
dump_items-returns-in_err-put_list g t c = λ es same.
    let takes = g.L.Lines.takes in let breaks = g.L.Lines.breaks in
    let E = events c.args.schema.now c.args.left in let item = c.args.item in let count = c.in-Ok.values.1 in let path = c.args.path.now in
    let first = line (list_line path count) ∷ [] in
    let rest = items_events E item (slice_bytes c.in-Ok.values.0) path count 0 in
    let r = c.from_residual.result in
    fed_as takes breaks c.args.out.now c.put_list.new.self (first ++ rest) es r
    (fed_broken takes breaks c.args.out.now c.put_list.new.self first rest _ r (c.in_err-put_list.ensures first refl) c.from_residual.ensures.0)
    (same ∙ list-read E item (place_bytes c.args.place) (place_offset c.args.place) c.stride_of-stride.result path _ c.in-Ok.ensures c.stride_of-stride.ensures)

pub dump_items-loop-i-init : goal.dump_items-loop-i-init
dump_items-loop-i-init g t c =
    let takes = g.L.Lines.takes in let breaks = g.L.Lines.breaks in
    let E = events c.args.schema.now c.args.left in let item = c.args.item in let count = c.in-Ok.values.1 in let path = c.args.path.now in
    let S = place_bytes c.args.place in let f = place_offset c.args.place in
    let first = line (list_line path count) ∷ [] in
    let whole : count ≡ count - 0 = omega arith in
    goes_begin takes breaks c.args.out.now c.put_list.new.self (list_events E item path (vector_at (stride_of item) S f)) first
    (items_events E item (slice_bytes c.in-Ok.values.0) path (count - 0) 0)
    (list-read E item S f c.stride_of-stride.result path _ c.in-Ok.ensures c.stride_of-stride.ensures
    ∙ ap (λ k. first ++ items_events E item (slice_bytes c.in-Ok.values.0) path k 0) whole)
    (c.in_ok-put_list.ensures first refl)

pub dump_items-returns-then-is_stopped : goal.dump_items-returns-then-is_stopped
dump_items-returns-then-is_stopped g t c = λ es same.
    let takes = g.L.Lines.takes in let breaks = g.L.Lines.breaks in
    let E = events c.args.schema.now c.args.left in let item = c.args.item in let path = c.args.path.now in
    let all = list_events E item path (vector_at (stride_of item) (place_bytes c.args.place) (place_offset c.args.place)) in
    let rest = items_events E item (slice_bytes c.in-Ok.values.0) path (c.in-Ok.values.1 - c.loop-i.i-counter) c.loop-i.i-counter in
    fed_as takes breaks c.args.out.now c.loop-i.out all es (Ok (tt {0}))
    (goes_stopped takes breaks c.args.out.now c.loop-i.out all rest c.loop-i.invariant c.if-is_stopped.ensures) same

pub dump_items-returns-in_err-path : goal.dump_items-returns-in_err-path
dump_items-returns-in_err-path g t c = λ es same.
    let takes = g.L.Lines.takes in let breaks = g.L.Lines.breaks in
    let E = events c.args.schema.now c.args.left in let item = c.args.item in let path = c.args.path.now in
    let all = list_events E item path (vector_at (stride_of item) (place_bytes c.args.place) (place_offset c.args.place)) in
    let rest = items_events E item (slice_bytes c.in-Ok.values.0) path (c.in-Ok.values.1 - c.loop-i.i-counter) c.loop-i.i-counter in
    let r = c.from_residual-in_err-path.result in
    fed_as takes breaks c.args.out.now c.loop-i.out all es r
    (goes_fails takes breaks c.args.out.now c.loop-i.out all rest r c.loop-i.invariant c.from_residual-in_err-path.ensures.0) same

pub dump_items-returns-in_err-dump_found : goal.dump_items-returns-in_err-dump_found
dump_items-returns-in_err-dump_found g t c = λ es same.
    let takes = g.L.Lines.takes in let breaks = g.L.Lines.breaks in
    let E = events c.args.schema.now c.args.left in let item = c.args.item in let path = c.args.path.now in
    let slice = slice_bytes c.in-Ok.values.0 in let n = c.in-Ok.values.1 in let i = c.loop-i.i-counter in
    let all = list_events E item path (vector_at (stride_of item) (place_bytes c.args.place) (place_offset c.args.place)) in
    let rest = items_events E item slice path (n - i) i in
    let next = item_events E item slice (i * stride_of item) (item_path path i) in
    let after = items_events E item slice path (n - (i + 1)) (i + 1) in
    let r = c.from_residual-in_err-dump_found.result in
    fed_as takes breaks c.args.out.now c.dump_found.new.out all es r
    (goes_broken takes breaks c.args.out.now c.loop-i.out c.dump_found.new.out all rest next after _ r c.loop-i.invariant (items-split E item slice path n i (omega arith))
    (c.in_err-dump_found.ensures next (found-at E item slice (place_bytes c.new.result) i c.stride_of-stride.result (place_offset c.new.result) path c.as_str.result.now c.item_found-found.result c.item_found-found.ensures
    c.new.ensures.bytes c.new.ensures.offset c.stride_of-stride.ensures (c.as_str.ensures.value ∙ c.in_ok-path.ensures.ok)))
    c.from_residual-in_err-dump_found.ensures.0) same

pub dump_items-loop-i-preserved : goal.dump_items-loop-i-preserved
dump_items-loop-i-preserved g t c =
    let takes = g.L.Lines.takes in let breaks = g.L.Lines.breaks in
    let E = events c.args.schema.now c.args.left in let item = c.args.item in let path = c.args.path.now in
    let slice = slice_bytes c.in-Ok.values.0 in let n = c.in-Ok.values.1 in let i = c.loop-i.i-counter in
    let all = list_events E item path (vector_at (stride_of item) (place_bytes c.args.place) (place_offset c.args.place)) in
    let rest = items_events E item slice path (n - i) i in
    let next = item_events E item slice (i * stride_of item) (item_path path i) in
    let after = items_events E item slice path (n - (i + 1)) (i + 1) in
    goes_on takes breaks c.args.out.now c.loop-i.out c.dump_found.new.out all rest next after c.loop-i.invariant (items-split E item slice path n i (omega arith))
    (c.in_ok-dump_found.ensures next (found-at E item slice (place_bytes c.new.result) i c.stride_of-stride.result (place_offset c.new.result) path c.as_str.result.now c.item_found-found.result c.item_found-found.ensures
    c.new.ensures.bytes c.new.ensures.offset c.stride_of-stride.ensures (c.as_str.ensures.value ∙ c.in_ok-path.ensures.ok)))

pub dump_union-returns-in-None : goal.dump_union-returns-in-None
dump_union-returns-in-None g t c = λ es same.
    let schema = c.args.schema.now in let E = events schema c.args.left in let index = c.args.index in
    let S = place_bytes (tagged_place c.args.tagged) in let f = place_offset (tagged_place c.args.tagged) in let path = c.args.path.now in
    let none : slice_get schema.unions.items index ≡ None = slice_get_past schema.unions.items index
    (subst (λ xs. length xs ≤ index) c.deref.ensures.value (ltb-false index (length c.deref.result.now) (sym c.in-None.ensures.lookup.0))) in
    fed_none g.L.Lines.takes g.L.Lines.breaks c.args.out.now es (same ∙ ap (λ o. union_events E schema o (tagged_tag c.args.tagged) S f path) none)

pub dump_union-returns-in_err-put_union-in-Some-variant_with : goal.dump_union-returns-in_err-put_union-in-Some-variant_with
dump_union-returns-in_err-put_union-in-Some-variant_with g t c = λ es same.
    let takes = g.L.Lines.takes in let breaks = g.L.Lines.breaks in
    let schema = c.args.schema.now in let E = events schema c.args.left in let index = c.args.index in let variants = c.in-Some.variants.now in let tag = tagged_tag c.args.tagged in
    let S = place_bytes (tagged_place c.args.tagged) in let f = place_offset (tagged_place c.args.tagged) in let path = c.args.path.now in
    let some : slice_get schema.unions.items index ≡ Some variants = subst (λ xs. slice_get xs index ≡ Some variants) c.deref.ensures.value
    (slice_get_read c.deref.result.now (length c.deref.result.now) index variants refl (ltb-true index (length c.deref.result.now) (sym c.in-Some.ensures.lookup.0)) c.in-Some.ensures.lookup.1) in
    let variant = c.in-Some-variant_with.variant.now in
    let is : variant_of variants.items tag ≡ Some variant
    = sym (c.in-Some-variant_with.ensures ∙ ap (λ xs. variant_of xs c.tag-tag.result) c.as_slice.ensures.value ∙ ap (variant_of variants.items) c.tag-tag.ensures) in
    let first = line (union_line path tag (string_bytes variant.name)) ∷ [] in let rest = member_events E schema variant.kind S f path in
    let named : first ≡ line (union_line path c.tag-tag.result c.as_str.result.now) ∷ []
    = ap (λ name. line (union_line path tag name) ∷ []) (sym c.as_str.ensures.value) ∙ ap (λ k. line (union_line path k c.as_str.result.now) ∷ []) (sym c.tag-tag.ensures) in
    let r = c.from_residual.result in
    fed_as takes breaks c.args.out.now c.put_union.new.self (first ++ rest) es r
    (fed_broken takes breaks c.args.out.now c.put_union.new.self first rest _ r (c.in_err-put_union-in-Some-variant_with.ensures first named) c.from_residual.ensures.0)
    (same ∙ union_known E schema (slice_get schema.unions.items index) variants variant tag S f path some is)

pub dump_union-returns-in_ok-put_union-in-Some-variant_with : goal.dump_union-returns-in_ok-put_union-in-Some-variant_with
dump_union-returns-in_ok-put_union-in-Some-variant_with g t c = λ es same.
    let takes = g.L.Lines.takes in let breaks = g.L.Lines.breaks in
    let schema = c.args.schema.now in let E = events schema c.args.left in let index = c.args.index in let variants = c.in-Some.variants.now in let tag = tagged_tag c.args.tagged in
    let S = place_bytes (tagged_place c.args.tagged) in let f = place_offset (tagged_place c.args.tagged) in let path = c.args.path.now in
    let some : slice_get schema.unions.items index ≡ Some variants = subst (λ xs. slice_get xs index ≡ Some variants) c.deref.ensures.value
    (slice_get_read c.deref.result.now (length c.deref.result.now) index variants refl (ltb-true index (length c.deref.result.now) (sym c.in-Some.ensures.lookup.0)) c.in-Some.ensures.lookup.1) in
    let variant = c.in-Some-variant_with.variant.now in
    let is : variant_of variants.items tag ≡ Some variant
    = sym (c.in-Some-variant_with.ensures ∙ ap (λ xs. variant_of xs c.tag-tag.result) c.as_slice.ensures.value ∙ ap (variant_of variants.items) c.tag-tag.ensures) in
    let first = line (union_line path tag (string_bytes variant.name)) ∷ [] in let rest = member_events E schema variant.kind S f path in
    let named : first ≡ line (union_line path c.tag-tag.result c.as_str.result.now) ∷ []
    = ap (λ name. line (union_line path tag name) ∷ []) (sym c.as_str.ensures.value) ∙ ap (λ k. line (union_line path k c.as_str.result.now) ∷ []) (sym c.tag-tag.ensures) in
    let r = c.dump_member.result in
    fed_as takes breaks c.args.out.now c.dump_member.new.out (first ++ rest) es r
    (fed_then takes breaks c.args.out.now c.put_union.new.self c.dump_member.new.out first rest r (c.in_ok-put_union-in-Some-variant_with.ensures first named)
    (c.dump_member.ensures rest (ap (λ place. member_events E schema variant.kind (place_bytes place) (place_offset place) path) (sym c.place.ensures))))
    (same ∙ union_known E schema (slice_get schema.unions.items index) variants variant tag S f path some is)

pub dump_union-returns-in-None-variant_with : goal.dump_union-returns-in-None-variant_with
dump_union-returns-in-None-variant_with g t c = λ es same.
    let takes = g.L.Lines.takes in let breaks = g.L.Lines.breaks in
    let schema = c.args.schema.now in let E = events schema c.args.left in let index = c.args.index in let variants = c.in-Some.variants.now in let tag = tagged_tag c.args.tagged in
    let S = place_bytes (tagged_place c.args.tagged) in let f = place_offset (tagged_place c.args.tagged) in let path = c.args.path.now in
    let some : slice_get schema.unions.items index ≡ Some variants = subst (λ xs. slice_get xs index ≡ Some variants) c.deref.ensures.value
    (slice_get_read c.deref.result.now (length c.deref.result.now) index variants refl (ltb-true index (length c.deref.result.now) (sym c.in-Some.ensures.lookup.0)) c.in-Some.ensures.lookup.1) in
    let none : variant_of variants.items tag ≡ None = sym (c.in-None-variant_with.ensures ∙ ap (λ xs. variant_of xs c.tag-tag.result) c.as_slice.ensures.value ∙ ap (variant_of variants.items) c.tag-tag.ensures) in
    c.put_fault.ensures es
    (same ∙ union_unknown E schema (slice_get schema.unions.items index) variants tag S f path some none ∙ ap (λ k. fault_event path (fault_text (UnknownUnionTag k)) ∷ []) (sym c.tag-tag.ensures))

pub dump_unions-returns-in_err-put_unions : goal.dump_unions-returns-in_err-put_unions
dump_unions-returns-in_err-put_unions g t c = λ es same.
    let takes = g.L.Lines.takes in let breaks = g.L.Lines.breaks in
    let schema = c.args.schema.now in let E = events schema c.args.left in let index = c.args.index in let seen = unions_seen c.args.unions in let path = c.args.path.now in
    let first = line (unions_line path seen.count) ∷ [] in
    let rest = union_items_events E schema index seen path seen.count 0 in
    let r = c.from_residual.result in
    fed_as takes breaks c.args.out.now c.put_unions.new.self (first ++ rest) es r
    (fed_broken takes breaks c.args.out.now c.put_unions.new.self first rest _ r (c.in_err-put_unions.ensures first (ap (λ k. line (unions_line path k) ∷ []) (sym c.len-count.ensures))) c.from_residual.ensures.0) same

pub dump_unions-loop-i-init : goal.dump_unions-loop-i-init
dump_unions-loop-i-init g t c =
    let takes = g.L.Lines.takes in let breaks = g.L.Lines.breaks in
    let schema = c.args.schema.now in let E = events schema c.args.left in let index = c.args.index in let seen = unions_seen c.args.unions in let path = c.args.path.now in
    let first = line (unions_line path seen.count) ∷ [] in
    let whole : seen.count ≡ c.len-count.result - 0 = omega (arith, c.len-count.ensures) in
    goes_begin takes breaks c.args.out.now c.put_unions.new.self (unions_events E schema false index path (Ok (Some seen))) first
    (union_items_events E schema index seen path (c.len-count.result - 0) 0)
    (ap (λ k. first ++ union_items_events E schema index seen path k 0) whole)
    (c.in_ok-put_unions.ensures first (ap (λ k. line (unions_line path k) ∷ []) (sym c.len-count.ensures)))

pub dump_unions-returns-then-is_stopped : goal.dump_unions-returns-then-is_stopped
dump_unions-returns-then-is_stopped g t c = λ es same.
    let takes = g.L.Lines.takes in let breaks = g.L.Lines.breaks in
    let schema = c.args.schema.now in let E = events schema c.args.left in let index = c.args.index in let seen = unions_seen c.args.unions in let path = c.args.path.now in
    let all = unions_events E schema false index path (Ok (Some seen)) in
    let rest = union_items_events E schema index seen path (c.len-count.result - c.loop-i.i-counter) c.loop-i.i-counter in
    fed_as takes breaks c.args.out.now c.loop-i.out all es (Ok (tt {0}))
    (goes_stopped takes breaks c.args.out.now c.loop-i.out all rest c.loop-i.invariant c.if-is_stopped.ensures) same

pub dump_unions-returns-in_err-path : goal.dump_unions-returns-in_err-path
dump_unions-returns-in_err-path g t c = λ es same.
    let takes = g.L.Lines.takes in let breaks = g.L.Lines.breaks in
    let schema = c.args.schema.now in let E = events schema c.args.left in let index = c.args.index in let seen = unions_seen c.args.unions in let path = c.args.path.now in
    let all = unions_events E schema false index path (Ok (Some seen)) in
    let rest = union_items_events E schema index seen path (c.len-count.result - c.loop-i.i-counter) c.loop-i.i-counter in
    let r = c.from_residual-in_err-path.result in
    fed_as takes breaks c.args.out.now c.loop-i.out all es r
    (goes_fails takes breaks c.args.out.now c.loop-i.out all rest r c.loop-i.invariant c.from_residual-in_err-path.ensures.0) same

pub dump_unions-returns-in_err-dump_union : goal.dump_unions-returns-in_err-dump_union
dump_unions-returns-in_err-dump_union g t c = λ es same.
    let takes = g.L.Lines.takes in let breaks = g.L.Lines.breaks in
    let schema = c.args.schema.now in let E = events schema c.args.left in let index = c.args.index in let seen = unions_seen c.args.unions in let path = c.args.path.now in
    let o = slice_get schema.unions.items index in let n = c.len-count.result in let i = c.loop-i.i-counter in
    let all = unions_events E schema false index path (Ok (Some seen)) in
    let rest = union_items_events E schema index seen path (n - i) i in
    let next = union_events E schema o (slice_index seen.tags i) seen.references (i * 4) (item_path path i) in
    let after = union_items_events E schema index seen path (n - (i + 1)) (i + 1) in
    let r = c.from_residual-in_err-dump_union.result in
    fed_as takes breaks c.args.out.now c.dump_union.new.out all es r
    (goes_broken takes breaks c.args.out.now c.loop-i.out c.dump_union.new.out all rest next after _ r c.loop-i.invariant (union_items-split E schema index seen path n i (omega arith))
    (c.in_err-dump_union.ensures next (tagged-at E schema o seen i path c.as_str.result.now c.in-Some.tagged c.in-Some.ensures.1 (c.as_str.ensures.value ∙ c.in_ok-path.ensures.ok)))
    c.from_residual-in_err-dump_union.ensures.0) same

pub dump_unions-loop-i-preserved : goal.dump_unions-loop-i-preserved
dump_unions-loop-i-preserved g t c =
    let takes = g.L.Lines.takes in let breaks = g.L.Lines.breaks in
    let schema = c.args.schema.now in let E = events schema c.args.left in let index = c.args.index in let seen = unions_seen c.args.unions in let path = c.args.path.now in
    let o = slice_get schema.unions.items index in let n = c.len-count.result in let i = c.loop-i.i-counter in
    let all = unions_events E schema false index path (Ok (Some seen)) in
    let rest = union_items_events E schema index seen path (n - i) i in
    let next = union_events E schema o (slice_index seen.tags i) seen.references (i * 4) (item_path path i) in
    let after = union_items_events E schema index seen path (n - (i + 1)) (i + 1) in
    goes_on takes breaks c.args.out.now c.loop-i.out c.dump_union.new.out all rest next after c.loop-i.invariant (union_items-split E schema index seen path n i (omega arith))
    (c.in_ok-dump_union.ensures next (tagged-at E schema o seen i path c.as_str.result.now c.in-Some.tagged c.in-Some.ensures.1 (c.as_str.ensures.value ∙ c.in_ok-path.ensures.ok)))
