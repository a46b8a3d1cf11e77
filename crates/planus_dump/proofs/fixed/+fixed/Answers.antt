use Rattle.std.proofs.Common.{◌≡◌, ◌+◌, ◌-◌, ◌*◌, ◌^◌, ◌≤◌, ◌++◌, ◌∷◌, [], drop, ap, sym, subst, ◌∙◌, Ok, Some, None, slice_get, arith, refl, length}
use Rattle.std.proofs.lemmas.Bool.{ltb-true, ltb-false}
use Rattle.std.proofs.lemmas.Option.{slice_get_past, slice_get_read}
use Rattle.std.specs.String.{string_bytes}
use Rattle.planus_read.specs.Slices.{slice_bytes}
use Rattle.planus_read.specs.Places.{place_bytes, place_offset}
use Rattle.planus_dump.specs.Events.{line, structs, struct_events, struct_fields_events, counted_events, values_events, fixed_events, fixed_size, enum_events}
use Rattle.planus_dump.specs.Lines.{field_path, item_path, struct_line}
use Rattle.planus_dump.proofs.Fed.{fed_as, fed_none, fed_broken, goes_begin, goes_on, goes_stopped, goes_fails, goes_broken}
use Rattle.planus_dump.proofs.FixedFeeds.{structs-more, structs-none, struct_fields-split, struct-read, counted-at, values-split, item-at}
use Rattle.planus_dump.proofs.fixed.+fixed.Goals as goal

pub dump_fixed-returns-in-None : goal.dump_fixed-returns-in-None
dump_fixed-returns-in-None g t c = λ es same.
    let S = place_bytes c.args.place in let f = place_offset c.args.place in let path = c.args.path.now in
    let schema = c.args.schema.now in let index = c.in-Enum.index in
    let none : slice_get schema.enums.items index ≡ None = slice_get_past schema.enums.items index
    (subst (λ xs. length xs ≤ index) c.deref.ensures.value (ltb-false index (length c.deref.result.now) (sym c.in-None.ensures.lookup.0))) in
    fed_none g.L.Lines.takes g.L.Lines.breaks c.args.out.now es
    (same ∙ ap (λ fixed. fixed_events schema (structs schema c.args.left) fixed S f path) c.in-Enum.is ∙ ap (λ o. enum_events o S f path) none)

pub dump_struct-returns-then-left-eq0 : goal.dump_struct-returns-then-left-eq0
dump_struct-returns-then-left-eq0 g t c = λ es same.
    c.put_deep.ensures es (same ∙ structs-none c.args.schema.now c.args.left c.args.index (place_bytes c.args.place) (place_offset c.args.place) c.args.path.now c.if-left-eq0.true)

pub dump_struct-returns-in-None : goal.dump_struct-returns-in-None
dump_struct-returns-in-None g t c = λ es same.
    let S = place_bytes c.args.place in let f = place_offset c.args.place in let path = c.args.path.now in
    let schema = c.args.schema.now in let index = c.args.index in
    let none : slice_get schema.structs.items index ≡ None = slice_get_past schema.structs.items index
    (subst (λ xs. length xs ≤ index) c.deref.ensures.value (ltb-false index (length c.deref.result.now) (sym c.in-None.ensures.lookup.0))) in
    fed_none g.L.Lines.takes g.L.Lines.breaks c.args.out.now es
    (same ∙ structs-more schema c.args.left index S f path c.if-left-eq0.false ∙ ap (λ o. struct_events schema (structs schema (c.args.left - 1)) o S f path) none)

pub dump_struct-returns-in-Some : goal.dump_struct-returns-in-Some
dump_struct-returns-in-Some g t c = λ es same.
    let S = place_bytes c.args.place in let f = place_offset c.args.place in let path = c.args.path.now in
    let schema = c.args.schema.now in let index = c.args.index in
    let some : slice_get schema.structs.items index ≡ Some c.in-Some.shape.now = subst (λ xs. slice_get xs index ≡ Some c.in-Some.shape.now) c.deref.ensures.value
    (slice_get_read c.deref.result.now (length c.deref.result.now) index c.in-Some.shape.now refl (ltb-true index (length c.deref.result.now) (sym c.in-Some.ensures.lookup.0)) c.in-Some.ensures.lookup.1) in
    c.dump_struct_shape.ensures es
    (same ∙ structs-more schema c.args.left index S f path c.if-left-eq0.false ∙ ap (λ o. struct_events schema (structs schema (c.args.left - 1)) o S f path) some)

pub dump_fixed_items-loop-i-init : goal.dump_fixed_items-loop-i-init
dump_fixed_items-loop-i-init g t c =
    let takes = g.L.Lines.takes in let breaks = g.L.Lines.breaks in
    let schema = c.args.schema.now in let T = structs schema c.args.left in let items = c.args.items in
    let all = values_events schema T items.value (slice_bytes items.slice) items.first c.args.path.now items.count 0 in
    let whole : items.count ≡ items.count - 0 = omega arith in
    goes_begin takes breaks c.args.out.now c.args.out.now all []
    (values_events schema T items.value (slice_bytes items.slice) items.first c.args.path.now (items.count - 0) 0)
    (ap (λ k. values_events schema T items.value (slice_bytes items.slice) items.first c.args.path.now k 0) whole)
    (fed_none takes breaks c.args.out.now [] refl)

pub dump_fixed_items-returns-then-is_stopped : goal.dump_fixed_items-returns-then-is_stopped
dump_fixed_items-returns-then-is_stopped g t c = λ es same.
    let takes = g.L.Lines.takes in let breaks = g.L.Lines.breaks in
    let schema = c.args.schema.now in let T = structs schema c.args.left in let items = c.args.items in let i = c.loop-i.i-counter in
    let all = values_events schema T items.value (slice_bytes items.slice) items.first c.args.path.now items.count 0 in
    let rest = values_events schema T items.value (slice_bytes items.slice) items.first c.args.path.now (items.count - i) i in
    fed_as takes breaks c.args.out.now c.loop-i.out all es (Ok (tt {0}))
    (goes_stopped takes breaks c.args.out.now c.loop-i.out all rest c.loop-i.invariant c.if-is_stopped.ensures) same

pub dump_fixed_items-returns-in_err-path : goal.dump_fixed_items-returns-in_err-path
dump_fixed_items-returns-in_err-path g t c = λ es same.
    let takes = g.L.Lines.takes in let breaks = g.L.Lines.breaks in
    let schema = c.args.schema.now in let T = structs schema c.args.left in let items = c.args.items in let i = c.loop-i.i-counter in
    let all = values_events schema T items.value (slice_bytes items.slice) items.first c.args.path.now items.count 0 in
    let rest = values_events schema T items.value (slice_bytes items.slice) items.first c.args.path.now (items.count - i) i in
    let r = c.from_residual.result in
    fed_as takes breaks c.args.out.now c.loop-i.out all es r
    (goes_fails takes breaks c.args.out.now c.loop-i.out all rest r c.loop-i.invariant c.from_residual.ensures.0) same

pub dump_fixed_items-returns-in_err-dump_fixed : goal.dump_fixed_items-returns-in_err-dump_fixed
dump_fixed_items-returns-in_err-dump_fixed g t c = λ es same.
    let takes = g.L.Lines.takes in let breaks = g.L.Lines.breaks in
    let schema = c.args.schema.now in let T = structs schema c.args.left in let items = c.args.items in let path = c.args.path.now in
    let slice = slice_bytes items.slice in let n = items.count in let i = c.loop-i.i-counter in
    let all = values_events schema T items.value slice items.first path n 0 in
    let rest = values_events schema T items.value slice items.first path (n - i) i in
    let next = fixed_events schema T items.value slice (items.first + i * fixed_size schema items.value) (item_path path i) in
    let after = values_events schema T items.value slice items.first path (n - (i + 1)) (i + 1) in
    let r = c.from_residual-in_err-dump_fixed.result in
    fed_as takes breaks c.args.out.now c.dump_fixed.new.out all es r
    (goes_broken takes breaks c.args.out.now c.loop-i.out c.dump_fixed.new.out all rest next after _ r c.loop-i.invariant
    (values-split schema T items.value slice items.first path n i (omega arith))
    (c.in_err-dump_fixed.ensures next (item-at schema c.args.left items.value slice (place_bytes c.item_place-place.result) items.first i c.fixed_size-size.result (2 ^ 64 - 1) (place_offset c.item_place-place.result) (item_path path i) c.as_str.result.now
    (omega arith) c.item_place-place.ensures.bytes c.item_place-place.ensures.offset c.fixed_size-size.ensures (c.as_str.ensures.value ∙ c.in_ok-path.ensures.ok))) c.from_residual-in_err-dump_fixed.ensures.0) same

pub dump_fixed_items-loop-i-preserved : goal.dump_fixed_items-loop-i-preserved
dump_fixed_items-loop-i-preserved g t c =
    let takes = g.L.Lines.takes in let breaks = g.L.Lines.breaks in
    let schema = c.args.schema.now in let T = structs schema c.args.left in let items = c.args.items in let path = c.args.path.now in
    let slice = slice_bytes items.slice in let n = items.count in let i = c.loop-i.i-counter in
    let all = values_events schema T items.value slice items.first path n 0 in
    let rest = values_events schema T items.value slice items.first path (n - i) i in
    let next = fixed_events schema T items.value slice (items.first + i * fixed_size schema items.value) (item_path path i) in
    let after = values_events schema T items.value slice items.first path (n - (i + 1)) (i + 1) in
    goes_on takes breaks c.args.out.now c.loop-i.out c.dump_fixed.new.out all rest next after c.loop-i.invariant
    (values-split schema T items.value slice items.first path n i (omega arith))
    (c.in_ok-dump_fixed.ensures next (item-at schema c.args.left items.value slice (place_bytes c.item_place-place.result) items.first i c.fixed_size-size.result (2 ^ 64 - 1) (place_offset c.item_place-place.result) (item_path path i) c.as_str.result.now
    (omega arith) c.item_place-place.ensures.bytes c.item_place-place.ensures.offset c.fixed_size-size.ensures (c.as_str.ensures.value ∙ c.in_ok-path.ensures.ok)))

pub dump_struct_shape-returns-in_err-put_struct : goal.dump_struct_shape-returns-in_err-put_struct
dump_struct_shape-returns-in_err-put_struct g t c = λ es same.
    let takes = g.L.Lines.takes in let breaks = g.L.Lines.breaks in let old = c.args.out.now in let new = c.put_struct.new.self in
    let schema = c.args.schema.now in let T = structs schema c.args.left in let shape = c.args.shape.now in
    let S = place_bytes c.args.place in let slice = slice_bytes c.in-Ok.slice in let path = c.args.path.now in
    let first = line (struct_line path (string_bytes shape.name)) ∷ [] in
    let rest = struct_fields_events schema T shape.fields.items slice path in
    fed_as takes breaks old new (first ++ rest) es c.from_residual.result
    (fed_broken takes breaks old new first rest _ c.from_residual.result
    (c.in_err-put_struct.ensures first (ap (λ name. line (struct_line path name) ∷ []) (sym c.as_str.ensures.value))) c.from_residual.ensures.0)
    (same ∙ struct-read schema T shape S slice (place_offset c.args.place) path c.in-Ok.ensures.0 c.in-Ok.ensures.1)

pub dump_struct_shape-loop-field-init : goal.dump_struct_shape-loop-field-init
dump_struct_shape-loop-field-init g t c =
    let takes = g.L.Lines.takes in let breaks = g.L.Lines.breaks in let old = c.args.out.now in let new = c.put_struct.new.self in
    let schema = c.args.schema.now in let T = structs schema c.args.left in let shape = c.args.shape.now in
    let S = place_bytes c.args.place in let f = place_offset c.args.place in let slice = slice_bytes c.in-Ok.slice in let path = c.args.path.now in
    let first = line (struct_line path (string_bytes shape.name)) ∷ [] in
    goes_begin takes breaks old new (struct_events schema T (Some shape) S f path) first
    (struct_fields_events schema T c.deref-field-items.result.now slice path)
    (struct-read schema T shape S slice f path c.in-Ok.ensures.0 c.in-Ok.ensures.1
    ∙ ap (λ fields. first ++ struct_fields_events schema T fields slice path) (sym c.deref-field-items.ensures.value))
    (c.in_ok-put_struct.ensures first (ap (λ name. line (struct_line path name) ∷ []) (sym c.as_str.ensures.value)))

pub dump_struct_shape-returns-then-is_stopped : goal.dump_struct_shape-returns-then-is_stopped
dump_struct_shape-returns-then-is_stopped g t c = λ es same.
    let takes = g.L.Lines.takes in let breaks = g.L.Lines.breaks in
    let schema = c.args.schema.now in let T = structs schema c.args.left in let shape = c.args.shape.now in
    let all = struct_events schema T (Some shape) (place_bytes c.args.place) (place_offset c.args.place) c.args.path.now in
    let rest = struct_fields_events schema T (drop c.loop-field.field-index c.deref-field-items.result.now) (slice_bytes c.in-Ok.slice) c.args.path.now in
    fed_as takes breaks c.args.out.now c.loop-field.out all es (Ok (tt {0}))
    (goes_stopped takes breaks c.args.out.now c.loop-field.out all rest c.loop-field.invariant c.if-is_stopped.ensures) same

pub dump_struct_shape-returns-in_err-path : goal.dump_struct_shape-returns-in_err-path
dump_struct_shape-returns-in_err-path g t c = λ es same.
    let takes = g.L.Lines.takes in let breaks = g.L.Lines.breaks in
    let schema = c.args.schema.now in let T = structs schema c.args.left in let shape = c.args.shape.now in
    let all = struct_events schema T (Some shape) (place_bytes c.args.place) (place_offset c.args.place) c.args.path.now in
    let rest = struct_fields_events schema T (drop c.loop-field.field-index c.deref-field-items.result.now) (slice_bytes c.in-Ok.slice) c.args.path.now in
    let r = c.from_residual-in_err-path.result in
    fed_as takes breaks c.args.out.now c.loop-field.out all es r
    (goes_fails takes breaks c.args.out.now c.loop-field.out all rest r c.loop-field.invariant c.from_residual-in_err-path.ensures.0) same

pub dump_struct_shape-returns-in_err-dump_struct_field : goal.dump_struct_shape-returns-in_err-dump_struct_field
dump_struct_shape-returns-in_err-dump_struct_field g t c = λ es same.
    let takes = g.L.Lines.takes in let breaks = g.L.Lines.breaks in
    let schema = c.args.schema.now in let T = structs schema c.args.left in let shape = c.args.shape.now in
    let slice = slice_bytes c.in-Ok.slice in let path = c.args.path.now in
    let fields = c.deref-field-items.result.now in let i = c.loop-field.field-index in let field = c.field-item.result in
    let all = struct_events schema T (Some shape) (place_bytes c.args.place) (place_offset c.args.place) path in
    let rest = struct_fields_events schema T (drop i fields) slice path in
    let at = field_path path (string_bytes field.name) in
    let next = counted_events schema T field.count field.fixed slice field.distance at in
    let after = struct_fields_events schema T (drop (i + 1) fields) slice path in
    let r = c.from_residual-in_err-dump_struct_field.result in
    fed_as takes breaks c.args.out.now c.dump_struct_field.new.out all es r
    (goes_broken takes breaks c.args.out.now c.loop-field.out c.dump_struct_field.new.out all rest next after _ r c.loop-field.invariant
    (struct_fields-split schema T slice path fields i field (omega arith) c.field-item.is)
    (c.in_err-dump_struct_field.ensures next (counted-at schema T field.count field.fixed slice field.distance at c.as_str-in-loop-field.result.now (c.as_str-in-loop-field.ensures.value ∙ c.in_ok-path.ensures.ok))) c.from_residual-in_err-dump_struct_field.ensures.0) same

pub dump_struct_shape-loop-field-preserved : goal.dump_struct_shape-loop-field-preserved
dump_struct_shape-loop-field-preserved g t c =
    let takes = g.L.Lines.takes in let breaks = g.L.Lines.breaks in
    let schema = c.args.schema.now in let T = structs schema c.args.left in let shape = c.args.shape.now in
    let slice = slice_bytes c.in-Ok.slice in let path = c.args.path.now in
    let fields = c.deref-field-items.result.now in let i = c.loop-field.field-index in let field = c.field-item.result in
    let all = struct_events schema T (Some shape) (place_bytes c.args.place) (place_offset c.args.place) path in
    let rest = struct_fields_events schema T (drop i fields) slice path in
    let at = field_path path (string_bytes field.name) in
    let next = counted_events schema T field.count field.fixed slice field.distance at in
    let after = struct_fields_events schema T (drop (i + 1) fields) slice path in
    goes_on takes breaks c.args.out.now c.loop-field.out c.dump_struct_field.new.out all rest next after c.loop-field.invariant
    (struct_fields-split schema T slice path fields i field (omega arith) c.field-item.is)
    (c.in_ok-dump_struct_field.ensures next (counted-at schema T field.count field.fixed slice field.distance at c.as_str-in-loop-field.result.now (c.as_str-in-loop-field.ensures.value ∙ c.in_ok-path.ensures.ok)))
