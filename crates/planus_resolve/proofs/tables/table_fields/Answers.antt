use Rattle.std.proofs.Common.{rules, get_or, ◌≡◌, false, ◌+◌, ◌++◌, drop, refl, ap, sym, subst, ◌∙◌, take, map, arith}
use Rattle.std.specs.Prelude.{nat_le}
use Rattle.std.proofs.lemmas.List.{append-nil, take_all, drop_all}
use Rattle.planus_schema.specs.Distinct.{AreDistinct}
use Rattle.planus_schema.specs.Slots.{slots_taken}
use Rattle.planus_syntax.specs.Values.{field_of}
use Rattle.std.proofs.lemmas.Bool.{le-leb, lt-leb}
use Rattle.planus_resolve.specs.Tables.{all_names, names_taken, type_name}
use Rattle.planus_resolve.specs.inner.Index.{IsTaken}
use Rattle.planus_resolve.proofs.IndexLemmas.{distinct_more, no_names_yet}
use Rattle.planus_resolve.proofs.StructLemmas.{each2_push, map_next, drop_next}
use Rattle.planus_resolve.proofs.TableLemmas.{as_many, type_name_at, width_small, names_are, after_is, nothing_wrong, slots_next, follow_push, names_push, lawful_push, slot_stops, field_stops, names_stop}
use Rattle.planus_resolve.specs.inner.Scopes.{scope_heads, scope_space}
use Rattle.planus_resolve.specs.WrongTables.{field_type}
use Rattle.planus_resolve.proofs.tables.table_fields.Goals as goal

pub fields-init : goal.fields-init
fields-init c =
    let e = c.new-fields.ensures.items in
    record {
      says = rw e tt;
      order = λ _. rw e refl;
      lawful = rw e refl;
      slots = rw e refl;
      wrong = rw e refl;
      taken = search rules;
      distinct = rw e no_names_yet;
      index = refl;
    }

pub fields-preserved : goal.fields-preserved
fields-preserved c =
    let i = c.fields.invariant in
    let e = c.in_ok-push.ensures.items in
    let f = c.in-Ok-table_field.value in
    let fs = c.fields.fields.items in
    let t = map_next field_of c.args.declared.now c.fields.declaration-index c.declaration-item.result c.fields-test.true c.declaration-item.is in
    let r = drop_next c.args.declared.now c.fields.declaration-index c.declaration-item.result c.fields-test.true c.declaration-item.is in
    let a = c.in-Ok-add_names.ensures.read (all_names fs) i.taken in
    let pushed : all_names c.push.new.self.items ≡ all_names fs ++ names_taken f = ap all_names e ∙ names_push fs f in
    let after = after_is (scope_heads c.args.scope.now) (scope_space c.args.scope.now) c.args.ids c.fields.next c.fields.key (all_names c.fields.fields.items) (drop c.fields.declaration-index c.args.declared.now) c.declaration-item.result (drop (c.fields.declaration-index + 1) c.args.declared.now) _ f
    (record { here = r; low = le-leb c.fields.next 65535 c.if-next-gt65535.false; field = c.in-Ok-table_field.ensures.wrong; same = i.wrong })
    c.in-Ok-table_field.ensures.read.kind c.in-Ok-table_field.ensures.read.says.key (names_are f c.declaration-item.result (field_type (scope_heads c.args.scope.now) (scope_space c.args.scope.now) c.declaration-item.result) c.in-Ok-table_field.ensures.read.kind c.in-Ok-table_field.ensures.read.says.name) in
    record {
      says = rw (t, e) (each2_push _ (map field_of (take c.fields.declaration-index c.args.declared.now)) fs (field_of c.declaration-item.result) f i.says c.in-Ok-table_field.ensures.read.says);
      order = λ no. rw (e, c.width-next.ensures) (follow_push 0 fs c.fields.next f (i.order no) (c.in-Ok-table_field.ensures.read.order no));
      lawful = rw e (lawful_push fs f i.lawful c.in-Ok-table_field.ensures.read.lawful);
      slots = rw (e, c.width-next.ensures) (slots_next (scope_heads c.args.scope.now) (scope_space c.args.scope.now) c.args.ids c.fields.next fs f c.declaration-item.result (drop c.fields.declaration-index c.args.declared.now) (drop (c.fields.declaration-index + 1) c.args.declared.now) _ r c.in-Ok-table_field.ensures.read.kind c.in-Ok-table_field.ensures.read.slot i.slots);
      wrong = nothing_wrong (scope_heads c.args.scope.now) (scope_space c.args.scope.now) c.args.ids c.fields.next c.fields.key (all_names c.fields.fields.items) c.declaration-item.result (drop (c.fields.declaration-index + 1) c.args.declared.now) _ f _ _ _
          after a.new a.first pushed a.key (ap (λ n. c.fields.next + n) c.width-next.ensures);
      taken = subst (IsTaken c.add_names.new.names) (sym pushed) a.taken;
      distinct = subst AreDistinct (sym pushed) (distinct_more (all_names fs) (names_taken f) a.new i.distinct);
      index = ap (λ n. n + 1) i.index;
    }

pub overflow_add-next : goal.overflow_add-next
overflow_add-next c =
    let small = width_small c.in-Ok-table_field.value.kind in
    omega (arith, c.width-next.ensures, small)

pub returns-then-next-gt65535-clause-wrong : goal.returns-then-next-gt65535-clause-wrong
returns-then-next-gt65535-clause-wrong c =
    let r = drop_next c.args.declared.now c.fields.declaration-index c.declaration-item.result c.fields-test.true c.declaration-item.is in
    let high : nat_le c.fields.next 65535 ≡ false = lt-leb c.fields.next 65535 c.if-next-gt65535.true in
    rw c.wrong.ensures (slot_stops (scope_heads c.args.scope.now) (scope_space c.args.scope.now) c.args.ids c.fields.next c.fields.key (all_names c.fields.fields.items) _ c.declaration-item.result _ _ r high c.fields.invariant.wrong)

pub returns-in-Err-table_field-clause-wrong : goal.returns-in-Err-table_field-clause-wrong
returns-in-Err-table_field-clause-wrong c =
    let r = drop_next c.args.declared.now c.fields.declaration-index c.declaration-item.result c.fields-test.true c.declaration-item.is in
    field_stops (scope_heads c.args.scope.now) (scope_space c.args.scope.now) c.args.ids c.fields.next c.fields.key (all_names c.fields.fields.items) _ c.declaration-item.result _ _ _ r (le-leb c.fields.next 65535 c.if-next-gt65535.false) c.fields.invariant.wrong c.in-Err-table_field.ensures.wrong

pub returns-in-Err-add_names-clause-wrong : goal.returns-in-Err-add_names-clause-wrong
returns-in-Err-add_names-clause-wrong c =
    let r = drop_next c.args.declared.now c.fields.declaration-index c.declaration-item.result c.fields-test.true c.declaration-item.is in
    let after = after_is (scope_heads c.args.scope.now) (scope_space c.args.scope.now) c.args.ids c.fields.next c.fields.key (all_names c.fields.fields.items) (drop c.fields.declaration-index c.args.declared.now) c.declaration-item.result (drop (c.fields.declaration-index + 1) c.args.declared.now) _ c.in-Ok-table_field.value
    (record { here = r; low = le-leb c.fields.next 65535 c.if-next-gt65535.false; field = c.in-Ok-table_field.ensures.wrong; same = c.fields.invariant.wrong })
    c.in-Ok-table_field.ensures.read.kind c.in-Ok-table_field.ensures.read.says.key (names_are c.in-Ok-table_field.value c.declaration-item.result (field_type (scope_heads c.args.scope.now) (scope_space c.args.scope.now) c.declaration-item.result) c.in-Ok-table_field.ensures.read.kind c.in-Ok-table_field.ensures.read.says.name) in
    names_stop (scope_heads c.args.scope.now) (scope_space c.args.scope.now) c.args.ids c.fields.next c.fields.key (all_names c.fields.fields.items) c.in-Ok-table_field.value c.declaration-item.result _ _ _ after (c.in-Err-add_names.ensures.wrong (all_names c.fields.fields.items) c.fields.invariant.taken)

pub returns-clause-read : goal.returns-clause-read
returns-clause-read c = record {
  says = let t = take_all c.fields.declaration-index c.args.declared.now c.fields-test.false in
      rw t at c.fields.invariant.says;
  order = λ no. (c.fields.next, c.fields.invariant.order no);
  lawful = c.fields.invariant.lawful;
  names = c.fields.invariant.distinct;
  slots = let d = drop_all c.fields.declaration-index c.args.declared.now c.fields-test.false in
      sym (append-nil (slots_taken c.fields.fields.items)) ∙ rw d at c.fields.invariant.slots;
}

pub returns-clause-wrong : goal.returns-clause-wrong
returns-clause-wrong c =
    let d = drop_all c.fields.declaration-index c.args.declared.now c.fields-test.false in
    sym (rw d at c.fields.invariant.wrong)

pub index-requires : goal.index-requires
index-requires c =
    let same = as_many c.in-Ok.value.items c.args.declared.now c.in-Ok.ensures in
    omega (arith, same, c.fields.invariant.index, c.fields-test.true, c.in-Ok.value.ok.0)

pub add_names-requires-clause-typed : goal.add_names-requires-clause-typed
add_names-requires-clause-typed c =
    c.deref-in-fields.ensures.value
    ∙ type_name_at c.in-Ok.value.items c.args.declared.now c.fields.declaration-index c.index.result.now c.declaration-item.result c.in-Ok.ensures c.fields-test.true
    (c.index.ensures ∙ ap (λ k. get_or c.in-Ok.value.items k c.index.result.now) c.fields.invariant.index) c.declaration-item.is
    ∙ ap type_name (sym c.deref.ensures.value)
