use Rattle.std.proofs.Common.{◌≡◌, false, [], map, ap, subst, ◌∙◌}
use Rattle.std.specs.Prelude.{None}
use Rattle.planus_schema.specs.Slots.{slots_taken}
use Rattle.planus_syntax.specs.Values.{field_of}
use Rattle.planus_resolve.specs.inner.Scopes.{scope_heads, scope_space}
use Rattle.planus_resolve.specs.Tables.{has_ids}
use Rattle.planus_resolve.specs.Wrong.{Stops}
use Rattle.planus_resolve.specs.WrongTables.{wrong_fields, wrong_slots, slots_from}
use Rattle.planus_resolve.proofs.FaultLemmas.{stops_first, stops_next}
use Rattle.planus_resolve.proofs.tables.table_of.Goals as goal

pub returns-in-Err-check_slots-clause-wrong : goal.returns-in-Err-check_slots-clause-wrong
returns-in-Err-check_slots-clause-wrong c =
    let e = c.in-Err-check_slots.error in
    let hs = scope_heads c.args.scope.now in
    let space = scope_space c.args.scope.now in
    let fs = c.args.declared.now.fields.items in
    let ids : c.has_ids-ids.result ≡ has_ids (map field_of fs) = rw c.deref.ensures.value at c.has_ids-ids.ensures in
    let none : wrong_fields hs space (has_ids (map field_of fs)) 0 false [] fs ≡ None = rw (c.deref-2.ensures.value, ids) at c.in-Ok.ensures.wrong in
    let slots : slots_taken c.deref-3.result.now ≡ slots_from hs space (has_ids (map field_of fs)) 0 fs =
    ap slots_taken c.deref-3.ensures.value ∙ (rw (c.deref-2.ensures.value, ids) at c.in-Ok.ensures.read.slots) in
    stops_next _ _ e none (subst (λ ns. Stops (wrong_slots c.args.left ns) e) slots c.in-Err-check_slots.ensures.wrong)

pub returns-in-Err-clause-wrong : goal.returns-in-Err-clause-wrong
returns-in-Err-clause-wrong c =
    let ids : c.has_ids-ids.result ≡ has_ids (map field_of c.args.declared.now.fields.items) = rw c.deref.ensures.value at c.has_ids-ids.ensures in
    stops_first _ _ c.in-Err.error (rw (c.deref-2.ensures.value, ids) at c.in-Err.ensures.wrong)

pub returns-clause-says : goal.returns-clause-says
returns-clause-says c =
    let ids : c.has_ids-ids.result ≡ has_ids (map field_of c.args.declared.now.fields.items) = rw c.deref.ensures.value at c.has_ids-ids.ensures in
    record {
      fields = rw (c.deref-2.ensures.value, ids) at c.in-Ok.ensures.read.says;
      order = rw ids at c.in-Ok.ensures.read.order;
    }

pub returns-clause-sound : goal.returns-clause-sound
returns-clause-sound c = record {
  slots = rw c.deref-3.ensures.value at c.in-Ok-check_slots.ensures.sound;
  names = c.in-Ok.ensures.read.names;
  lawful = c.in-Ok.ensures.read.lawful;
}
