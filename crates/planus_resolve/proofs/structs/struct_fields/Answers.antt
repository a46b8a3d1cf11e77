use Rattle.std.proofs.Common.{rules, ◌++◌, ◌∷◌, [], refl, ap, sym, subst, ◌∙◌, take, map, max, arith}
use Rattle.std.proofs.lemmas.List.{map_push, take_all, drop_all}
use Rattle.planus_schema.specs.Distinct.{AreDistinct, is_in}
use Rattle.planus_resolve.specs.inner.Scopes.{scope_heads, scope_space}
use Rattle.planus_resolve.specs.WrongStructs.{measures_of}
use Rattle.planus_resolve.proofs.FaultLemmas.{name_used, name_new}
use Rattle.planus_syntax.specs.Values.{field_of}
use Rattle.planus_schema.specs.declared.schema.StructField.{StructField}
use Rattle.planus_schema.specs.Layouts.{greatest_alignment}
use Rattle.std.specs.Str.{bytes_eq}
use Rattle.planus_schema.proofs.Lists.{distinct_push}
use Rattle.planus_resolve.specs.inner.Index.{IsTaken}
use Rattle.planus_resolve.proofs.IndexLemmas.{no_names_yet}
use Rattle.planus_resolve.proofs.StructLemmas.{each2_push, laid_push, greatest_push, map_next, drop_next, end_next, greatest_next, struct_field_stops, struct_name_stops, struct_fields_next}
use Rattle.planus_resolve.proofs.structs.struct_fields.Goals as goal

pub overflow_add-end : goal.overflow_add-end
overflow_add-end c =
    let within = c.in-Ok.ensures.read.within in
    omega (arith, within)

pub fields-init : goal.fields-init
fields-init c =
    let e = c.new-fields.ensures.items in
    record {
      says = rw e tt;
      laid = rw e refl;
      within = omega arith;
      greatest = rw e refl;
      ends = refl;
      aligns = refl;
      wrong = rw e refl;
      taken = search rules;
      distinct = rw e no_names_yet;
    }

pub fields-preserved : goal.fields-preserved
fields-preserved c =
    let i = c.fields.invariant in
    let e = c.in_ok-push.ensures.items in
    let f = c.in-Ok.value in
    let fs = c.fields.fields.items in
    let t = map_next field_of c.args.declared.now c.fields.declaration-index c.declaration-item.result c.fields-test.true c.declaration-item.is in
    let r = drop_next c.args.declared.now c.fields.declaration-index c.declaration-item.result c.fields-test.true c.declaration-item.is in
    let names = map (λ (g : StructField). g.name.items) fs in
    let pushed = ap (map (λ (g : StructField). g.name.items)) e ∙ map_push (λ (g : StructField). g.name.items) fs f ∙ ap (λ w. names ++ w ∷ []) c.in-Ok.ensures.read.says.name in
    let new = ap (is_in names) (sym c.deref.ensures.value) ∙ name_new _ _ c.if-not-new.false (c.in-Ok-take_key.ensures.new names i.taken) in
    record {
      says = rw (t, e) (each2_push _ (map field_of (take c.fields.declaration-index c.args.declared.now)) fs (field_of c.declaration-item.result) f i.says c.in-Ok.ensures.read.says);
      laid = rw e (laid_push 0 fs c.fields.end f i.laid c.in-Ok.ensures.read.placed);
      within = c.in-Ok.ensures.read.within;
      greatest = c.greater-alignment.ensures ∙ ap (λ n. max n f.alignment) i.greatest ∙ sym (greatest_push fs f) ∙ ap greatest_alignment (sym e);
      ends = end_next (scope_heads c.args.scope.now) (scope_space c.args.scope.now) (measures_of c.args.bodies.now) c.fields.end _ c.declaration-item.result _ _ _ r i.ends c.in-Ok.ensures.read.next;
      aligns = greatest_next (scope_heads c.args.scope.now) (scope_space c.args.scope.now) (measures_of c.args.bodies.now) c.fields.alignment _ c.declaration-item.result _ _ f.alignment _ r i.aligns c.greater-alignment.ensures c.in-Ok.ensures.read.alignment;
      wrong = struct_fields_next (scope_heads c.args.scope.now) (scope_space c.args.scope.now) (measures_of c.args.bodies.now) c.fields.end names _ c.declaration-item.result _ _ _ _ r i.wrong c.in-Ok.ensures.wrong
          new c.in-Ok.ensures.read.next pushed;
      taken = subst (IsTaken c.take_key.new.names) (ap (λ w. names ++ w ∷ []) c.deref.ensures.value ∙ sym pushed) (c.in-Ok-take_key.ensures.taken names i.taken c.if-not-new.false);
      distinct = subst AreDistinct (sym pushed) (distinct_push bytes_eq names c.declaration-item.result.name.items new i.distinct);
    }

pub returns-in-Err-clause-wrong : goal.returns-in-Err-clause-wrong
returns-in-Err-clause-wrong c =
    let r = drop_next c.args.declared.now c.fields.declaration-index c.declaration-item.result c.fields-test.true c.declaration-item.is in
    struct_field_stops (scope_heads c.args.scope.now) (scope_space c.args.scope.now) (measures_of c.args.bodies.now) c.fields.end (map (λ (g : StructField). g.name.items) c.fields.fields.items) _ c.declaration-item.result _ _ _ r c.fields.invariant.wrong c.in-Err.ensures.wrong

pub returns-then-not-new-clause-wrong : goal.returns-then-not-new-clause-wrong
returns-then-not-new-clause-wrong c =
    let r = drop_next c.args.declared.now c.fields.declaration-index c.declaration-item.result c.fields-test.true c.declaration-item.is in
    rw c.wrong.ensures (struct_name_stops (scope_heads c.args.scope.now) (scope_space c.args.scope.now) (measures_of c.args.bodies.now) c.fields.end (map (λ (g : StructField). g.name.items) c.fields.fields.items) _ c.declaration-item.result _ _ r c.fields.invariant.wrong c.in-Ok.ensures.wrong
    (ap (is_in (map (λ (g : StructField). g.name.items) c.fields.fields.items)) (sym c.deref.ensures.value) ∙ name_used _ _ c.if-not-new.true (c.in-Ok-take_key.ensures.new (map (λ (g : StructField). g.name.items) c.fields.fields.items) c.fields.invariant.taken)))

pub returns-clause-read : goal.returns-clause-read
returns-clause-read c = record {
  says = let t = take_all c.fields.declaration-index c.args.declared.now c.fields-test.false in
      rw t at c.fields.invariant.says;
  laid = c.fields.invariant.laid;
  within = c.fields.invariant.within;
  greatest = c.fields.invariant.greatest;
  names = c.fields.invariant.distinct;
  end = let d = drop_all c.fields.declaration-index c.args.declared.now c.fields-test.false in
      rw d at c.fields.invariant.ends;
  alignment = let d = drop_all c.fields.declaration-index c.args.declared.now c.fields-test.false in
      rw d at c.fields.invariant.aligns;
}

pub returns-clause-wrong : goal.returns-clause-wrong
returns-clause-wrong c =
    let d = drop_all c.fields.declaration-index c.args.declared.now c.fields-test.false in
    sym (rw d at c.fields.invariant.wrong)
