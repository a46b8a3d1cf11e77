use Rattle.std.proofs.Common.{ap, sym, subst, ◌+◌, ◌∙◌}
use Rattle.planus_syntax.specs.Values.{names_of}
use Rattle.planus_resolve.specs.inner.Scopes.{scope_heads, scope_space}
use Rattle.planus_resolve.specs.Wrong.{Stops}
use Rattle.planus_resolve.specs.WrongStructs.{measures_of, end_of, alignment_in}
use Rattle.planus_schema.specs.declared.measure.Measure.{Measure}
use Rattle.std.specs.Prelude.{Some}
use Rattle.planus_resolve.proofs.FaultLemmas.{stops_first, skip}
use Rattle.planus_resolve.proofs.StructLemmas.{array_stops, field_known, items_known, measure_known, ends_within, ends_after}
use Rattle.planus_resolve.proofs.structs.struct_field.Goals as goal

pub returns-in-Err-clause-wrong : goal.returns-in-Err-clause-wrong
returns-in-Err-clause-wrong c =
    stops_first _ _ c.in-Err.error c.in-Err.ensures.wrong

pub returns-in-Err-count_in_struct-clause-wrong : goal.returns-in-Err-count_in_struct-clause-wrong
returns-in-Err-count_in_struct-clause-wrong c =
    array_stops (scope_heads c.args.scope.now) (scope_space c.args.scope.now) (measures_of c.args.bodies.now) c.args.at c.args.field.now c.in-Err-count_in_struct.error c.in-Ok.ensures.wrong c.in-Err-count_in_struct.ensures.wrong

pub returns-in-Err-measure_in_struct-clause-wrong : goal.returns-in-Err-measure_in_struct-clause-wrong
returns-in-Err-measure_in_struct-clause-wrong c =
    let known = field_known (scope_heads c.args.scope.now) (scope_space c.args.scope.now) (measures_of c.args.bodies.now) c.args.at c.args.field.now c.in-Ok.value c.in-Ok-count_in_struct.value c.in-Ok.ensures.wrong c.in-Ok.ensures.kind c.in-Ok-count_in_struct.ensures.wrong c.in-Ok-count_in_struct.ensures.count in
    subst (λ o. Stops o c.in-Err-measure_in_struct.error) (sym known) (stops_first _ _ c.in-Err-measure_in_struct.error c.in-Err-measure_in_struct.ensures.wrong)

pub returns-then-distance-measure-gt65535-clause-wrong : goal.returns-then-distance-measure-gt65535-clause-wrong
returns-then-distance-measure-gt65535-clause-wrong c =
    let ms = measures_of c.args.bodies.now in
    let count = c.in-Ok-count_in_struct.value in
    let item = c.in-Ok-measure_in_struct.value in
    let known = field_known (scope_heads c.args.scope.now) (scope_space c.args.scope.now) ms c.args.at c.args.field.now c.in-Ok.value count c.in-Ok.ensures.wrong c.in-Ok.ensures.kind c.in-Ok-count_in_struct.ensures.wrong c.in-Ok-count_in_struct.ensures.count in
    let m = c.measure_of_items-measure.result in
    let items = items_known ms count c.in-Ok.value item c.in-Ok-measure_in_struct.ensures.read.among ∙ ap Some (sym c.measure_of_items-measure.ensures.measure) in
    let end = ap (λ n. n + m.size) c.next_multiple-distance.ensures.is in
    rw c.wrong.ensures (known ∙ skip _ _ c.in-Ok-measure_in_struct.ensures.wrong
    ∙ ends_after c.args.at (c.next_multiple-distance.result + m.size) c.args.field.now.left _ m items end c.if-distance-measure-gt65535.true)

pub returns-clause-read : goal.returns-clause-read
returns-clause-read c =
    let ms = measures_of c.args.bodies.now in
    let count = c.in-Ok-count_in_struct.value in
    let item = c.in-Ok-measure_in_struct.value in
    let m = c.measure_of_items-measure.result in
    let all = c.measure_of_items-measure.ensures.measure in
    let known = measure_known (scope_heads c.args.scope.now) (scope_space c.args.scope.now) ms c.args.field.now c.in-Ok.value count item c.in-Ok.ensures.kind c.in-Ok-count_in_struct.ensures.count c.in-Ok-measure_in_struct.ensures.read.among ∙ ap Some (sym all) in
    record {
      says = record {
        name = c.in-Ok-from_slice.ensures.items ∙ c.deref.ensures.value;
        docs = c.in-Ok-copied.ensures ∙ ap names_of c.deref-2.ensures.value;
        kind = c.in-Ok.ensures.kind;
        count = c.in-Ok-count_in_struct.ensures.count;
        item = item;
        measure = c.in-Ok-measure_in_struct.ensures.read.measure;
        size = ap (λ (x : Measure). x.size) all;
        alignment = ap (λ (x : Measure). x.alignment) all;
        plain = c.in-Ok.ensures.plain;
        zero = c.in-Ok.ensures.zero;
        default = c.in-Ok-count_in_struct.ensures.default;
        key = c.in-Ok-count_in_struct.ensures.key;
      };
      placed = c.next_multiple-distance.ensures.next;
      within = c.if-distance-measure-gt65535.false;
      next = ap (λ n. n + m.size) c.next_multiple-distance.ensures.is ∙ sym (ap (end_of c.args.at) known);
      alignment = sym (ap alignment_in known);
    }

pub returns-clause-wrong : goal.returns-clause-wrong
returns-clause-wrong c =
    let ms = measures_of c.args.bodies.now in
    let count = c.in-Ok-count_in_struct.value in
    let item = c.in-Ok-measure_in_struct.value in
    let m = c.measure_of_items-measure.result in
    let known = field_known (scope_heads c.args.scope.now) (scope_space c.args.scope.now) ms c.args.at c.args.field.now c.in-Ok.value count c.in-Ok.ensures.wrong c.in-Ok.ensures.kind c.in-Ok-count_in_struct.ensures.wrong c.in-Ok-count_in_struct.ensures.count in
    let items = items_known ms count c.in-Ok.value item c.in-Ok-measure_in_struct.ensures.read.among ∙ ap Some (sym c.measure_of_items-measure.ensures.measure) in
    let end = ap (λ n. n + m.size) c.next_multiple-distance.ensures.is in
    known ∙ skip _ _ c.in-Ok-measure_in_struct.ensures.wrong
    ∙ ends_within c.args.at (c.next_multiple-distance.result + m.size) c.args.field.now.left _ m items end c.if-distance-measure-gt65535.false
