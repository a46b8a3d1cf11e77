use Rattle.std.proofs.Common.{rules, arith, ◌≡◌, ◌++◌, [], Err, ap, subst, sym}
use Rattle.planus_write.specs.TableWriting.{Writer}
use Rattle.planus_write.specs.lemmas.TableLaws.{table_grows}
use Rattle.planus_write.specs.Tables.{declared_of, body_bytes}
use Rattle.planus.specs.Preparing.{AnswersFields}
use Rattle.planus.proofs.FieldLists.{total_append}
use Rattle.planus.proofs.RuledTables.{holds, all_unused, slots_append, others_unused, fields_kept}
use Rattle.planus.proofs.tables.write.create.write_table.Goals as goal

pub declare-requires : goal.declare-requires
declare-requires g c =
    let all = g.F.PreparedFields.all in
    let last = g.L.PreparedFields.all in
    let rules_hold = holds g.W.TableWrite.room (all ++ last) c.requires.rules in
    let slots = slots_append g.W.TableWrite.room all last rules_hold.slots in
    let is_blank = c.start-writer.ensures.blank in
    let start : (g.W.TableWrite.at c.start-writer.result).object_size ≡ 4
    = ap (λ (writer : Writer). writer.object_size) is_blank in
    let total = total_append all last in
    let fits = rules_hold.fits in
    let unused = all_unused (g.W.TableWrite.at c.start-writer.result) g.W.TableWrite.room all is_blank slots.first in
    record {
      small = rules_hold.small;
      slots = slots.first;
      unused = unused;
      fits = omega (arith, start, fits, total);
    }

pub declare-requires-2 : goal.declare-requires-2
declare-requires-2 g c =
    let all = g.F.PreparedFields.all in
    let last = g.L.PreparedFields.all in
    let rules_hold = holds g.W.TableWrite.room (all ++ last) c.requires.rules in
    let slots = slots_append g.W.TableWrite.room all last rules_hold.slots in
    let is_blank = c.start-writer.ensures.blank in
    let start : (g.W.TableWrite.at c.start-writer.result).object_size ≡ 4
    = ap (λ (writer : Writer). writer.object_size) is_blank in
    let total = total_append all last in
    let fits = rules_hold.fits in
    let size = c.declare.ensures.size in
    let unused = others_unused (g.W.TableWrite.at c.start-writer.result) (g.W.TableWrite.at c.declare.new.writer) all last slots.apart
    c.declare.ensures.others
    (all_unused (g.W.TableWrite.at c.start-writer.result) g.W.TableWrite.room last is_blank slots.second) in
    record {
      small = rules_hold.small;
      slots = slots.second;
      unused = unused;
      fits = omega (arith, start, fits, total, size);
    }

pub close-requires : goal.close-requires
close-requires g c =
    let rules_hold = holds _ _ c.requires.rules in
    let told = c.declare-2.ensures.told _
    (c.declare.ensures.told [] (c.start-writer.ensures.told rules_hold.enough)) in
    let object = told.object_size in
    let fields = c.requires.fields in
    let last = c.requires.last in
    record {
      enough = rules_hold.enough;
      size = omega (arith, object);
      reach = omega (arith, fields, last);
    }

pub returns-in_err-close-clause-written : goal.returns-in_err-close-clause-written
returns-in_err-close-clause-written g c =
    let rules_hold = holds _ _ c.requires.rules in
    let told = c.declare-2.ensures.told _
    (c.declare.ensures.told [] (c.start-writer.ensures.told rules_hold.enough)) in
    let answer = c.from_residual.result in
    let same : answer ≡ Err c.in_err-close.field-0.0 = search rules in
    let fields = g.F.PreparedFields.there c.args.fields.now ++ g.L.PreparedFields.there c.args.last.now in
    subst (λ answer. AnswersFields fields c.args.builder.now answer c.close.new.builder) (sym same)
    (c.in_err-close.ensures _ told)

pub returns-in_err-close-clause-grows : goal.returns-in_err-close-clause-grows
returns-in_err-close-clause-grows g c =
    let rules_hold = holds _ _ c.requires.rules in
    let told = c.declare-2.ensures.told _
    (c.declare.ensures.told [] (c.start-writer.ensures.told rules_hold.enough)) in
    let fields = g.F.PreparedFields.there c.args.fields.now ++ g.L.PreparedFields.there c.args.last.now in
    table_grows (declared_of fields) (λ place. body_bytes place fields) c.args.builder.now
    c.close.result c.close.new.builder (c.close.ensures _ told)

pub returns-clause-written : goal.returns-clause-written
returns-clause-written g c =
    let rules_hold = holds _ _ c.requires.rules in
    let told = c.declare-2.ensures.told _
    (c.declare.ensures.told [] (c.start-writer.ensures.told rules_hold.enough)) in
    (c.in_ok-close.ensures _ told, c.current_offset.ensures)

pub returns-clause-kept : goal.returns-clause-kept
returns-clause-kept g c =
    let rules_hold = holds _ _ c.requires.rules in
    let told = c.declare-2.ensures.told _
    (c.declare.ensures.told [] (c.start-writer.ensures.told rules_hold.enough)) in
    fields_kept g.W.TableWrite.room g.F.PreparedFields.all g.L.PreparedFields.all
    (g.F.PreparedFields.there c.args.fields.now) (g.L.PreparedFields.there c.args.last.now)
    c.args.builder.now rules_hold (g.met.F.PreparedFields.among c.args.fields.now)
    (g.met.L.PreparedFields.among c.args.last.now)
    (g.met.F.PreparedFields.stand c.args.fields.now _ c.requires.fields)
    (g.met.L.PreparedFields.stand c.args.last.now _ c.requires.last)
    c.in_ok-close.field-0 c.current_offset.result c.close.new.builder
    (c.in_ok-close.ensures _ told) c.current_offset.ensures

pub returns-clause-grows : goal.returns-clause-grows
returns-clause-grows g c =
    let rules_hold = holds _ _ c.requires.rules in
    let told = c.declare-2.ensures.told _
    (c.declare.ensures.told [] (c.start-writer.ensures.told rules_hold.enough)) in
    let fields = g.F.PreparedFields.there c.args.fields.now ++ g.L.PreparedFields.there c.args.last.now in
    table_grows (declared_of fields) (λ place. body_bytes place fields) c.args.builder.now
    c.close.result c.close.new.builder (c.close.ensures _ told)
