use Rattle.planus_read.specs.Tables.{table_object, table_slots, table_start}
use Rattle.planus_verify.proofs.FailingItems.{next_field}
use Rattle.planus_verify.proofs.ends.item_in.Goals as goal

pub loop-field-preserved : goal.loop-field-preserved
loop-field-preserved c =
    let both =
    next_field c.args.begin c.args.index (table_object c.args.table)
    (table_slots c.args.table) (table_start c.args.table) c.args.fields.now
    c.loop-field.field-index _ c.loop-field-test.true c.in_default.ensures.none
    c.loop-field.invariant.there c.loop-field.invariant.left in
    record {
      there = both.0;
      left = both.1;
    }
