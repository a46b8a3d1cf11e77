use Rattle.planus.proofs.Found.{takes_item}
use Rattle.planus.proofs.TableSizes.{size_push, size_is_large}
use Rattle.planus.proofs.replaying.slots.fits_table.Goals as goal

pub returns-then-room-size : goal.returns-then-room-size
returns-then-room-size c =
    let fields = c.args.fields.now in let i = c.loop-field.field-index in
    size_is_large fields i c.field-item.result (takes_item fields i c.field-item.result c.loop-field-test.true c.field-item.is) c.loop-field.room c.size_of-size.result
    c.size_of-size.ensures c.loop-field.invariant c.if-room-size.true

pub loop-field-preserved : goal.loop-field-preserved
loop-field-preserved c =
    let fields = c.args.fields.now in let i = c.loop-field.field-index in
    size_push fields i c.field-item.result (takes_item fields i c.field-item.result c.loop-field-test.true c.field-item.is) c.loop-field.room c.size_of-size.result
    c.size_of-size.ensures c.loop-field.invariant c.if-room-size.false
