use Rattle.planus.proofs.Found.{takes_item}
use Rattle.planus_write.specs.ObjectWriting.{body_of}
use Rattle.planus.specs.inner.Prepared.{field_is}
use Rattle.planus.proofs.Filling as proof
use Rattle.planus.proofs.replaying.table_body.TableBodyObjectFill.fill.Goals as goal

pub write-requires-clause-room : goal.write-requires-clause-room
write-requires-clause-room c =
    let fields = c.args.self.now.fields.now in let i = c.loop-field.field-index in
    proof.room c.args.self.now i c.field-item.result (takes_item fields i c.field-item.result c.loop-field-test.true c.field-item.is) (body_of c.args.writer.now) (body_of c.loop-field.writer) c.loop-field.invariant (field_is c.in-Ok.prepared) c.in-Ok.ensures.0
    c.requires.size

pub write-requires-clause-reach : goal.write-requires-clause-reach
write-requires-clause-reach c =
    let fields = c.args.self.now.fields.now in let i = c.loop-field.field-index in
    proof.reach c.args.self.now i c.field-item.result (takes_item fields i c.field-item.result c.loop-field-test.true c.field-item.is) (body_of c.args.writer.now) (body_of c.loop-field.writer) c.loop-field.invariant (field_is c.in-Ok.prepared) c.in-Ok.ensures.0
    c.requires.reach

pub unreachable-requires : goal.unreachable-requires
unreachable-requires c =
    let fields = c.args.self.now.fields.now in let i = c.loop-field.field-index in
    proof.not_bad c.args.self.now i c.field-item.result (takes_item fields i c.field-item.result c.loop-field-test.true c.field-item.is) (body_of c.args.writer.now) (body_of c.loop-field.writer) c.loop-field.invariant c.in-Err.field-0 c.in-Err.ensures

pub loop-field-preserved : goal.loop-field-preserved
loop-field-preserved c =
    let fields = c.args.self.now.fields.now in let i = c.loop-field.field-index in
    proof.filled_on c.args.self.now i c.field-item.result (takes_item fields i c.field-item.result c.loop-field-test.true c.field-item.is) (body_of c.args.writer.now) (body_of c.loop-field.writer) c.loop-field.invariant (field_is c.in-Ok.prepared)
    c.in-Ok.ensures.0 (body_of c.write.new.writer) c.write.ensures
