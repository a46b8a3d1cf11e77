use Rattle.std.proofs.Common.{length}
use Rattle.std.proofs.lemmas.Result.{err_from_is_err_and}
use Rattle.planus.proofs.WrittenPlains.{mask_power, items_refused, count_not_put, both_put}
use Rattle.planus.proofs.replaying.plain_items.PlainItemsWriteAsOffsetUnit.prepare.Goals as goal

pub write_over-requires-clause-power : goal.write_over-requires-clause-power
write_over-requires-clause-power c =
    let items = c.args.self.now in
    mask_power items.alignment items.size items.bytes.now items.good c.max.result c.max.ensures

pub returns-in_err-write_over : goal.returns-in_err-write_over
returns-in_err-write_over c =
    let items = c.args.self.now in
    let p = err_from_is_err_and c.from_residual.result c.from_residual.ensures.1 in
    rw (p.1, p.2) (items_refused items.alignment items.size items.bytes.now items.good c.max.result c.max.ensures (Unit {0}) c.args.builder.now
    c.in_err-write_over.field-0.0 c.write_over.new.self c.in_err-write_over.ensures.written)

pub returns-in_err-write_over-2 : goal.returns-in_err-write_over-2
returns-in_err-write_over-2 c =
    let items = c.args.self.now in
    let p = err_from_is_err_and c.from_residual-in_err-write_over-2.result c.from_residual-in_err-write_over-2.ensures.1 in
    rw (p.1, p.2) (count_not_put items.alignment items.size items.bytes.now items.good c.max.result c.max.ensures c.args.builder.now
    c.write_over.new.self (length c.write_over.new.self.bytes) c.in_ok-write_over.ensures.written (Unit {0})
    c.in_err-write_over-2.field-0.0 c.write_over-2.new.self c.in_err-write_over-2.ensures.written)

pub returns : goal.returns
returns c =
    let items = c.args.self.now in
    both_put items.alignment items.size items.bytes.now items.good c.max.result c.max.ensures c.args.builder.now
    c.write_over.new.self (length c.write_over.new.self.bytes) c.in_ok-write_over.ensures.written
    c.current_offset.result c.write_over-2.new.self (length c.write_over-2.new.self.bytes) c.current_offset.ensures c.in_ok-write_over-2.ensures.written
