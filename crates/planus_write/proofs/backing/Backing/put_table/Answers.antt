use Rattle.std.proofs.Common.{◌+◌, refl, arith}
use Rattle.planus_write.specs.Parts.{filled_part}
use Rattle.planus_write.specs.View.{backed_of}
use Rattle.planus_write.proofs.WholeTables.{puts_parts}
use Rattle.planus_write.proofs.backing.Backing.put_table.Goals as goal

pub returns : goal.returns
returns g c =
    puts_parts c.args.vtable.now (filled_part c.args.size (c.args.mask + 1) (g.W.Overwrite.encoding c.args.writer.now)) c.args.self.now
    (backed_of (record { inner = c.put_two_parts.new.self; promises = c.in-Ok-plan_after-2.word.promises }))
    c.in-Ok.first c.in-Ok-plan_after.body c.in-Ok-plan_after-2.word c.in-Ok.ensures c.in-Ok-plan_after.ensures.planned c.in-Ok-plan_after-2.ensures.planned
    c.put_two_parts.ensures.count c.word_between.result c.word_between.ensures (omega (arith, c.if-first-vtable.false, c.room.ensures))
    (rw (← c.self.view_is) c.put_two_parts.ensures.bytes) (rw (← c.self.view_is) c.put_two_parts.ensures.room) refl refl
