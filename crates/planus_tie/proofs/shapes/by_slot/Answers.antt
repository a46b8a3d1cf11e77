use Rattle.planus_tie.proofs.Lined.{by_slot_of}
use Rattle.planus_tie.proofs.shapes.by_slot.Goals as goal

pub returns : goal.returns
returns c = by_slot_of c.args.declared.now c.args.index c.args.one.now c.in_ok-plan.plan _ _
    c.put_by_slot.new.lines.items c.in_ok-plan.ensures c.in_ok-lines.ensures.items
    c.deref.ensures.value c.in_ok-put_by_slot.ensures.once c.in_ok-put_by_slot.ensures.rises
