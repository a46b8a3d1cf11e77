use Rattle.planus_tie.proofs.Parts.{then_added}
use Rattle.planus_tie.proofs.enums.push_written.Goals as goal

pub returns : goal.returns
returns c = then_added c.push_read.result c.args.out.now.items c.push_layout.new.out.items
    c.push_read.new.out.items _ _ c.in_ok-push_layout.ensures
    (then_added c.push_read.result c.push_layout.new.out.items
    c.push_filled.new.out.items
    c.push_read.new.out.items _ _ c.in_ok-push_filled.ensures c.push_read.ensures)
