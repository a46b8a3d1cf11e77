use Rattle.planus_tie.proofs.Parts.{then_added}
use Rattle.planus_tie.specs.LongStructs.{part_text}
use Rattle.planus_tie.proofs.long_structs.push_part.Goals as goal

pub returns : goal.returns
unfolding part_text
returns c = then_added c.push_filled-2.result c.args.out.now.items c.push_filled.new.out.items
    c.push_filled-2.new.out.items _ _ c.in_ok-push_filled.ensures
    (then_added c.push_filled-2.result c.push_filled.new.out.items
    c.push_each.new.out.items
    c.push_filled-2.new.out.items _ _ c.in_ok-push_each.ensures c.push_filled-2.ensures)
