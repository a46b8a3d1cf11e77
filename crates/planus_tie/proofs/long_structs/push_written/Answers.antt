use Rattle.planus_tie.proofs.Parts.{then_added}
use Rattle.planus_tie.specs.LongStructs.{written_text}
use Rattle.planus_tie.proofs.long_structs.push_written.Goals as goal

pub returns : goal.returns
unfolding written_text
returns c = then_added c.push_put.result c.args.out.now.items c.push_str.new.out.items
    c.push_put.new.out.items _ _ c.in_ok-push_str.ensures
    (then_added c.push_put.result c.push_str.new.out.items
    c.push_number.new.out.items
    c.push_put.new.out.items _ _ c.in_ok-push_number.ensures
    (then_added c.push_put.result c.push_number.new.out.items
    c.push_str-2.new.out.items
    c.push_put.new.out.items _ _ c.in_ok-push_str-2.ensures c.push_put.ensures))
