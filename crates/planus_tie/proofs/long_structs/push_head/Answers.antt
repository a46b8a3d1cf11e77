use Rattle.planus_tie.proofs.Parts.{then_added}
use Rattle.planus_tie.specs.LongStructs.{head_text}
use Rattle.planus_tie.proofs.long_structs.push_head.Goals as goal

pub returns : goal.returns
unfolding head_text
returns c = then_added c.push_layout.result c.args.out.now.items c.push_fields.new.out.items
    c.push_layout.new.out.items _ _ c.in_ok-push_fields.ensures c.push_layout.ensures
