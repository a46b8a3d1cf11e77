use Rattle.planus_tie.proofs.Parts.{then_added}
use Rattle.planus_tie.proofs.flags.push_clause.Goals as goal

pub returns : goal.returns
returns c = then_added c.push_each.result c.args.out.now.items c.push_filled.new.out.items
    c.push_each.new.out.items _ _ c.in_ok-push_filled.ensures c.push_each.ensures
