use Rattle.planus_tie.proofs.Parts.{three_added}
use Rattle.planus_tie.proofs.union_views.together_text.Goals as goal

pub returns : goal.returns
returns c = three_added c.new-out.result.items c.push_filled.new.out.items
    c.push_arms.new.out.items c.push_filled-2.new.out.items _ _ _ c.new-out.ensures.items
    c.in_ok-push_filled.ensures c.in_ok-push_arms.ensures c.in_ok-push_filled-2.ensures
