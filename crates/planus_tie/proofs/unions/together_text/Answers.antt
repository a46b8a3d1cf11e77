use Rattle.std.proofs.Common.{◌∙◌, ◌++◌, ap}
use Rattle.planus_tie.specs.Holes.{each}
use Rattle.planus_tie.proofs.Parts.{both_added, added_to_none}
use Rattle.planus_tie.proofs.unions.together_text.Goals as goal

pub returns : goal.returns
returns c = added_to_none c.new-out.result.items c.push_filled-2.new.out.items _
    c.new-out.ensures.items
    (both_added c.new-out.result.items c.push_start.new.out.items
    c.push_filled-2.new.out.items _ _ c.in_ok-push_start.ensures
    (both_added c.push_start.new.out.items c.push_filled.new.out.items
    c.push_filled-2.new.out.items _ _ c.in_ok-push_filled.ensures
    (both_added c.push_filled.new.out.items c.push_each.new.out.items
    c.push_filled-2.new.out.items _ _ (c.in_ok-push_each.ensures
    ∙ ap (λ t. c.push_filled.new.out.items ++ each c.args.naming.now t c.args.members.now)
    c.arm_text.ensures)
    c.in_ok-push_filled-2.ensures)))
