use Rattle.std.proofs.Common.{◌∙◌, ◌++◌, ap}
use Rattle.planus_tie.specs.Holes.{chained}
use Rattle.planus_tie.specs.Unions.{chained_next, chained_head}
use Rattle.planus_tie.proofs.Parts.{both_added, added_to_none}
use Rattle.planus_tie.proofs.unions.chain_text.Goals as goal

pub returns : goal.returns
returns c = added_to_none c.new-out.result.items c.push_filled.new.out.items _
    c.new-out.ensures.items
    (both_added c.new-out.result.items c.push_chained.new.out.items
    c.push_filled.new.out.items _ _ (c.in_ok-push_chained.ensures
    ∙ ap (λ t. c.new-out.result.items
    ++ chained c.args.naming.now chained_next chained_head t c.args.members.now)
    c.arm_text.ensures)
    c.in_ok-push_filled.ensures)
