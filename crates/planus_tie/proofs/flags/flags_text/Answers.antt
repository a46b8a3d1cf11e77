use Rattle.planus_tie.proofs.Parts.{both_added, added_to_none}
use Rattle.planus_tie.proofs.flags.flags_text.Goals as goal

pub returns : goal.returns
returns c = added_to_none c.new-out.result.items c.push_stored.new.out.items _
    c.new-out.ensures.items
    (both_added c.new-out.result.items c.push_bits.new.out.items
    c.push_stored.new.out.items _ _ c.in_ok-push_bits.ensures
    (both_added c.push_bits.new.out.items c.push_filled.new.out.items
    c.push_stored.new.out.items _ _ c.in_ok-push_filled.ensures
    (both_added c.push_filled.new.out.items c.push_clause.new.out.items
    c.push_stored.new.out.items _ _ c.in_ok-push_clause.ensures
    (both_added c.push_clause.new.out.items c.push_items.new.out.items
    c.push_stored.new.out.items _ _ c.in_ok-push_items.ensures
    c.in_ok-push_stored.ensures))))
