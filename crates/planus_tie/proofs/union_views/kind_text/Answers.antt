use Rattle.planus_tie.proofs.Parts.{both_added, added_to_none}
use Rattle.planus_tie.proofs.union_views.kind_text.Goals as goal

pub returns : goal.returns
returns c = added_to_none c.new-out.result.items c.push_variants.new.out.items _
    c.new-out.ensures.items
    (both_added c.new-out.result.items c.push_filled.new.out.items
    c.push_variants.new.out.items _ _ c.in_ok-push_filled.ensures
    c.in_ok-push_variants.ensures)
