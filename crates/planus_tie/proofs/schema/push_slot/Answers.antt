use Rattle.std.proofs.Common.{codes, decimal}
use Rattle.planus_tie.proofs.Parts.{both_added}
use Rattle.planus_tie.proofs.schema.push_slot.Goals as goal

pub returns : goal.returns
returns c = both_added c.args.out.now.items c.push_str.new.out.items c.push_number.new.out.items
    (codes "FieldShape{slot:") (decimal c.args.slot) c.in_ok-push_str.ensures c.in_ok-push_number.ensures
