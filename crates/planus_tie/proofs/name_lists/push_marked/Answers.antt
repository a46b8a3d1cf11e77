use Rattle.std.proofs.Common.{decimal}
use Rattle.planus_tie.proofs.Parts.{both_added}
use Rattle.planus_tie.proofs.name_lists.push_marked.Goals as goal

pub returns : goal.returns
returns c = both_added c.args.out.now.items c.push_str.new.out.items c.push_number.new.out.items
    c.args.mark.now (decimal c.args.number) c.in_ok-push_str.ensures c.in_ok-push_number.ensures
