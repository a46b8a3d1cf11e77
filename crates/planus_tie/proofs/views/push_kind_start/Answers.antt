use Rattle.std.proofs.Common.{codes}
use Rattle.planus_tie.proofs.Parts.{both_added}
use Rattle.planus_tie.proofs.views.push_kind_start.Goals as goal

pub returns : goal.returns
returns c = both_added c.args.out.now.items c.push_str.new.out.items
    c.extend_from_slice.new.self.items (codes "impl planus_views::VerifiedKind for ")
    c.args.name.now c.in_ok-push_str.ensures c.in_ok-extend_from_slice.ensures.items
