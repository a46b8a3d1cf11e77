use Rattle.std.proofs.Common.{◌∙◌, ap, ◌++◌, codes}
use Rattle.planus_tie.proofs.Parts.{three_added}
use Rattle.planus_tie.specs.Ranks.{rank_in}
use Rattle.planus_tie.specs.Views.{kind_start, index_text}
use Rattle.planus_tie.specs.Wanted.{type_of}
use Rattle.planus_tie.proofs.views.kind_head.Goals as goal

pub returns : goal.returns
returns c = three_added c.new-out.result.items c.push_kind_start.new.out.items
    c.push_index.new.out.items c.push_str.new.out.items
    (kind_start (type_of c.args.naming.now c.args.index))
    (index_text (rank_in c.args.ranks.now c.args.index)) (codes "};") c.new-out.ensures.items
    (c.in_ok-push_kind_start.ensures
    ∙ ap (λ t. c.new-out.result.items ++ kind_start t) c.type_of.ensures)
    (c.in_ok-push_index.ensures
    ∙ ap (λ r. c.push_kind_start.new.out.items ++ index_text r) c.rank_in.ensures)
    c.in_ok-push_str.ensures
