use Rattle.std.proofs.Common.{◌∙◌, ◌++◌, ap, codes}
use Rattle.planus_tie.proofs.Parts.{both_added}
use Rattle.planus_tie.specs.NameLists.{marked_text}
use Rattle.planus_tie.specs.Ranks.{rank_in}
use Rattle.planus_tie.specs.Wanted.{read_slot}
use Rattle.planus_tie.proofs.name_lists.push_field_head.Goals as goal

pub returns : goal.returns
returns c = both_added c.args.out.now.items c.push_marked.new.out.items
    c.push_marked-2.new.out.items
    (marked_text (codes "FieldName{table:") (rank_in c.args.ranks.now c.args.line.now.table))
    (marked_text (codes ",slot:") (read_slot c.args.line.now.field.now))
    (c.in_ok-push_marked.ensures
    ∙ ap (λ n. c.args.out.now.items ++ marked_text (codes "FieldName{table:") n) c.rank_in.ensures)
    (c.in_ok-push_marked-2.ensures
    ∙ ap (λ n. c.push_marked.new.out.items ++ marked_text (codes ",slot:") n) c.read_slot.ensures)
