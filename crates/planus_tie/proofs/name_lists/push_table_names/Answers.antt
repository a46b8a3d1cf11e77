use Rattle.planus_tie.proofs.Parts.{text_added}
use Rattle.std.proofs.Common.{refl}
use Rattle.planus_tie.specs.NameLists.{table_name_text}
use Rattle.planus_tie.proofs.name_lists.push_table_names.Goals as goal

pub loop-index-preserved : goal.loop-index-preserved
loop-index-preserved c =
    text_added (table_name_text c.args.naming.now c.args.ranks.now c.args.comma.now)
    c.args.tables.now c.loop-index.index-index _ _ c.args.out.now.items
    c.loop-index.out.items c.push_table_name.new.out.items c.loop-index-test.true refl
    c.in_ok-push_table_name.ensures c.loop-index.invariant
