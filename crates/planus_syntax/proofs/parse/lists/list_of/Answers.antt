use Rattle.std.proofs.Common.{map, ap, subst, ◌∙◌}
use Rattle.planus_syntax.specs.Tokens.{pieces_of}
use Rattle.planus_syntax.specs.Reading.{list_at, with_items}
use Rattle.planus_syntax.specs.Counting.{GivesCounted}
use Rattle.planus_syntax.proofs.Many.{no_items}
use Rattle.planus_syntax.proofs.parse.lists.list_of.Goals as goal

pub returns-clause-reads : goal.returns-clause-reads
returns-clause-reads g c =
    let rest = list_at g.L.Items.goes_on g.L.Items.item_at (pieces_of c.args.tokens.now) in
    subst (GivesCounted _ _ c.items_after.result)
    (ap (λ items. with_items (map g.L.Items.value_of items) rest) c.new.ensures.items ∙ no_items rest)
    c.items_after.ensures.reads
