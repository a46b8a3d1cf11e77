use Rattle.std.proofs.Common.{◌≡◌, map, length}
use Rattle.planus_syntax.specs.Tokens.{pieces_of}
use Rattle.planus_syntax.specs.Reading.{list_at, with_items}
use Rattle.planus_syntax.specs.Counting.{EachCounted}
use Rattle.planus_syntax.proofs.parse.lists.items_after.Given as goal

abbrev pub invariant-items : goal.invariant-items
invariant-items g l = record {
  reads :
      with_items (map g.L.Items.value_of l.items.items) (list_at g.L.Items.goes_on g.L.Items.item_at (pieces_of l.rest))
      ≡ with_items (map g.L.Items.value_of l.fn.items.items) (list_at g.L.Items.goes_on g.L.Items.item_at (pieces_of l.fn.tokens));
  counted : EachCounted g.L.Items.Counted g.L.Items.value_of g.L.Items.before l.items.items (pieces_of l.rest);
}

abbrev pub decreases-items : goal.decreases-items
decreases-items g l = length (pieces_of l.rest)
