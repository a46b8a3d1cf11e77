use Rattle.std.proofs.Common.{◌≡◌, ◌≤◌, length}
use Rattle.std.specs.Vec.{vec_capacity}
use Rattle.planus_view.specs.ItemsLeft.{items_of, front_of, back_of}
use Rattle.planus_view.specs.Copies.{AreFirstConverted}
use Rattle.planus_view.proofs.copies.copy_items.Given as goal

abbrev pub invariant-loop-item : goal.invariant-loop-item
invariant-loop-item g l = record {
  whole : items_of l.item-iterator ≡ l.fn.view;
  front : front_of l.item-iterator ≡ length l.copies.items;
  back : back_of l.item-iterator ≡ g.V.View.count l.fn.view;
  room : g.V.View.count l.fn.view ≤ vec_capacity l.copies;
  converted : AreFirstConverted g.V.View.is_sub_view g.V.ReadView.is_item g.C.Conversion.gives
      l.fn.view (g.V.View.count l.fn.view) l.copies.items;
}
