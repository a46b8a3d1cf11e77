use Rattle.std.proofs.Common.{rules, arith, length-drop}
use Rattle.planus_view.proofs.ItemsLie.{items_lie}
use Rattle.planus_view.proofs.vector.SliceViewView.sub_view.Goals as goal

pub invariant_of-result : goal.invariant_of-result
invariant_of-result g c = record {
  inside = Prim.grind (arith, rules, items_lie, length-drop, c.args.self.now.inside);
}
