use Rattle.std.proofs.Common.{length, arith, Ok, ◌∙◌}
use Rattle.std.proofs.lemmas.Grind.{common_steps}
use Rattle.planus_view.specs.Copies.{ItemConverts}
use Rattle.planus_view.proofs.Converted.{one_more}
use Rattle.planus_view.proofs.copies.copy_items.Goals as goal

pub loop-item-preserved : goal.loop-item-preserved
loop-item-preserved g c =
    let was = c.loop-item.invariant in let step = c.in-Some.ensures.steps in
    let view = c.args.view.now in let n = g.V.View.count c.args.view.now in
    let done = c.loop-item.copies.items in
    let left = rw (was.whole, was.front, was.back) at step.1.1 in
    record {
      whole = step.2.same ∙ was.whole;
      front = grind (arith, common_steps) steps 400000;
      back = step.2.back_is ∙ was.back;
      room = omega (arith, was.room, c.in-Ok.ensures.capacity);
      converted =
          let this : ItemConverts g.V.View.is_sub_view g.V.ReadView.is_item g.C.Conversion.gives
          view n (length done) (Ok c.in_ok-copy.copy) =
          (step.1.0, c.in-Some.item, left, step.1.2, c.in_ok-copy.ensures) in
          rw c.in-Ok.ensures.items
          (one_more g.V.View.is_sub_view g.V.ReadView.is_item g.C.Conversion.gives view n done
          c.in_ok-copy.copy was.converted this);
    }
