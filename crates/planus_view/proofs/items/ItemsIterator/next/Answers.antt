use Rattle.std.proofs.Common.{refl, arith}
use Rattle.planus_view.proofs.items.ItemsIterator.next.Goals as goal

pub returns-then-self-clause-steps : goal.returns-then-self-clause-steps
returns-then-self-clause-steps g c = (c.if-self.true, refl)

pub returns-clause-steps : goal.returns-clause-steps
returns-clause-steps g c =
    let order = c.args.self.now.order in (
      omega (arith, order, c.if-self.false),
      (_, c.sub_view-left.ensures, c.item.ensures),
      record { same = refl; front_is = refl; back_is = refl },
    )
