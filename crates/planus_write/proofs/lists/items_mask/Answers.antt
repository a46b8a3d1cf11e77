use Rattle.std.proofs.Common.{arith, subst, sym}
use Rattle.planus_back.specs.Promises.{IsPowerOfTwo}
use Rattle.planus_write.proofs.WrittenLists.{items_power}
use Rattle.planus_write.proofs.lists.items_mask.Goals as goal

pub returns-clause-greatest : goal.returns-clause-greatest
returns-clause-greatest g c = let m = c.max.ensures in let a = c.ALIGNMENT.ensures in omega (arith, m, a)

pub returns-clause-power : goal.returns-clause-power
returns-clause-power g c =
    subst IsPowerOfTwo (sym (returns-clause-greatest g c)) (items_power g.P.Primitive.SIZE g.P.Primitive.ALIGNMENT g.P.Primitive.is_layout)
