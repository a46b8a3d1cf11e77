use Rattle.std.proofs.Common.{None, arith}
use Rattle.planus.proofs.UnionAccessors.{union_item_read}
use Rattle.planus_views.specs.CheckedVectors.{checked_unions}
use Rattle.planus_views.proofs.unions.Unions.get.Goals as goal

pub returns-then-index-self : goal.returns-then-index-self
returns-then-index-self g c = λ name.
    union_item_read g.U.UnionOf.reads name (checked_unions c.args.self.now) c.args.index None
    (omega (arith, c.if-index-self.true))
