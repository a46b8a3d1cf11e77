use Rattle.planus_view.specs.UnionVectorView.{view_of as unions_of}
use Rattle.planus_verify.specs.Steps.{Faults}
use Rattle.planus_verify.specs.Walks.{Walks}
use Rattle.planus_verify.proofs.Loops.{ItemsSoFar}
use Rattle.planus_verify.specs.Passes.{member_steps_of}
use Rattle.planus_verify.proofs.passes.unions_pass.Given as goal

abbrev pub invariant-loop-i : goal.invariant-loop-i
invariant-loop-i g l = (at : Faults) →
    ItemsSoFar (Walks g.U.UnionKind.schema l.depth) (unions_of l.items).count
    (member_steps_of g.U.UnionKind.schema.variants at g.U.UnionKind.union (unions_of l.items))
    l.i l.before l.left
