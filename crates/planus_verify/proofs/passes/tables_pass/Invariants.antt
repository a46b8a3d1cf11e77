use Rattle.std.proofs.Common.{◌*◌, Some}
use Rattle.planus_view.specs.VectorView.{view_of, count_of}
use Rattle.planus_verify.specs.Steps.{Faults, reference_steps}
use Rattle.planus_verify.specs.Walks.{Walks}
use Rattle.planus_verify.proofs.Loops.{ItemsSoFar}
use Rattle.planus_verify.proofs.passes.tables_pass.Given as goal

abbrev pub invariant-loop-i : goal.invariant-loop-i
invariant-loop-i g l = (at : Faults) →
    ItemsSoFar (Walks g.L.VerifiedKind.schema l.depth) (count_of l.items)
    (λ i. reference_steps (at (Some i)) g.L.VerifiedKind.index (view_of l.items).bytes
    (view_of l.items).start (i * 4)) l.i l.before l.left
