use Rattle.std.proofs.Common.{ℕ, ◌*◌, Some}
use Rattle.planus_view.specs.VectorView.{view_of, count_of}
use Rattle.planus_verify.specs.Steps.{Faults, text_steps}
use Rattle.planus_verify.specs.Walks.{NoTable}
use Rattle.planus_verify.proofs.Loops.{ItemsSoFar}
use Rattle.planus_verify.proofs.passes.texts_pass.Given as goal

abbrev pub invariant-loop-i : goal.invariant-loop-i
invariant-loop-i l = (at : Faults) (left : ℕ) →
    ItemsSoFar NoTable (count_of l.items)
    (λ i. text_steps (at (Some i)) (view_of l.items).bytes (i * 4)) l.i left left
