use Rattle.std.proofs.Common.{◌*◌, Some}
use Rattle.planus_view.specs.VectorView.{view_of, count_of}
use Rattle.planus_verify.specs.Steps.{text_steps, place_faults}
use Rattle.planus_verify.specs.Walks.{NoTable}
use Rattle.planus_verify.proofs.Loops.{ItemsSoFar}
use Rattle.planus_verify.proofs.walk.verify_texts.Given as goal

abbrev pub invariant-loop-i : goal.invariant-loop-i
invariant-loop-i l =
    ItemsSoFar NoTable (count_of l.items)
    (λ i. text_steps (place_faults l.place (Some i)) (view_of l.items).bytes (i * 4))
    l.i l.before l.left
