use Rattle.std.proofs.Common.{ℕ, ◌*◌, ◌<◌}
use Rattle.planus_view.specs.VectorView.{view_of}
use Rattle.planus_verify.specs.Soughts.{ItemFails}
use Rattle.planus_verify.proofs.ends.first_failing.Given as goal

abbrev pub invariant-loop-i : goal.invariant-loop-i
invariant-loop-i l =
    (j : ℕ) → j < l.i → ItemFails l.kind (view_of l.items).bytes (j * 4) → ⊥
