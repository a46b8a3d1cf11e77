use Rattle.std.proofs.Common.{ℕ, IfNone, sym, subst}
use Rattle.planus_read.specs.Slices.{slice_bytes, slice_start}
use Rattle.planus_verify.specs.Soughts.{KindFails}
use Rattle.planus_verify.proofs.ends.failing_item.Goals as goal

pub returns-in-Value-clause-none : goal.returns-in-Value-clause-none
returns-in-Value-clause-none c =
    subst
    (λ k. IfNone c.first_failing.result ((i : ℕ) → KindFails c.args.begin k
    (slice_bytes c.args.buffer) (slice_start c.args.buffer) c.args.offset i → ⊥))
    (sym c.in-Value.is) c.first_failing.ensures.none
