use Rattle.std.proofs.Common.{sym, subst, Ok}
use Rattle.planus_read.specs.Slices.{slice_bytes, slice_start}
use Rattle.planus_verify.specs.Steps.{value_steps}
use Rattle.planus_verify.specs.Walks.{NoTable, InOrder}
use Rattle.planus_verify.proofs.passes.value_passes.Goals as goal

pub returns-in-Texts : goal.returns-in-Texts
returns-in-Texts c = λ is at left.
    subst (λ k. InOrder NoTable (value_steps at k (slice_bytes c.args.buffer)
    (slice_start c.args.buffer) c.args.offset) left (Ok left)) (sym c.in-Texts.is)
    (c.texts_pass.ensures is at left)
