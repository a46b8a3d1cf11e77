use Rattle.std.proofs.Common.{Some, Ok}
use Rattle.planus_read.specs.Slices.{slice_bytes, slice_start}
use Rattle.planus_verify.specs.Passes.{entered_table, entered_depth}
use Rattle.planus_verify.specs.Steps.{value_steps}
use Rattle.planus_verify.specs.Walks.{Walks}
use Rattle.planus_verify.specs.lemmas.InOrder.{no_tables}
use Rattle.planus_verify.proofs.Passing.{value_passed}
use Rattle.planus_verify.proofs.entered.Entered.value.Goals as goal

pub returns-then-value_passes : goal.returns-then-value_passes
returns-then-value_passes g c =
    value_passed g.K.VerifiedKind.schema (entered_depth c.args.self.now) g.K.VerifiedKind.index
    (entered_table c.args.self.now) c.args.slot c.args.required c.args.kind
    (slice_bytes c.object.result) (slice_start c.object.result) c.slot_offset-offset.result
    c.args.left (Some c.args.left) c.object.ensures.bytes c.object.ensures.start
    c.slot_offset-offset.ensures.value c.if-offset-eq0.false
    (λ at. no_tables (Walks g.K.VerifiedKind.schema (entered_depth c.args.self.now))
    (value_steps at c.args.kind (slice_bytes c.object.result) (slice_start c.object.result)
    c.slot_offset-offset.result) c.args.left (Ok c.args.left)
    (c.value_passes.ensures c.if-value_passes.true at c.args.left))
