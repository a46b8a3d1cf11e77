use Rattle.planus_read.specs.Slices.{slice_bytes, slice_start}
use Rattle.planus_verify.specs.Passes.{entered_table, entered_depth}
use Rattle.planus_verify.specs.declared.schema.ValueKind.TheVariants as value
use Rattle.planus_verify.proofs.Passing.{value_passed}
use Rattle.planus_verify.proofs.entered.Entered.tables.Goals as goal

pub returns : goal.returns
returns g c =
    value_passed g.L.VerifiedKind.schema (entered_depth c.args.self.now) g.K.VerifiedKind.index
    (entered_table c.args.self.now) c.args.slot c.args.required
    (value.Tables g.L.VerifiedKind.index) (slice_bytes c.object.result)
    (slice_start c.object.result) c.slot_offset-offset.result c.args.left c.tables_pass.result
    c.object.ensures.bytes c.object.ensures.start c.slot_offset-offset.ensures.value
    c.if-offset-eq0.false c.tables_pass.ensures
