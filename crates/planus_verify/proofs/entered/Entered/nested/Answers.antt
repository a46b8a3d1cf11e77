use Rattle.std.proofs.Common.{◌∙◌, sym}
use Rattle.planus_read.specs.Places.{place_bytes, place_start, place_offset}
use Rattle.planus_verify.specs.Passes.{entered_table, entered_depth}
use Rattle.planus_verify.specs.declared.schema.ValueKind.TheVariants as value
use Rattle.planus_verify.proofs.Passing.{value_passed}
use Rattle.planus_verify.proofs.entered.Entered.nested.Goals as goal

pub returns : goal.returns
returns g c =
    value_passed g.L.VerifiedKind.schema (entered_depth c.args.self.now) g.K.VerifiedKind.index
    (entered_table c.args.self.now) c.args.slot c.args.required
    (value.Nested g.L.VerifiedKind.index) (place_bytes c.new.result) (place_start c.new.result)
    (place_offset c.new.result) c.args.left c.nested_passes.result
    (c.new.ensures.bytes ∙ c.object.ensures.bytes) (c.new.ensures.begin ∙ c.object.ensures.start)
    (c.new.ensures.offset ∙ c.slot_offset-offset.ensures.value)
    (λ zero. c.if-offset-eq0.false (sym c.new.ensures.offset ∙ zero)) (c.nested_passes.ensures)
