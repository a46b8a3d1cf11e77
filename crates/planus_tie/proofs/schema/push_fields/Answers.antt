use Rattle.planus_tie.proofs.Parts.{text_added}
use Rattle.planus_schema.specs.Plans.{line_of}
use Rattle.planus_tie.specs.Shapes.{field_text}
use Rattle.planus_tie.proofs.schema.push_fields.Goals as goal

pub loop-line-preserved : goal.loop-line-preserved
loop-line-preserved c =
    text_added (λ l. field_text c.args.declared.now c.args.ranks.now c.args.comma.now (line_of l))
    c.args.lines.now c.loop-line.line-index _ c.line-item.result c.args.out.now.items
    c.loop-line.out.items c.push_field.new.out.items c.loop-line-test.true c.line-item.is
    c.in_ok-push_field.ensures c.loop-line.invariant
