use Rattle.std.proofs.Common.{refl}
use Rattle.planus_tie.proofs.Parts.{text_added}
use Rattle.planus_tie.specs.Shapes.{range_text}
use Rattle.planus_tie.proofs.schema.push_ranges.Goals as goal

pub loop-range-preserved : goal.loop-range-preserved
loop-range-preserved c =
    text_added (range_text c.args.comma.now)
    c.args.ranges.now c.loop-range.range-index _ _ c.args.out.now.items
    c.loop-range.out.items c.push_range.new.out.items c.loop-range-test.true refl
    c.in_ok-push_range.ensures c.loop-range.invariant
