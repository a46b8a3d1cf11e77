use Rattle.planus_read.specs.Places.{place_bytes, place_start, place_offset}
use Rattle.std.proofs.Common.{◌∙◌, None}
use Rattle.planus_verify.proofs.Passing.{nested_passed}
use Rattle.planus_verify.proofs.passes.nested_passes.Goals as goal

pub returns-in-Ok : goal.returns-in-Ok
returns-in-Ok g c = λ faults.
    let there = c.in-Ok.ensures in
    nested_passed g.L.VerifiedKind.schema c.args.depth faults g.L.VerifiedKind.index
    (place_bytes c.args.at) (place_start c.args.at) (place_offset c.args.at) there.0
    (place_bytes c.new-root.result) (place_start c.new-root.result)
    (place_offset c.new-root.result) c.args.left c.reference_passes.result there.1
    (c.new-root.ensures.bytes ∙ (c.new.ensures.bytes ∙ there.2))
    (c.new-root.ensures.begin ∙ c.new.ensures.start) c.new-root.ensures.offset
    (c.reference_passes.ensures (faults None))
