use Rattle.planus_read.specs.Places.{place_bytes, place_start, place_offset}
use Rattle.planus_verify.proofs.Passing.{reference_passed}
use Rattle.planus_verify.proofs.passes.reference_passes.Goals as goal

pub returns-in-Ok : goal.returns-in-Ok
returns-in-Ok g c = λ here.
    reference_passed g.L.VerifiedKind.schema c.args.depth g.L.VerifiedKind.index here
    (place_bytes c.args.at) (place_start c.args.at) (place_offset c.args.at) c.in-Ok.table
    c.args.left _ c.in-Ok.ensures c.pass.ensures
