use Rattle.std.proofs.Common.{ap, ◌∙◌}
use Rattle.planus_verify.specs.Schemas.{variant_in}
use Rattle.planus_read.specs.Places.{place_bytes, place_start, place_offset}
use Rattle.planus_verify.proofs.Passing.{variant_passed}
use Rattle.planus_verify.proofs.verify_union.member_passes.Goals as goal

pub returns : goal.returns
returns g c = λ here.
    variant_passed here g.L.VerifiedKind.schema g.U.UnionKind.schema c.args.depth
    g.L.VerifiedKind.index (variant_in g.U.UnionKind.schema.variants g.U.UnionKind.union c.args.tag)
    (place_bytes c.args.at) (place_start c.args.at)
    (place_offset c.args.at) c.args.left c.reference_passes.result c.requires.same
    (ap (variant_in g.U.UnionKind.schema.variants g.U.UnionKind.union) c.requires.tag
    ∙ c.requires.variant) (c.reference_passes.ensures here)
