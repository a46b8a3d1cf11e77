use Rattle.std.proofs.Common.{refl}
use Rattle.planus_tie.proofs.Parts.{text_added}
use Rattle.planus_tie.specs.UnionViews.{variant_of}
use Rattle.planus_tie.proofs.union_views.push_variants.Goals as goal

pub loop-member-preserved : goal.loop-member-preserved
loop-member-preserved c =
    text_added (λ h. variant_of c.args.naming.now h)
    c.args.members.now c.loop-member.member-index _ _ c.args.out.now.items
    c.loop-member.out.items c.push_variant.new.out.items c.loop-member-test.true refl
    c.in_ok-push_variant.ensures c.loop-member.invariant
