use Rattle.std.proofs.Common.{refl}
use Rattle.planus_tie.proofs.Parts.{text_added}
use Rattle.planus_tie.specs.UnionViews.{arm_of}
use Rattle.planus_tie.proofs.union_views.push_arms.Goals as goal

pub loop-member-preserved : goal.loop-member-preserved
loop-member-preserved c =
    text_added (λ h. arm_of c.args.naming.now c.args.wide h)
    c.args.members.now c.loop-member.member-index _ _ c.args.out.now.items
    c.loop-member.out.items c.push_arm.new.out.items c.loop-member-test.true refl
    c.in_ok-push_arm.ensures c.loop-member.invariant
