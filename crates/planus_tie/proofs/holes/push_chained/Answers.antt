use Rattle.std.proofs.Common.{refl}
use Rattle.planus_tie.proofs.Parts.{text_added}
use Rattle.planus_tie.specs.Holes.{chained_arm}
use Rattle.planus_tie.proofs.holes.push_chained.Goals as goal

pub loop-member-preserved : goal.loop-member-preserved
loop-member-preserved c =
    text_added (chained_arm c.args.naming.now c.args.next.now c.args.head.now c.args.arm.now)
    c.args.members.now c.loop-member.member-index _ _ c.args.out.now.items
    c.loop-member.out.items c.push_chained_arm.new.out.items c.loop-member-test.true refl
    c.in_ok-push_chained_arm.ensures c.loop-member.invariant
