use Rattle.std.proofs.Common.{refl}
use Rattle.planus_tie.proofs.Parts.{text_added}
use Rattle.planus_tie.specs.Shapes.{tagged_text}
use Rattle.planus_tie.proofs.schema.push_members.Goals as goal

pub loop-member-preserved : goal.loop-member-preserved
loop-member-preserved c =
    text_added (tagged_text c.args.comma.now)
    c.args.members.now c.loop-member.member-index _ _ c.args.out.now.items
    c.loop-member.out.items c.push_member.new.out.items c.loop-member-test.true refl
    c.in_ok-push_member.ensures c.loop-member.invariant
