use Rattle.std.proofs.Common.{refl}
use Rattle.planus_tie.proofs.Parts.{text_added}
use Rattle.planus_tie.specs.Holes.{filled}
use Rattle.planus_tie.proofs.holes.push_each.Goals as goal

pub loop-member-preserved : goal.loop-member-preserved
loop-member-preserved c =
    text_added (λ h. filled c.args.naming.now h c.args.text.now)
    c.args.members.now c.loop-member.member-index _ _ c.args.out.now.items
    c.loop-member.out.items c.push_filled.new.out.items c.loop-member-test.true refl
    c.in_ok-push_filled.ensures c.loop-member.invariant
