use Rattle.std.proofs.Common.{refl, ◌++◌, codes, decimal}
use Rattle.planus_tie.proofs.Parts.{text_added}
use Rattle.planus_tie.proofs.roots.push_others.Goals as goal

pub loop-byte-preserved : goal.loop-byte-preserved
loop-byte-preserved c =
    text_added (λ x. codes "," ++ decimal x)
    c.args.bytes.now c.loop-byte.byte-index _ _ c.args.out.now.items
    c.loop-byte.out.items c.push_next.new.out.items c.loop-byte-test.true refl
    c.in_ok-push_next.ensures c.loop-byte.invariant
