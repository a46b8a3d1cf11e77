use Rattle.planus_tie.proofs.Parts.{entry_added}
use Rattle.planus_tie.proofs.entries.push_parts.Goals as goal

pub loop-entry-preserved : goal.loop-entry-preserved
loop-entry-preserved c =
    entry_added c.args.naming.now c.args.entries.now c.loop-entry.entry-index _
    c.loop-entry.rest.now c.back-rest.result.now c.front.result.now c.loop-entry.out.items
    c.push_part.new.out.items _ c.loop-entry-test.true c.in_ok-push_part.ensures c.front.ensures
    c.back-rest.ensures c.loop-entry.invariant
