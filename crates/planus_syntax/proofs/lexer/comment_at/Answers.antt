use Rattle.planus_syntax.proofs.Placed.{block_leads}
use Rattle.planus_syntax.proofs.lexer.comment_at.Goals as goal

pub returns-in_ok-block_at-in-Some-after-clause-starts : goal.returns-in_ok-block_at-in-Some-after-clause-starts
returns-in_ok-block_at-in-Some-after-clause-starts c =
    block_leads c.args.bytes.now c.in-Some-after.rest.now c.in_ok-block_at-in-Some-after.field-0.now
    c.in-Some-after.ensures c.in_ok-block_at-in-Some-after.ensures.closes
