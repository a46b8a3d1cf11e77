use Rattle.planus_syntax.proofs.Placed.{doc_leads, comment_leads}
use Rattle.planus_syntax.proofs.Scanning.{third_slash, two_slashes}
use Rattle.planus_syntax.proofs.lexer.line_at.Goals as goal

pub returns-in-Some-clause-cuts : goal.returns-in-Some-clause-cuts
returns-in-Some-clause-cuts c =
    third_slash c.args.bytes.now c.in-Some.rest.now c.split.result.0.now
    c.split.result.1.now c.in-Some.ensures c.split.ensures

pub returns-in-None-clause-cuts : goal.returns-in-None-clause-cuts
returns-in-None-clause-cuts c =
    two_slashes c.args.bytes.now c.split-in-None.result.0.now
    c.split-in-None.result.1.now c.in-None.ensures c.split-in-None.ensures

pub returns-in-Some-clause-starts : goal.returns-in-Some-clause-starts
returns-in-Some-clause-starts c =
    doc_leads c.args.bytes.now c.in-Some.rest.now c.split.result.0.now
    c.split.result.1.now c.in-Some.ensures c.split.ensures

pub returns-in-None-clause-starts : goal.returns-in-None-clause-starts
returns-in-None-clause-starts c =
    comment_leads c.args.bytes.now c.split-in-None.result.0.now
    c.split-in-None.result.1.now c.in-None.ensures c.split-in-None.ensures
