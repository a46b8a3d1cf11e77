use Rattle.planus_syntax.proofs.Placed.{number_leads}
use Rattle.planus_syntax.proofs.Scanning.{a_number, no_number}
use Rattle.planus_syntax.proofs.lexer.number_at.Goals as goal

pub returns-then-is_number-clause-cuts : goal.returns-then-is_number-clause-cuts
returns-then-is_number-clause-cuts c =
    a_number c.args.bytes.now c.split.result.0.now c.split.result.1.now
    c.split.ensures c.requires (cc)

pub returns-else-is_number-clause-cuts : goal.returns-else-is_number-clause-cuts
returns-else-is_number-clause-cuts c =
    no_number c.args.bytes.now c.split.result.0.now c.split.result.1.now
    c.split.ensures c.requires (cc)

pub returns-then-is_number-clause-starts : goal.returns-then-is_number-clause-starts
returns-then-is_number-clause-starts c =
    number_leads c.args.bytes.now c.split.result.0.now c.split.result.1.now
    c.split.ensures c.requires (cc)
