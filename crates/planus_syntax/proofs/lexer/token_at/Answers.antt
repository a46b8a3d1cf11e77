use Rattle.std.proofs.Common.{rules}
use Rattle.planus_syntax.proofs.Placed.{blank_leads, mark_cuts, mark_leads}
use Rattle.planus_syntax.proofs.lexer.token_at.Goals as goal

pub returns-then-is_blank-clause-starts : goal.returns-then-is_blank-clause-starts
returns-then-is_blank-clause-starts c = blank_leads c.args.bytes.now c.in-Some.first.now c.in-Some.rest.now (search rules) (cc)

pub returns-then-is_mark-clause-starts : goal.returns-then-is_mark-clause-starts
returns-then-is_mark-clause-starts c = mark_leads c.args.bytes.now c.in-Some.first.now c.in-Some.rest.now (search rules) (cc) (cc)

pub returns-then-is_mark-clause-cuts : goal.returns-then-is_mark-clause-cuts
returns-then-is_mark-clause-cuts c = mark_cuts c.args.bytes.now c.in-Some.first.now c.in-Some.rest.now (search rules) (cc) (cc)
