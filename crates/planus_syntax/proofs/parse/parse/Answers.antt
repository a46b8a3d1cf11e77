use Rattle.std.proofs.Common.{length}
use Rattle.planus_syntax.specs.Tokens.{pieces_of}
use Rattle.planus_syntax.specs.Reading.{schema_at}
use Rattle.planus_syntax.proofs.Composed.{is_found, is_only, is_no_other}
use Rattle.planus_syntax.proofs.Whole.{schema_whole}
use Rattle.planus_syntax.proofs.parse.parse.Goals as goal

pub returns-in-Ok-clause-found : goal.returns-in-Ok-clause-found
unfolding schema_at
returns-in-Ok-clause-found c =
    is_found (length c.args.tokens.now) (pieces_of c.args.tokens.now) c.in-Ok.schema
    c.in-Ok.ensures.0

pub returns-in-Ok-clause-whole : goal.returns-in-Ok-clause-whole
unfolding schema_at
returns-in-Ok-clause-whole c = schema_whole (pieces_of c.args.tokens.now) _ _ c.in-Ok.ensures.0

pub returns-in-Ok-clause-only : goal.returns-in-Ok-clause-only
unfolding schema_at
returns-in-Ok-clause-only c =
    is_only (pieces_of c.args.tokens.now) c.in-Ok.schema c.in-Ok.ensures.0

pub returns-in-Ok-clause-exact : goal.returns-in-Ok-clause-exact
unfolding schema_at
returns-in-Ok-clause-exact c = c.in-Ok.ensures.0

pub returns-in-Err-Fault-clause-only : goal.returns-in-Err-Fault-clause-only
unfolding schema_at
returns-in-Err-Fault-clause-only c = λ s w e.
    is_no_other (pieces_of c.args.tokens.now) s _ _ w e
    (rw c.in-Err-Fault.field-0-is at c.in-Err-Fault.ensures)

pub returns-in-Err-Fault-clause-exact : goal.returns-in-Err-Fault-clause-exact
unfolding schema_at
returns-in-Err-Fault-clause-exact c = (
  c.in-Err-Fault.left,
  rw c.in-Err-Fault.field-0-is at c.in-Err-Fault.ensures,
  c.saturating_sub-index.ensures,
)

pub returns-in-Ok-clause-counted : goal.returns-in-Ok-clause-counted
returns-in-Ok-clause-counted c = c.in-Ok.ensures.1
