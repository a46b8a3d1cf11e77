use Rattle.std.proofs.Common.{sym}
use Rattle.planus_dump.proofs.Answering.{unions_fault}
use Rattle.planus_dump.proofs.unions.read_unions.Goals as goal

pub returns-in-Err : goal.returns-in-Err
returns-in-Err c = sym (unions_fault c.args.table c.args.slot c.in-Err.error.error_kind c.in-Err.ensures.0)
