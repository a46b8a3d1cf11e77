use Rattle.std.proofs.Common.{arith}
use Rattle.planus_script.proofs.Numbers.{refused}
use Rattle.planus_script.proofs.script.number.Goals as goal

pub returns-in-Err : goal.returns-in-Err
returns-in-Err c = refused c.args.word.now c.in-Err.field-0 c.in-Err.ensures.value.0 (omega arith) (cc)
