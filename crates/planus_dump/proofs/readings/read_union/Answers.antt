use Rattle.planus_dump.proofs.Answering.{union_answer}
use Rattle.planus_dump.proofs.readings.read_union.Goals as goal

pub returns-in-Ok : goal.returns-in-Ok
returns-in-Ok c = union_answer c.args.table c.args.slot c.in-Ok.tagged c.in-Ok.ensures
