use Rattle.planus_read.proofs.Bytes.{compared_at}
use Rattle.planus_testing.proofs.plain.bytes_stand_at.Goals as goal

pub returns : goal.returns
returns c = compared_at c.args.bytes.now c.args.part.now c.args.position c.eq.result c.eq.ensures
