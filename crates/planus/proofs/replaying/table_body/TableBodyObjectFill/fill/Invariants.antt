use Rattle.planus_write.specs.ObjectWriting.{body_of}
use Rattle.planus.proofs.Filling.{Filled}
use Rattle.planus.proofs.replaying.table_body.TableBodyObjectFill.fill.Given as goal

abbrev pub invariant-loop-field : goal.invariant-loop-field
invariant-loop-field l = Filled l.self l.field-index (body_of l.fn.writer) (body_of l.writer)
