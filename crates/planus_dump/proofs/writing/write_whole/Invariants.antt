use Rattle.planus_dump.specs.Writing.{Leaves}
use Rattle.planus_dump.proofs.writing.write_whole.Given as goal

abbrev pub invariant-writes : goal.invariant-writes
invariant-writes g l = record {
  begun : Leaves l.fn.bytes l.rest (g.W.Write.contents l.fn.writer) (g.W.Write.contents l.writer);
}
