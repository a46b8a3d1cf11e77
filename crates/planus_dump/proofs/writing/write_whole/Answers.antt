use Rattle.std.proofs.Common.{ℕ, List, sym, subst}
use Rattle.planus_dump.proofs.Begun.{more_written}
use Rattle.planus_dump.specs.Writing.{Leaves}
use Rattle.planus_dump.proofs.writing.write_whole.Goals as goal

pub writes-preserved : goal.writes-preserved
writes-preserved g c = record {
  begun = subst (λ (rest : List ℕ). Leaves c.args.bytes.now rest (g.W.Write.contents c.args.writer.now) (g.W.Write.contents c.write_some.new.writer)) (sym c.split_at.ensures.back)
      (more_written c.args.bytes.now c.writes.rest.now c.in_ok-count.count (g.W.Write.contents c.args.writer.now) (g.W.Write.contents c.writes.writer) (g.W.Write.contents c.write_some.new.writer) c.writes.invariant.begun c.in_ok-count.ensures.bytes);
}
