use Rattle.std.proofs.Common.{[]}
use Rattle.planus_dump.proofs.Writes.{pushes_then, pushes_broken}
use Rattle.planus_dump.proofs.line_writer.LineWriter.push.Goals as goal

pub returns-in_err-write_block : goal.returns-in_err-write_block
returns-in_err-write_block g c =
    pushes_broken g.W.Write.contents c.args.self.now c.write_block.new.self [] c.args.bytes.now c.from_residual.result c.in_err-write_block.ensures.written c.from_residual.ensures.0

pub returns : goal.returns
returns g c =
    pushes_then g.W.Write.contents c.args.self.now c.write_block.new.self c.write.new.self [] c.args.bytes.now c.write.result c.in_ok-write_block.ensures.written c.write.ensures
