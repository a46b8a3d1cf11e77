use Rattle.std.proofs.Common.{[], ◌∷◌}
use Rattle.planus_dump.proofs.Writes.{pushes_then, pushes_broken}
use Rattle.planus_dump.proofs.line_writer.LineWriter.push_line.Goals as goal

pub returns-in_err-push : goal.returns-in_err-push
returns-in_err-push g c =
    pushes_broken g.W.Write.contents c.args.self.now c.push.new.self c.args.line.now (10 ∷ []) c.from_residual.result c.in_err-push.ensures c.from_residual.ensures.0

pub returns : goal.returns
returns g c =
    pushes_then g.W.Write.contents c.args.self.now c.push.new.self c.push-2.new.self c.args.line.now (10 ∷ []) c.push-2.result c.in_ok-push.ensures c.push-2.ensures
