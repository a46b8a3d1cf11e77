use Rattle.std.proofs.Common.{true, false}
use Rattle.planus_cli.specs.Buffers.{look_of}
use Rattle.planus_cli.proofs.Sized.{held, held_failed}
use Rattle.planus_cli.proofs.view.view_held.Goals as goal

pub returns-then-prefixed-clause-views : goal.returns-then-prefixed-clause-views
returns-then-prefixed-clause-views g c =
    held (look_of c.args.view.now) c.args.bytes.now c.args.prefixed true c.view_sized.result (g.W.Write.contents c.args.writer.now) (g.W.Write.contents c.view_sized.new.writer)
    (g.X.Write.contents c.args.errors.now) (g.X.Write.contents c.view_sized.new.errors) c.if-prefixed.true c.view_sized.ensures.views

pub returns-then-prefixed-clause-failed : goal.returns-then-prefixed-clause-failed
returns-then-prefixed-clause-failed g c =
    held_failed (look_of c.args.view.now) c.args.bytes.now c.args.prefixed true c.view_sized.result (g.W.Write.contents c.args.writer.now) (g.W.Write.contents c.view_sized.new.writer)
    (g.X.Write.contents c.args.errors.now) (g.X.Write.contents c.view_sized.new.errors) c.if-prefixed.true c.view_sized.ensures.failed

pub returns-else-prefixed-clause-views : goal.returns-else-prefixed-clause-views
returns-else-prefixed-clause-views g c =
    held (look_of c.args.view.now) c.args.bytes.now c.args.prefixed false c.view_alone.result (g.W.Write.contents c.args.writer.now) (g.W.Write.contents c.view_alone.new.writer)
    (g.X.Write.contents c.args.errors.now) (g.X.Write.contents c.view_alone.new.errors) c.if-prefixed.false c.view_alone.ensures.views

pub returns-else-prefixed-clause-failed : goal.returns-else-prefixed-clause-failed
returns-else-prefixed-clause-failed g c =
    held_failed (look_of c.args.view.now) c.args.bytes.now c.args.prefixed false c.view_alone.result (g.W.Write.contents c.args.writer.now) (g.W.Write.contents c.view_alone.new.writer)
    (g.X.Write.contents c.args.errors.now) (g.X.Write.contents c.view_alone.new.errors) c.if-prefixed.false c.view_alone.ensures.failed
