use Rattle.planus_cli.proofs.Sized.{viewed, failed}
use Rattle.planus_cli.proofs.view.view_bytes.Goals as goal

pub returns-clause-views : goal.returns-clause-views
returns-clause-views g c =
    viewed c.args.schema.now c.args.how c.args.name.now c.args.bytes.now c.in_ok-shown.shown c.view_advised.result
    (g.W.Write.contents c.args.writer.now) (g.W.Write.contents c.view_advised.new.writer)
    (g.X.Write.contents c.args.errors.now) (g.X.Write.contents c.view_advised.new.errors) c.in_ok-shown.ensures.shows c.view_advised.ensures.views

pub returns-clause-failed : goal.returns-clause-failed
returns-clause-failed g c =
    failed c.args.schema.now c.args.how c.args.name.now c.args.bytes.now c.in_ok-shown.shown c.view_advised.result
    (g.W.Write.contents c.args.writer.now) (g.W.Write.contents c.view_advised.new.writer)
    (g.X.Write.contents c.args.errors.now) (g.X.Write.contents c.view_advised.new.errors) c.in_ok-shown.ensures.shows c.view_advised.ensures.failed
