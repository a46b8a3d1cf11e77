use Rattle.planus_cli.specs.SchemaTexts.{line_of}
use Rattle.planus_cli.proofs.Failing.{on_err, none_begun}
use Rattle.planus_cli.proofs.streams.say.Goals as goal

pub returns-in_err-line-clause-begun : goal.returns-in_err-line-clause-begun
returns-in_err-line-clause-begun g c =
    on_err c.from_residual.result _ (none_begun (line_of c.args.before.now c.args.name.now c.args.after.now) (g.X.Write.contents c.args.errors.now))
