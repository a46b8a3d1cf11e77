use Rattle.std.proofs.Common.{subst, inr}
use Rattle.std.specs.Prelude.{codes}
use Rattle.std.specs.Io.KnownBytes.{Appends}
use Rattle.planus_cli.specs.SchemaTexts.{line_of}
use Rattle.planus_cli.proofs.LoadedFiles.{if_ok}
use Rattle.planus_cli.proofs.files.put_file.Goals as goal

pub returns-in-Err : goal.returns-in-Err
returns-in-Err g c =
    if_ok c.fail.result
    (λ status fails. inr (
      fails.0,
      (
        c.in-Err.error,
        c.in-Err.ensures.error,
        subst (λ why. Appends (g.X.Write.contents c.args.errors.now) (g.X.Write.contents c.fail.new.errors) (line_of (codes "can't write ") c.args.name.now why))
            c.after_name.ensures fails.1,
      ),
    ))
    c.fail.ensures
