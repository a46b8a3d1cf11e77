use Rattle.std.proofs.Common.{subst, ◌∙◌}
use Rattle.std.specs.Prelude.{IfOk}
use Rattle.planus_cli.specs.Loading.{places_of}
use Rattle.planus_cli.specs.Sources.{ChecksFile}
use Rattle.planus_cli.proofs.sources.check_at.Goals as goal

pub returns : goal.returns
returns g c =
    let places = places_of (g.F.Files.disk c.args.files.now) c.args.folders.now in
    subst (λ name. IfOk c.check_file.result (λ status. ChecksFile places name status (g.X.Write.contents c.args.errors.now) (g.X.Write.contents c.check_file.new.errors)))
    (c.as_str.ensures.value ∙ c.in_ok-name.ensures) c.check_file.ensures
