use Rattle.std.proofs.Common.{subst}
use Rattle.std.specs.Prelude.{IfOk, Some}
use Rattle.planus_cli.specs.Including.{file_named}
use Rattle.planus_cli.specs.Loading.{places_of}
use Rattle.planus_cli.specs.Sources.{MeansAll}
use Rattle.planus_cli.proofs.LoadedFiles.{if_ok}
use Rattle.planus_cli.proofs.rattle.print_named.Goals as goal

pub returns-in-Ok : goal.returns-in-Ok
returns-in-Ok g c =
    let places = places_of (g.F.Files.disk c.args.files.now) c.args.folders.now in
    let unsaid = g.X.Write.contents c.args.errors.now in
    let told = g.X.Write.contents c.schema_at.new.errors in
    let means = subst (λ found. IfOk found (λ schema. MeansAll places (file_named c.args.word.now) (Some schema) unsaid told)) c.in-Ok.is
    c.in_ok-found.ensures.means in
    if_ok c.print_to.result (λ status prints clean. record {
      schema = c.in-Ok.schema;
      told = told;
      means = means;
      prints = prints clean;
    })
    c.print_to.ensures
