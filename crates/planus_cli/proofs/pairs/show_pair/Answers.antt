use Rattle.std.proofs.Common.{subst, inr}
use Rattle.std.specs.Prelude.{IfOk, Some}
use Rattle.planus_cli.specs.Including.{file_named}
use Rattle.planus_cli.specs.Loading.{places_of}
use Rattle.planus_cli.specs.Sources.{MeansAll}
use Rattle.planus_cli.proofs.LoadedFiles.{if_ok}
use Rattle.planus_cli.proofs.pairs.show_pair.Goals as goal

pub returns-in-Ok : goal.returns-in-Ok
returns-in-Ok g c =
    let disk = g.F.Files.disk c.args.files.now in
    let name = file_named c.args.schema.now in
    let unsaid = g.X.Write.contents c.args.errors.now in
    let told = g.X.Write.contents c.schema_at.new.errors in
    let found = subst (λ found. IfOk found (λ schema. MeansAll (places_of disk c.deref.result.now) name (Some schema) unsaid told)) c.in-Ok.is
    c.in_ok-found.ensures.means in
    let means = subst (λ folders. MeansAll (places_of disk folders) name (Some c.in-Ok.schema) unsaid told) c.deref.ensures.value found in
    if_ok c.show_file.result (λ status shows. inr (record {
      means = c.in-Ok.schema;
      told = told;
      found = means;
      shows = shows;
    }))
    c.show_file.ensures
