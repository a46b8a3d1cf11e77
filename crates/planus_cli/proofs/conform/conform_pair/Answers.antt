use Rattle.std.proofs.Common.{subst, inr}
use Rattle.std.specs.Prelude.{IfOk}
use Rattle.planus_cli.specs.Including.{file_named}
use Rattle.planus_cli.specs.Loading.{places_of}
use Rattle.planus_cli.specs.Sources.{HasMeaning}
use Rattle.planus_cli.proofs.LoadedFiles.{if_ok}
use Rattle.planus_cli.proofs.conform.conform_pair.Goals as goal

pub returns-in-Ok : goal.returns-in-Ok
returns-in-Ok g c =
    let disk = g.F.Files.disk c.args.files.now in
    let name = file_named c.args.old.now in
    let unsaid = g.X.Write.contents c.args.errors.now in
    let told = g.X.Write.contents c.meaning_at.new.errors in
    let found = subst (λ found. IfOk found (λ meaning. HasMeaning (places_of disk c.deref.result.now) name meaning unsaid told)) c.in-Ok.is
    c.in_ok-found.ensures.means in
    let has = subst (λ folders. HasMeaning (places_of disk folders) name c.in-Ok.old unsaid told) c.deref.ensures.value found in
    if_ok c.conform_to.result (λ status conforms. inr (record {
      old = c.in-Ok.old;
      told = told;
      found = has;
      conforms = conforms;
    }))
    c.conform_to.ensures
