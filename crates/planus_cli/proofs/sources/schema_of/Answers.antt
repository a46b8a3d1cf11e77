use Rattle.std.proofs.Common.{subst}
use Rattle.std.specs.Prelude.{IfOk}
use Rattle.planus_cli.specs.Loading.{places_of}
use Rattle.planus_cli.specs.Sources.{HasMeaning}
use Rattle.planus_cli.proofs.LoadedFiles.{schema_meant}
use Rattle.planus_cli.proofs.sources.schema_of.Goals as goal

pub returns-in-Ok-clause-means : goal.returns-in-Ok-clause-means
returns-in-Ok-clause-means g c =
    let places = places_of (g.F.Files.disk c.args.files.now) c.args.folders.now in
    let unsaid = g.X.Write.contents c.args.errors.now in
    let said = g.X.Write.contents c.meaning_of.new.errors in
    schema_meant places c.args.name.now c.in-Ok.meaning unsaid said
    (subst (λ found. IfOk found (λ meaning. HasMeaning places c.args.name.now meaning unsaid said)) c.in-Ok.is c.in_ok-meaning.ensures.means)
