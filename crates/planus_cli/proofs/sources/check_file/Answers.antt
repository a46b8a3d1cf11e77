use Rattle.std.proofs.Common.{subst, inl}
use Rattle.std.specs.Prelude.{IfOk, Some}
use Rattle.planus_cli.specs.Loading.{places_of}
use Rattle.planus_cli.specs.Sources.{MeansAll}
use Rattle.planus_cli.proofs.sources.check_file.Goals as goal

pub returns-in-Ok : goal.returns-in-Ok
returns-in-Ok g c =
    let places = places_of (g.F.Files.disk c.args.files.now) c.args.folders.now in
    let means = subst (λ found. IfOk found (λ schema. MeansAll places c.args.name.now (Some schema)
    (g.X.Write.contents c.args.errors.now) (g.X.Write.contents c.schema_of.new.errors))) c.in-Ok.is c.in_ok-schema.ensures.means in
    inl (c.clean.ensures, (c.in-Ok.schema, means))
