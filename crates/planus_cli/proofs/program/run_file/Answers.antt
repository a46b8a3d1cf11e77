use Rattle.std.proofs.Common.{subst, sym, refl}
use Rattle.planus_cli.specs.Arguments.{words_of}
use Rattle.planus_cli.specs.Including.{file_named}
use Rattle.planus_cli.specs.Loading.{places_of}
use Rattle.planus_cli.specs.Running.{RunsFile}
use Rattle.planus_cli.specs.Sources.{ChecksFile}
use Rattle.planus_cli.proofs.LoadedFiles.{if_ok}
use Rattle.planus_cli.proofs.program.run_file.Goals as goal

pub returns-else-format : goal.returns-else-format
returns-else-format g c =
    let disk = g.F.Files.disk c.args.files.now in
    let name = file_named c.args.word.now in
    let written = g.W.Write.contents c.args.writer.now in
    let unsaid = g.X.Write.contents c.args.errors.now in
    let said = g.X.Write.contents c.check_at.new.errors in
    if_ok c.check_at.result
    (λ status checks.
    subst (λ format. RunsFile disk format (words_of c.args.words.now) c.args.word.now status written written unsaid said) (sym c.if-format.false)
    (refl, subst (λ folders. ChecksFile (places_of disk folders) name status unsaid said) c.deref.ensures.value checks))
    c.check_at.ensures
