use Rattle.std.proofs.Common.{subst, sym}
use Rattle.planus_cli.specs.Arguments.{asked, words_of}
use Rattle.planus_cli.specs.Running.{Runs, RunsCommand}
use Rattle.planus_cli.proofs.LoadedFiles.{if_ok}
use Rattle.planus_cli.proofs.program.run_request.Goals as goal

pub returns-in-Check : goal.returns-in-Check
returns-in-Check g c =
    let disk = g.F.Files.disk c.args.files.now in
    let before = g.W.Write.contents c.args.writer.now in
    let after = g.W.Write.contents c.run_files.new.writer in
    let unsaid = g.X.Write.contents c.args.errors.now in
    let said = g.X.Write.contents c.run_files.new.errors in
    if_ok c.run_files.result
    (λ status runs.
    subst (λ request. Runs disk (asked request) status before after unsaid said) (sym c.in-Run.is)
    (subst (λ command. RunsCommand disk command (words_of c.in-Run.words) status before after unsaid said) (sym c.in-Check.is) runs))
    c.run_files.ensures

pub returns-in-Format : goal.returns-in-Format
returns-in-Format g c =
    let disk = g.F.Files.disk c.args.files.now in
    let before = g.W.Write.contents c.args.writer.now in
    let after = g.W.Write.contents c.run_files-in-Format.new.writer in
    let unsaid = g.X.Write.contents c.args.errors.now in
    let said = g.X.Write.contents c.run_files-in-Format.new.errors in
    if_ok c.run_files-in-Format.result
    (λ status runs.
    subst (λ request. Runs disk (asked request) status before after unsaid said) (sym c.in-Run.is)
    (subst (λ command. RunsCommand disk command (words_of c.in-Run.words) status before after unsaid said) (sym c.in-Format.is) runs))
    c.run_files-in-Format.ensures

pub returns-in-View : goal.returns-in-View
returns-in-View g c =
    let disk = g.F.Files.disk c.args.files.now in
    let before = g.W.Write.contents c.args.writer.now in
    let after = g.W.Write.contents c.show_files.new.writer in
    let unsaid = g.X.Write.contents c.args.errors.now in
    let said = g.X.Write.contents c.show_files.new.errors in
    if_ok c.show_files.result
    (λ status runs.
    subst (λ request. Runs disk (asked request) status before after unsaid said) (sym c.in-Run.is)
    (subst (λ command. RunsCommand disk command (words_of c.in-Run.words) status before after unsaid said) (sym c.in-View.is) runs))
    c.show_files.ensures

pub returns-in-Json : goal.returns-in-Json
returns-in-Json g c =
    let disk = g.F.Files.disk c.args.files.now in
    let before = g.W.Write.contents c.args.writer.now in
    let after = g.W.Write.contents c.show_files-in-Json.new.writer in
    let unsaid = g.X.Write.contents c.args.errors.now in
    let said = g.X.Write.contents c.show_files-in-Json.new.errors in
    if_ok c.show_files-in-Json.result
    (λ status runs.
    subst (λ request. Runs disk (asked request) status before after unsaid said) (sym c.in-Run.is)
    (subst (λ command. RunsCommand disk command (words_of c.in-Run.words) status before after unsaid said) (sym c.in-Json.is) runs))
    c.show_files-in-Json.ensures

pub returns-in-Binary : goal.returns-in-Binary
returns-in-Binary g c =
    let disk = g.F.Files.disk c.args.files.now in
    let before = g.W.Write.contents c.args.writer.now in
    let after = g.W.Write.contents c.show_files-in-Binary.new.writer in
    let unsaid = g.X.Write.contents c.args.errors.now in
    let said = g.X.Write.contents c.show_files-in-Binary.new.errors in
    if_ok c.show_files-in-Binary.result
    (λ status runs.
    subst (λ request. Runs disk (asked request) status before after unsaid said) (sym c.in-Run.is)
    (subst (λ command. RunsCommand disk command (words_of c.in-Run.words) status before after unsaid said) (sym c.in-Binary.is) runs))
    c.show_files-in-Binary.ensures
