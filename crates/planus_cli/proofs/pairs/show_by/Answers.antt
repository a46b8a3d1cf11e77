use Rattle.std.proofs.Common.{subst, sym}
use Rattle.planus_cli.specs.Arguments.{words_of}
use Rattle.planus_cli.specs.Running.{ShowsBy}
use Rattle.planus_cli.proofs.LoadedFiles.{if_ok}
use Rattle.planus_cli.proofs.pairs.show_by.Goals as goal

pub returns-in-View : goal.returns-in-View
returns-in-View g c =
    let disk = g.F.Files.disk c.args.files.now in
    let before = g.W.Write.contents c.args.writer.now in
    let after = g.W.Write.contents c.view_by.new.writer in
    let unsaid = g.X.Write.contents c.args.errors.now in
    let said = g.X.Write.contents c.view_by.new.errors in
    if_ok c.view_by.result
    (λ status shows.
    subst (λ command. ShowsBy disk command c.args.schema.now (words_of c.args.words.now) c.args.name.now c.args.bytes.now status before after unsaid said) (sym c.in-View.is) shows)
    c.view_by.ensures.views

pub returns-in-Json : goal.returns-in-Json
returns-in-Json g c =
    let disk = g.F.Files.disk c.args.files.now in
    let before = g.W.Write.contents c.args.writer.now in
    let after = g.W.Write.contents c.print_by.new.writer in
    let unsaid = g.X.Write.contents c.args.errors.now in
    let said = g.X.Write.contents c.print_by.new.errors in
    if_ok c.print_by.result
    (λ status shows.
    subst (λ command. ShowsBy disk command c.args.schema.now (words_of c.args.words.now) c.args.name.now c.args.bytes.now status before after unsaid said) (sym c.in-Json.is) shows)
    c.print_by.ensures

pub returns-in-Binary : goal.returns-in-Binary
returns-in-Binary g c =
    let disk = g.F.Files.disk c.args.files.now in
    let before = g.W.Write.contents c.args.writer.now in
    let after = g.W.Write.contents c.pack_by.new.writer in
    let unsaid = g.X.Write.contents c.args.errors.now in
    let said = g.X.Write.contents c.pack_by.new.errors in
    if_ok c.pack_by.result
    (λ status shows.
    subst (λ command. ShowsBy disk command c.args.schema.now (words_of c.args.words.now) c.args.name.now c.args.bytes.now status before after unsaid said) (sym c.in-Binary.is) shows)
    c.pack_by.ensures
