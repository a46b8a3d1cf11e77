use Rattle.std.proofs.Common.{ap, sym, ◌∙◌, subst}
use Rattle.std.specs.Prelude.{codes}
use Rattle.std.specs.Io.KnownBytes.{Appends}
use Rattle.planus_cli.specs.SchemaTexts.{line_of}
use Rattle.planus_cli.specs.Printing.{is_crate_name, name_fault}
use Rattle.planus_cli.proofs.rattle.folder_or_report.Goals as goal

pub returns : goal.returns
returns g c =
    let name = c.last_word-name.result.now in
    let none = ap is_crate_name (sym c.as_bytes.ensures.value) ∙ sym c.is_crate_name.ensures ∙ c.if-is_crate_name.false in
    let unsaid = g.X.Write.contents c.args.errors.now in
    let said = g.X.Write.contents c.say.new.errors in
    let why = c.name_fault-why.ensures ∙ ap name_fault c.as_bytes-2.ensures.value in
    (name, none, subst (λ t. Appends unsaid said (line_of (codes "no crate can have the name `") name t)) why c.in_ok-say.ensures.said)
