use Rattle.std.proofs.Common.{◌++◌, subst, sym, ◌∙◌}
use Rattle.std.specs.Prelude.{codes}
use Rattle.std.specs.Io.KnownBytes.{Appends}
use Rattle.planus_cli.specs.SchemaTexts.{line_of}
use Rattle.planus_cli.specs.Printing.{crates_line, foreign_line, lines_said}
use Rattle.planus_cli.proofs.LoadedFiles.{appended_twice}
use Rattle.planus_cli.proofs.rattle.say_lines.Goals as goal

pub returns-in_ok-say-2 : goal.returns-in_ok-say-2
returns-in_ok-say-2 g c =
    let ds = c.args.schema.now.declarations.items in
    let name = c.args.folder.name.now in
    let contents = g.X.Write.contents in
    let start = codes "the line of crates.txt is `" in
    let first = subst (λ t. Appends (contents c.args.errors.now) (contents c.say.new.errors) (line_of start name t))
    c.stands_on-crates.ensures c.in_ok-say.ensures.said in
    let second = subst (λ t. Appends (contents c.say.new.errors) (contents c.say-then-is_some.new.errors) (line_of start name t))
    (c.as_str.ensures.value ∙ c.in_ok-crates.ensures.ok) c.in_ok-say-2.ensures.said in
    subst (λ foreign. Appends (contents c.args.errors.now) (contents c.say-then-is_some.new.errors) (lines_said foreign ds name))
    (sym c.if-is_some.true ∙ c.is_some.ensures)
    (appended_twice (contents c.args.errors.now) (contents c.say.new.errors) (contents c.say-then-is_some.new.errors)
    (crates_line ds name) (foreign_line name) first second)

pub returns-else-is_some : goal.returns-else-is_some
returns-else-is_some g c =
    let ds = c.args.schema.now.declarations.items in
    let name = c.args.folder.name.now in
    let contents = g.X.Write.contents in
    subst (λ foreign. Appends (contents c.args.errors.now) (contents c.say.new.errors) (lines_said foreign ds name))
    (sym c.if-is_some.false ∙ c.is_some.ensures)
    (subst (λ t. Appends (contents c.args.errors.now) (contents c.say.new.errors) (line_of (codes "the line of crates.txt is `") name t))
    c.stands_on-crates.ensures c.in_ok-say.ensures.said)
