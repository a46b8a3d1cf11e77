use Rattle.std.proofs.Common.{◌++◌, ap, ◌∙◌, [], map}
use Rattle.std.specs.Prelude.{codes}
use Rattle.planus_cli.specs.Completions.{row_text, option_words, frame_view, shells, names, other_rows}
use Rattle.planus_cli.specs.declared.arguments.Command.TheVariants.{Completions}
use Rattle.planus_cli.proofs.Rows.{on_ok_map, added_first}
use Rattle.planus_cli.proofs.completions.put_other_rows.Goals as goal

pub returns : goal.returns
unfolding other_rows
returns c =
    let frame = frame_view c.args.frame.now in
    let first = row_text frame (codes "completions") (option_words Completions) shells in
    let last = row_text frame (codes "help") [] names in
    on_ok_map c.put_row-2.result _ _
    (λ is. added_first c.args.text.now.items c.put_row.new.text.items c.put_row-2.new.text.items first last
    (c.in_ok-put_row.ensures ∙ ap (λ ws. c.args.text.now.items ++ row_text frame (codes "completions") ws (map (λ w. w.now) c.shells.result.now)) c.option_words-options.ensures
    ∙ ap (λ ws. c.args.text.now.items ++ row_text frame (codes "completions") (option_words Completions) ws) c.shells.ensures)
    (is ∙ ap (λ ws. c.put_row.new.text.items ++ row_text frame (codes "help") [] ws) c.names.ensures))
    c.put_row-2.ensures
