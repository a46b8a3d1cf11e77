use Rattle.std.specs.Prelude.{codes}
use Rattle.std.proofs.Common.{[], ◌++◌}
use Rattle.planus_cli.specs.Completions.{row_text, option_words, frame_view, other_rows, rows_text}
use Rattle.planus_cli.specs.declared.arguments.Command.TheVariants.{Check, Format, View, Json, Binary, Rattle as RattleCommand, Dot, Conform}
use Rattle.planus_cli.proofs.Rows.{on_ok_map, added_first}
use Rattle.planus_cli.proofs.completions.put_rows.Goals as goal

pub returns : goal.returns
unfolding rows_text
returns c =
    let frame = frame_view c.args.frame.now in
    let check = row_text frame (codes "check") (option_words Check) [] in
    let format = row_text frame (codes "format") (option_words Format) [] in
    let view = row_text frame (codes "view") (option_words View) [] in
    let json = row_text frame (codes "json") (option_words Json) [] in
    let binary = row_text frame (codes "binary") (option_words Binary) [] in
    let rattle = row_text frame (codes "rattle") (option_words RattleCommand) [] in
    let dot = row_text frame (codes "dot") (option_words Dot) [] in
    let conform = row_text frame (codes "conform") (option_words Conform) [] in
    let other = other_rows frame in
    let end = c.put_other_rows.new.text.items in
    on_ok_map c.put_other_rows.result _ _
    (λ is. added_first c.args.text.now.items c.put_command.new.text.items end check (format ++ (view ++ (json ++ (binary ++ (rattle ++ (dot ++ (conform ++ other))))))) c.in_ok-put_command.ensures
    (added_first c.put_command.new.text.items c.put_command-2.new.text.items end format (view ++ (json ++ (binary ++ (rattle ++ (dot ++ (conform ++ other)))))) c.in_ok-put_command-2.ensures
    (added_first c.put_command-2.new.text.items c.put_command-3.new.text.items end view (json ++ (binary ++ (rattle ++ (dot ++ (conform ++ other))))) c.in_ok-put_command-3.ensures
    (added_first c.put_command-3.new.text.items c.put_command-4.new.text.items end json (binary ++ (rattle ++ (dot ++ (conform ++ other)))) c.in_ok-put_command-4.ensures
    (added_first c.put_command-4.new.text.items c.put_command-5.new.text.items end binary (rattle ++ (dot ++ (conform ++ other))) c.in_ok-put_command-5.ensures
    (added_first c.put_command-5.new.text.items c.put_command-6.new.text.items end rattle (dot ++ (conform ++ other)) c.in_ok-put_command-6.ensures
    (added_first c.put_command-6.new.text.items c.put_command-7.new.text.items end dot (conform ++ other) c.in_ok-put_command-7.ensures
    (added_first c.put_command-7.new.text.items c.put_command-8.new.text.items end conform other c.in_ok-put_command-8.ensures is))))))))
    c.put_other_rows.ensures
