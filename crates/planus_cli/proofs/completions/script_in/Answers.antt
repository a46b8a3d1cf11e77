use Rattle.std.proofs.Common.{◌++◌, ap, ◌∙◌}
use Rattle.planus_cli.specs.Completions.{frame_view, rows_text, spaced, first_options, names, script_in}
use Rattle.planus_cli.proofs.Rows.{all_added}
use Rattle.planus_cli.proofs.completions.script_in.Goals as goal

pub returns : goal.returns
unfolding script_in
returns c =
    let frame = frame_view c.args.frame.now in
    all_added c.in_ok-text.text.items c.put_rows.new.text.items c.extend_from_slice.new.self.items c.put_first_options.new.text.items
    c.extend_from_slice-2.new.self.items c.put_names.new.text.items c.extend_from_slice-3.new.self.items
    frame.head (rows_text frame) frame.first (spaced first_options) frame.between (spaced names) frame.tail
    (c.in_ok-text.ensures.items ∙ c.as_bytes.ensures.value)
    c.in_ok-put_rows.ensures
    (c.in_ok-extend_from_slice.ensures.items ∙ ap (λ l. c.put_rows.new.text.items ++ l) c.as_bytes-2.ensures.value)
    c.in_ok-put_first_options.ensures
    (c.in_ok-extend_from_slice-2.ensures.items ∙ ap (λ l. c.put_first_options.new.text.items ++ l) c.as_bytes-3.ensures.value)
    c.in_ok-put_names.ensures
    (c.in_ok-extend_from_slice-3.ensures.items ∙ ap (λ l. c.put_names.new.text.items ++ l) c.as_bytes-4.ensures.value)
