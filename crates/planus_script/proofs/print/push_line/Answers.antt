use Rattle.std.proofs.Common.{◌∙◌, ◌++◌, ap, lit<}
use Rattle.std.specs.String.{string_bytes}
use Rattle.planus_script.proofs.Printing.{first_byte, further_byte}
use Rattle.planus_script.proofs.print.push_line.Goals as goal
use Rattle.planus_script.proofs.print.push_line.Goals.{then-index-gt0+in_ok-push, else-index-gt0}

pub loop-index-preserved : goal.loop-index-preserved
loop-index-preserved c =
    elim c.if-index-gt0.branch [
      | then-index-gt0+in_ok-push w ↦ further_byte c.args.bytes.now c.loop-index.index (string_bytes c.args.text.now) (string_bytes c.loop-index.text) (string_bytes c.if-index-gt0.text)
          (string_bytes c.push_hex.new.text) w.if-index-gt0.true c.loop-index-test.true c.loop-index.invariant (ap string_bytes w.text-is ∙ w.in_ok-push.ensures.bytes ∙ ap (λ xs. string_bytes c.loop-index.text ++ xs) (w.in_ok-push.ensures.ascii (lit< tt))) c.in_ok-push_hex.ensures
      | else-index-gt0 w ↦ first_byte c.args.bytes.now c.loop-index.index (string_bytes c.args.text.now) (string_bytes c.loop-index.text) (string_bytes c.if-index-gt0.text)
          (string_bytes c.push_hex.new.text) w.if-index-gt0.false c.loop-index-test.true c.loop-index.invariant (ap string_bytes w.text-is) c.in_ok-push_hex.ensures
    ]
