use Rattle.std.proofs.Common.{◌++◌, ◌||◌, ◌∷◌, [], ap, subst, ◌∙◌}
use Rattle.std.specs.String.{string_bytes}
use Rattle.planus_dump.specs.Faults.{is_fault}
use Rattle.planus_dump.specs.declared.sink_error.SinkError.{SinkError}
use Rattle.planus_dump.specs.inner.Shown.{event_of}
use Rattle.planus_dump.specs.inner.Writes.{BeginsOn, WritesOn}
use Rattle.planus_dump.proofs.Fed.{line_event}
use Rattle.planus_dump.proofs.Writes.{put_broken, put_refused, put_done}
use Rattle.planus_dump.proofs.line_writer.LineWriterLines.put.Goals as goal

pub returns-in_err-text : goal.returns-in_err-text
returns-in_err-text g c = put_refused g.W.Write.contents c.args.self.now (event_of c.args.line) c.from_residual.result (line_event c.args.line) c.from_residual.ensures.0

pub returns-in_err-push_line : goal.returns-in_err-push_line
returns-in_err-push_line g c =
    put_broken g.W.Write.contents c.args.self.now c.push_line.new.self (event_of c.args.line) (string_bytes c.in_ok-text.text) c.from_residual-in_err-push_line.result c.in_ok-text.ensures
    (subst (λ text. BeginsOn g.W.Write.contents c.args.self.now (text ++ 10 ∷ []) c.push_line.new.self) c.as_bytes.ensures.value c.in_err-push_line.ensures) c.from_residual-in_err-push_line.ensures.0

pub returns : goal.returns
returns g c =
    put_done g.W.Write.contents SinkError c.args.self.now c.push_line.new.self c.note.new.self (event_of c.args.line) (string_bytes c.in_ok-text.text) (tt {0}) c.in_ok-text.ensures
    ((subst (λ text. WritesOn g.W.Write.contents c.args.self.now (text ++ 10 ∷ []) c.push_line.new.self) c.as_bytes.ensures.value c.in_ok-push_line.ensures.0), c.in_ok-push_line.ensures.1)
    (c.note.ensures ∙ ap (λ fault. record c.push_line.new.self { has_fault = c.push_line.new.self.has_fault || fault }) c.is_fault-is_fault.ensures)
