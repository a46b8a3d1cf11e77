use Rattle.std.proofs.Common.{sym, subst, ◌∙◌}
use Rattle.std.proofs.KnownBytes.{Appends-trans}
use Rattle.std.proofs.lemmas.Result.{err_from_is_err_and}
use Rattle.std.specs.Io.KnownBytes.{Appends}
use Rattle.planus_dump.specs.Views.{lines_text}
use Rattle.planus_dump.specs.Writing.{WritesBeginning}
use Rattle.planus_cli.specs.declared.streams.CallError.{CallError}
use Rattle.planus_cli.specs.Viewing.{FailsViewing, end_text}
use Rattle.planus_cli.proofs.ViewedBuffer.{fails, ends}
use Rattle.planus_cli.proofs.viewing.view_buffer.Goals as goal

pub returns-clause-shown : goal.returns-clause-shown
returns-clause-shown g c =
    let contents = g.W.Write.contents in let view = c.in_ok-seen.ensures.shown in let end = c.in_ok-seen.seen.end in
    let between = contents c.view.new.writer in let after = contents c.write_out.new.writer in
    record {
      lines = view.lines;
      viewed = view.viewed;
      told = view.told;
      written = Appends-trans (contents c.args.writer.now) between after (lines_text view.lines) (end_text end) view.written
          (subst (Appends between after) (c.as_bytes.ensures.value ∙ c.end_text.ensures) c.in_ok-write_out.ensures.bytes);
    }

pub returns-in_err-seen-clause-failed : goal.returns-in_err-seen-clause-failed
returns-in_err-seen-clause-failed g c =
    let p = err_from_is_err_and c.from_residual.result c.from_residual.ensures.1 in
    rw p.1 (fails c.args.schema.now c.args.bytes.now c.args.limits.lines c.args.limits.bytes (g.W.Write.contents c.args.writer.now) (g.W.Write.contents c.view.new.writer)
    c.in_err-seen.field-0.0 p.0 p.2 c.in_err-seen.ensures.failed)

pub returns-in_err-write_out-clause-failed : goal.returns-in_err-write_out-clause-failed
returns-in_err-write_out-clause-failed g c =
    let contents = g.W.Write.contents in let view = c.in_ok-seen.ensures.shown in let end = c.in_ok-seen.seen.end in
    let before = contents c.args.writer.now in let between = contents c.view.new.writer in let after = contents c.write_out.new.writer in
    let p = err_from_is_err_and c.from_residual-in_err-write_out.result c.from_residual-in_err-write_out.ensures.1 in
    rw p.1 (subst (λ (e : CallError). FailsViewing c.args.schema.now c.args.bytes.now c.args.limits.lines c.args.limits.bytes e before after) (sym (p.2 ∙ c.in_err-write_out.ensures.error)) (record {
      lines = view.lines;
      end = end;
      viewed = view.viewed;
      written = ends (lines_text view.lines) (end_text end) before between after view.written
          (subst (λ bytes. WritesBeginning bytes between after) (c.as_bytes.ensures.value ∙ c.end_text.ensures) c.in_err-write_out.ensures.begun);
    }))
