use Rattle.std.proofs.Common.{subst}
use Rattle.std.specs.String.{string_bytes}
use Rattle.std.proofs.lemmas.Result.{err_from_is_err_and}
use Rattle.std.specs.Io.KnownBytes.{Appends}
use Rattle.planus_script.specs.Printed.{PrintedOrOutOfMemory}
use Rattle.planus_dump.specs.Writing.{WritesBeginning}
use Rattle.planus_script.proofs.Limited.{writes_printed, begins_printed}
use Rattle.planus_script.proofs.run.run.Goals as goal

pub returns-clause-printed : goal.returns-clause-printed
returns-clause-printed g c =
    let text = string_bytes c.in_ok-output.output.text in
    let before = g.W.Write.contents c.args.writer.now in
    let after = g.W.Write.contents c.write_out.new.writer in
    writes_printed (g.R.Read.remaining c.args.reader.now) before after c.in_ok-input.input.items text c.in_ok-output.output.clean c.in_ok-input.ensures.bytes
    (subst (λ xs. PrintedOrOutOfMemory xs c.in_ok-output.output.clean text) c.as_slice.ensures.value c.in_ok-output.ensures)
    (subst (λ xs. Appends before after xs) c.as_bytes.ensures.value c.in_ok-write_out.ensures.bytes)

pub returns-in_err-write_out-clause-begun : goal.returns-in_err-write_out-clause-begun
returns-in_err-write_out-clause-begun g c =
    let text = string_bytes c.in_ok-output.output.text in
    let before = g.W.Write.contents c.args.writer.now in
    let after = g.W.Write.contents c.write_out.new.writer in
    let p = err_from_is_err_and c.from_residual-in_err-write_out.result c.from_residual-in_err-write_out.ensures.1 in
    rw p.1 (λ same. begins_printed (g.R.Read.remaining c.args.reader.now) before after c.in_ok-input.input.items text c.in_ok-output.output.clean c.in_ok-input.ensures.bytes
    (subst (λ xs. PrintedOrOutOfMemory xs c.in_ok-output.output.clean text) c.as_slice.ensures.value c.in_ok-output.ensures)
    (subst (λ xs. WritesBeginning xs before after) c.as_bytes.ensures.value c.in_err-write_out.ensures.begun))
