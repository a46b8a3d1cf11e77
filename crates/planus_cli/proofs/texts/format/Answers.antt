use Rattle.std.proofs.Common.{subst, sym, ◌∙◌, inl}
use Rattle.std.proofs.KnownBytes.{Keeps-refl}
use Rattle.std.proofs.lemmas.Result.{err_from_is_err_and}
use Rattle.planus_dump.specs.Writing.{WritesBeginning}
use Rattle.planus_cli.specs.declared.streams.CallError.{CallError}
use Rattle.planus_cli.specs.SchemaTexts.{FailsPrinting, IsFormatted}
use Rattle.planus_cli.proofs.texts.format.Goals as goal

pub returns-in_err-write_out-in-Text-clause-failed : goal.returns-in_err-write_out-in-Text-clause-failed
returns-in_err-write_out-in-Text-clause-failed g c =
    let name = c.args.name.now in
    let text = c.args.text.now in
    let before = g.W.Write.contents c.args.writer.now in
    let after = g.W.Write.contents c.write_out.new.writer in
    let unsaid = g.X.Write.contents c.args.errors.now in
    let formats = subst (IsFormatted name text) c.in-Text.is c.in_ok-out.ensures.formatted in
    let begun = subst (λ bytes. WritesBeginning bytes before after) c.deref.ensures.value c.in_err-write_out-in-Text.ensures.begun in
    let p = err_from_is_err_and c.from_residual-in_err-write_out-in-Text.result c.from_residual-in_err-write_out-in-Text.ensures.1 in
    rw p.1 (subst (λ (e : CallError). FailsPrinting name text e before after unsaid unsaid) (sym (p.2 ∙ c.in_err-write_out-in-Text.ensures.error))
    (inl (c.in-Text.out.items, formats, begun, Keeps-refl unsaid)))
