use Rattle.std.proofs.Common.{None, Result, Ok, Err, inl, inr}
use Rattle.std.specs.Prelude.{IfErr}
use Rattle.std.proofs.lemmas.Result.{err_from_is_err_and}
use Rattle.planus.proofs.FieldLines.{written_reads_back}
use Rattle.planus.proofs.printed.create.Create.read_back.Goals as goal

-- of an error more is known
if_error : {T E : Type 0} {P Q : E → Type 0} (r : Result T E) → ((e : E) → P e → Q e) → IfErr r P
    → IfErr r Q
if_error (Ok x) more holds = tt
if_error (Err e) more holds = more e holds

pub returns-clause-read : goal.returns-clause-read
returns-clause-read g c =
    written_reads_back g.V.TableView.table _ _ _ _ None _ c.finish_and_read.ensures.read
    c.has_a_history.ensures c.in_ok-root.ensures.kept c.in_ok-root.ensures.apart

pub returns-clause-error : goal.returns-clause-error
returns-clause-error g c =
    if_error c.finish_and_read.result
    (λ error refused. (
      refused.0,
      inr (c.in_ok-root.root, c.create.new.builder, c.in_ok-root.ensures.written, refused.1),
    ))
    c.finish_and_read.ensures.error

pub returns-in_err-root-clause-error : goal.returns-in_err-root-clause-error
returns-in_err-root-clause-error g c =
    let p = err_from_is_err_and c.from_residual.result c.from_residual.ensures.1 in
    rw (p.1, p.2) (c.create.new.builder, inl (c.in_err-root.ensures.written))
