use Rattle.std.proofs.Common.{sym, subst, ap, ◌∙◌, Result, Ok}
use Rattle.planus_read.specs.declared.located.Error.{Error}
use Rattle.planus.specs.ReadPlain.{IsPlainFieldOr}
use Rattle.planus.proofs.ReadPlain.{default_of, field_or_read}
use Rattle.planus.proofs.tables.read.plain_fields.plain_field_or.Goals as goal

pub returns-in-Ok : goal.returns-in-Ok
returns-in-Ok g c =
    subst
    (λ (r : Result g.row.T.Denot Error). IsPlainFieldOr g.T.Plain.shape c.args.default
    c.args.table.now c.args.slot c.args.type_.now c.args.method.now r)
    (ap (default_of c.args.default) c.in-Ok.is
    ∙ ap (λ (x : g.row.T.Denot). Ok x) (sym c.unwrap_or.ensures))
    (field_or_read g.T.Plain.shape c.args.default c.args.table.now c.args.slot c.args.type_.now
    c.args.method.now c.access.result c.access.ensures)

pub returns-in-Err : goal.returns-in-Err
returns-in-Err g c =
    subst
    (λ (r : Result g.row.T.Denot Error). IsPlainFieldOr g.T.Plain.shape c.args.default
    c.args.table.now c.args.slot c.args.type_.now c.args.method.now r)
    (ap (default_of c.args.default) c.in-Err.is)
    (field_or_read g.T.Plain.shape c.args.default c.args.table.now c.args.slot c.args.type_.now
    c.args.method.now c.access.result c.access.ensures)
