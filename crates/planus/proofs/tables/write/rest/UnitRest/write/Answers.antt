use Rattle.std.proofs.Common.{◌++◌, sym, subst}
use Rattle.planus.specs.Preparing.{AnswersFields}
use Rattle.planus.proofs.FieldSteps.{all_in_order, answered}
use Rattle.planus.proofs.tables.write.rest.UnitRest.write.Goals as goal

pub returns-clause-written : goal.returns-clause-written
returns-clause-written g c = λ ts ls same same_last.
    answered (ts ++ ls) c.args.builder.now c.write_table.result c.write_table.new.builder
    (subst (λ fields. AnswersFields fields c.args.builder.now c.write_table.result c.write_table.new.builder)
    (sym (all_in_order ts ls _ _ same same_last)) c.write_table.ensures.written)
