use Rattle.std.proofs.Common.{◌∙◌}
use Rattle.planus_tie.proofs.Tied.{tied_by}
use Rattle.planus_tie.proofs.tie.is_table_tied.Goals as goal

pub returns : goal.returns
returns c = tied_by c.args.naming.now c.args.index c.args.table.now c.args.text.now
    c.deref-3.result.now c.deref-2.result.now c.in_ok-plan.plan c.is_plan_tied.result
    c.in_ok-plan.ensures (c.deref-3.ensures.value ∙ c.in_ok-without.ensures)
    c.is_plan_tied.ensures
