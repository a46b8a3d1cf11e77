use Rattle.std.proofs.Common.{◌∙◌}
use Rattle.planus_tie.proofs.Tied.{viewed_by}
use Rattle.planus_tie.proofs.views.is_view_tied.Goals as goal

pub returns : goal.returns
returns c = viewed_by c.args.naming.now c.args.ranks.now c.args.totals.now c.args.index
    c.args.table.now c.args.text.now c.deref.result.now c.in_ok-plan.plan c.is_plan_viewed.result
    c.in_ok-plan.ensures (c.deref.ensures.value ∙ c.in_ok-without.ensures)
    c.is_plan_viewed.ensures
