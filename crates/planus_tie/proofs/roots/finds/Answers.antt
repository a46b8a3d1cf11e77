use Rattle.planus_tie.proofs.Tied.{then_tested}
use Rattle.planus_tie.proofs.roots.finds.Goals as goal

pub returns : goal.returns
returns c = then_tested c.has_function-2.result c.in_ok-has_function.field-0 _ _
    c.in_ok-has_function.ensures c.if-not-branch.false c.has_function-2.ensures
