use Rattle.planus.proofs.FinishedTables.{finishes_keep_tables, sized_finishes_keep_tables}
use Rattle.planus.proofs.laws.finishes_keep_tables.Goals as goal

pub returns-clause-root_first : goal.returns-clause-root_first
returns-clause-root_first g c =
    finishes_keep_tables g.X.WriteAsOffset.may g.X.WriteAsOffset.outcome
    (g.met.X.WriteAsOffset).is_lawful

pub returns-clause-size_first : goal.returns-clause-size_first
returns-clause-size_first g c =
    sized_finishes_keep_tables g.X.WriteAsOffset.may g.X.WriteAsOffset.outcome
    (g.met.X.WriteAsOffset).is_lawful
