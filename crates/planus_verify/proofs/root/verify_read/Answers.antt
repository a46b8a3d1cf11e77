use Rattle.std.proofs.Common.{Ok, Err}
use Rattle.planus_read.specs.Tables.{table_object, table_slots, table_start}
use Rattle.planus_verify.specs.Schemas.{shapes}
use Rattle.planus_verify.specs.Walks.{Walks}
use Rattle.planus_verify.proofs.Passing.{of_kind}
use Rattle.planus_verify.proofs.root.verify_read.Goals as goal

pub returns-in-Ok-clause-passed : goal.returns-in-Ok-clause-passed
returns-in-Ok-clause-passed g c = (
  c.in-Ok.field-0,
  of_kind
      (λ s k. Walks s c.args.limits.depth k (table_object c.args.table) (table_slots c.args.table)
      (table_start c.args.table) c.args.limits.tables (Ok c.in-Ok.field-0))
      (shapes c.schema.result) g.K.VerifiedKind.schema c.index.result g.K.VerifiedKind.index
      c.schema.ensures c.index.ensures c.in-Ok.ensures,
)

pub returns-in-Err-clause-fault : goal.returns-in-Err-clause-fault
returns-in-Err-clause-fault g c =
    of_kind
    (λ s k. Walks s c.args.limits.depth k (table_object c.args.table) (table_slots c.args.table)
    (table_start c.args.table) c.args.limits.tables (Err c.in-Err.fault))
    (shapes c.schema.result) g.K.VerifiedKind.schema c.index.result g.K.VerifiedKind.index
    c.schema.ensures c.index.ensures c.in-Err.ensures
