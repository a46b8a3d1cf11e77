use Rattle.std.proofs.Common.{Ok}
use Rattle.planus_read.specs.Tables.{table_object, table_slots, table_start}
use Rattle.planus_verify.specs.Passes.{entered_table, entered_depth, field_of}
use Rattle.planus_verify.specs.Schemas.{shapes}
use Rattle.planus_verify.specs.Steps.{field_steps}
use Rattle.planus_verify.specs.Walks.{InOrder, Walks}
use Rattle.planus_verify.proofs.Passing.{of_kind}
use Rattle.planus_verify.proofs.entered.Entered.walked.Goals as goal

pub returns-in-Ok : goal.returns-in-Ok
returns-in-Ok g c =
    let table = entered_table c.args.self.now in
    of_kind
    (λ s k. InOrder (Walks s (entered_depth c.args.self.now)) (field_steps s.variants k
    (table_object table) (table_slots table) (table_start table) (field_of c.args.slot
    c.args.required c.args.kind)) c.args.left (Ok c.in-Ok.rest))
    (shapes c.schema.result) g.K.VerifiedKind.schema c.index.result g.K.VerifiedKind.index
    c.schema.ensures c.index.ensures c.in-Ok.ensures
