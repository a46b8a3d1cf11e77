use Rattle.std.proofs.Common.{ℕ, Ok, Err, IfOk, IfErr}
use Rattle.planus_verify.specs.Schemas.{shapes}
use Rattle.planus_verify.specs.Walks.{RootWalks}
use Rattle.planus_verify.proofs.Passing.{of_kind}
use Rattle.planus_verify.proofs.root.verify_kind.Goals as goal

pub returns-clause-passed : goal.returns-clause-passed
returns-clause-passed g c =
    of_kind
    (λ s k. IfOk c.verify.result (λ table. (left : ℕ) × RootWalks s k c.args.limits.depth
    c.args.limits.tables c.args.bytes.now (Ok left)))
    (shapes c.schema.result) g.K.VerifiedKind.schema c.index.result g.K.VerifiedKind.index
    c.schema.ensures c.index.ensures c.verify.ensures.passed

pub returns-clause-fault : goal.returns-clause-fault
returns-clause-fault g c =
    of_kind
    (λ s k. IfErr c.verify.result (λ found. RootWalks s k c.args.limits.depth c.args.limits.tables
    c.args.bytes.now (Err found)))
    (shapes c.schema.result) g.K.VerifiedKind.schema c.index.result g.K.VerifiedKind.index
    c.schema.ensures c.index.ensures c.verify.ensures.fault
