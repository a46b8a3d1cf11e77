use Rattle.planus_read.specs.Slices.{slice_bytes, slice_start}
use Rattle.planus_verify.specs.Walks.{Walks}
use Rattle.planus_verify.proofs.Tables.{root_is}
use Rattle.planus_verify.proofs.root.root_passes.Goals as goal

pub returns-in-Some-clause-passed : goal.returns-in-Some-clause-passed
returns-in-Some-clause-passed g c = (
  c.in-Some.field-0,
  root_is (Walks g.K.VerifiedKind.schema c.args.limits.depth) g.K.VerifiedKind.index
      (slice_bytes c.new-buffer.result) c.args.bytes.now (slice_start c.new-buffer.result)
      c.in-Ok.table c.args.limits.tables _ c.new-buffer.ensures.bytes c.new-buffer.ensures.start
      c.in-Ok.ensures c.in-Some.ensures,
)
