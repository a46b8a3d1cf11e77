use Rattle.std.proofs.Common.{◌≡◌, rules, Err}
use Rattle.planus_read.specs.Slices.{slice_bytes, slice_start}
use Rattle.planus_verify.specs.Schemas.{shapes}
use Rattle.planus_verify.specs.Walks.{Walks}
use Rattle.planus_verify.proofs.Tables.{root_is, no_root}
use Rattle.planus_verify.proofs.root.verify.Goals as goal

pub returns-in-Err-clause-fault : goal.returns-in-Err-clause-fault
returns-in-Err-clause-fault c =
    no_root (Walks (shapes c.args.schema.now) c.args.limits.depth) c.args.index
    (slice_bytes c.new-buffer.result) c.args.bytes.now c.args.limits.tables c.in-Err.kind
    c.new-buffer.ensures.bytes c.in-Err.ensures

pub returns-in_err-verify_table-clause-fault : goal.returns-in_err-verify_table-clause-fault
returns-in_err-verify_table-clause-fault c =
    let found = c.in_err-verify_table.field-0.0 in
    let same : c.from_residual.result ≡ Err found = search rules in
    rw same
    (root_is (Walks (shapes c.args.schema.now) c.args.limits.depth) c.args.index
    (slice_bytes c.new-buffer.result) c.args.bytes.now (slice_start c.new-buffer.result)
    c.in-Ok.table c.args.limits.tables (Err found) c.new-buffer.ensures.bytes
    c.new-buffer.ensures.start c.in-Ok.ensures c.in_err-verify_table.ensures)

pub returns-clause-passed : goal.returns-clause-passed
returns-clause-passed c = (
  c.in_ok-verify_table.field-0,
  root_is (Walks (shapes c.args.schema.now) c.args.limits.depth) c.args.index
      (slice_bytes c.new-buffer.result) c.args.bytes.now (slice_start c.new-buffer.result)
      c.in-Ok.table c.args.limits.tables _ c.new-buffer.ensures.bytes c.new-buffer.ensures.start
      c.in-Ok.ensures c.in_ok-verify_table.ensures,
)
