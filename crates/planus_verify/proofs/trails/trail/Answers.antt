use Rattle.std.proofs.Common.{inl, inr}
use Rattle.planus_read.specs.Slices.{slice_bytes, slice_start}
use Rattle.planus_verify.specs.Schemas.{shapes}
use Rattle.planus_verify.specs.Soughts.{ends_of}
use Rattle.planus_verify.proofs.RootTrails.{root_none, root_many, root_memory, root_found}
use Rattle.planus_verify.proofs.trails.trail.Goals as goal

pub returns-in-Ok-search_table-clause-none : goal.returns-in-Ok-search_table-clause-none
returns-in-Ok-search_table-clause-none c =
    inl (root_none (shapes c.args.schema.now) (ends_of (shapes c.args.schema.now) c.args.sought) c.args.limits.depth c.args.index
    (slice_bytes c.new-buffer.result) c.args.bytes.now (slice_start c.new-buffer.result)
    c.new-buffer.ensures.bytes c.new-buffer.ensures.start c.in-Ok.table c.in-Ok.ensures
    c.args.limits.tables
    c.in-Ok-search_table.field-0 c.in-Ok-search_table.ensures)

pub returns-in-Err-TooMany-clause-none : goal.returns-in-Err-TooMany-clause-none
returns-in-Err-TooMany-clause-none c =
    inr (root_many (shapes c.args.schema.now) (ends_of (shapes c.args.schema.now) c.args.sought) c.args.limits.depth c.args.index
    (slice_bytes c.new-buffer.result) c.args.bytes.now (slice_start c.new-buffer.result)
    c.new-buffer.ensures.bytes c.new-buffer.ensures.start c.in-Ok.table c.in-Ok.ensures
    c.args.limits.tables
    c.in-Err-TooMany.field-0 c.in-Err-TooMany.field-0-is c.in-Err-TooMany.ensures)

pub returns-in-Err-NoMemory-clause-memory : goal.returns-in-Err-NoMemory-clause-memory
returns-in-Err-NoMemory-clause-memory c =
    root_memory (shapes c.args.schema.now) (ends_of (shapes c.args.schema.now) c.args.sought) c.args.limits.depth c.args.index
    (slice_bytes c.new-buffer.result) c.args.bytes.now (slice_start c.new-buffer.result)
    c.new-buffer.ensures.bytes c.new-buffer.ensures.start c.in-Ok.table c.in-Ok.ensures
    c.args.limits.tables
    c.in-Err-NoMemory.field-0 c.in-Err-NoMemory.field-0-is c.in-Err-NoMemory.ensures

pub returns-in-Err-Found-clause-found : goal.returns-in-Err-Found-clause-found
returns-in-Err-Found-clause-found c =
    root_found (shapes c.args.schema.now) (ends_of (shapes c.args.schema.now) c.args.sought) c.args.limits.depth c.args.index
    (slice_bytes c.new-buffer.result) c.args.bytes.now (slice_start c.new-buffer.result)
    c.new-buffer.ensures.bytes c.new-buffer.ensures.start c.in-Ok.table c.in-Ok.ensures
    c.args.limits.tables
    c.in-Err-Found.field-0 c.in-Err-Found.trail _ c.in-Err-Found.field-0-is
    c.reverse.ensures.items c.in-Err-Found.ensures
