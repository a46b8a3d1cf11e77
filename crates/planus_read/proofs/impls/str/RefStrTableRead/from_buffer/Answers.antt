use Rattle.planus_read.specs.Slices.{slice_bytes, slice_start}
use Rattle.planus_read.proofs.Reading.{text_answer}
use Rattle.planus_read.proofs.impls.str.RefStrTableRead.from_buffer.Goals as goal

pub returns : goal.returns
returns c =
    text_answer (slice_bytes c.args.buffer)
    (slice_start c.args.buffer) c.args.offset c.in_ok-items.count c.in_ok-items.items
    c.as_slice.result.now c.text_of.result c.in_ok-items.ensures c.as_slice.ensures
    c.text_of.ensures.text c.text_of.ensures.error
