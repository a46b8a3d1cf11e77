use Rattle.std.proofs.Common.{◌≡◌, ◌+◌, drop, ap, ◌∙◌}
use Rattle.std.specs.Int.{w32}
use Rattle.planus_read.specs.Slices.{slice_bytes, slice_start}
use Rattle.planus_read.specs.Reading.{target, slots_of}
use Rattle.planus_read.proofs.Reading.{table_answer, num_value}
use Rattle.planus_read.proofs.table_reader.Table.from_buffer_unchecked.Goals as goal

pub returns : goal.returns
returns c =
    let S = slice_bytes c.args.buffer in let f = c.args.offset in
    let to : f + c.from_buffer-value.result ≡ target S f =
    ap (λ n. f + n) (num_value S f w32 c.from_buffer-value.result c.from_buffer-value.ensures) in
    let slice = c.unchecked_advance-object.ensures in
    table_answer S (slice_start c.args.buffer) f _ c.requires
    (slice.bytes ∙ ap (λ o. drop o S) to)
    (slice.start ∙ ap (λ o. slice_start c.args.buffer + o) to)
    (c.vtable_unchecked-vtable.ensures.slots ∙ ap (slots_of S) to)
