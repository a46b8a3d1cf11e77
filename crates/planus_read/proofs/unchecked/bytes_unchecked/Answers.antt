use Rattle.std.proofs.Common.{take, drop, ap, ◌∙◌}
use Rattle.planus_read.specs.Slices.{slice_bytes}
use Rattle.planus_read.specs.Reading.{items_at, count_at}
use Rattle.planus_read.proofs.Reading.{byte_list_there}
use Rattle.planus_read.proofs.unchecked.bytes_unchecked.Goals as goal

pub returns : goal.returns
returns c =
    let S = slice_bytes c.args.buffer in let f = c.args.offset in
    let head = c.array_unchecked-count.ensures in
    let items = drop (items_at S f) S in (
      take (count_at S f) items,
      byte_list_there S f c.requires,
      ap (take c.array_unchecked-count.result.1) (c.as_slice-items.ensures ∙ head.bytes)
          ∙ ap (λ n. take n items) head.count,
    )
