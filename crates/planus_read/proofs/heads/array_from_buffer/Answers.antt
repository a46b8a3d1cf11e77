use Rattle.std.proofs.Common.{◌≡◌, ℕ, ◌+◌, ◌≤◌, List, length, drop, ap, subst, ◌∙◌}
use Rattle.std.specs.Int.{w32, byte_len}
use Rattle.planus_read.specs.Slices.{slice_bytes, slice_start}
use Rattle.planus_read.specs.Reading.{Items, number, target, items_at, count_at}
use Rattle.planus_read.proofs.Reading.{head_there, num_inside, num_value}
use Rattle.planus_read.proofs.heads.array_from_buffer.Goals as goal

pub returns : goal.returns
returns c =
    let S : List ℕ = slice_bytes c.args.buffer in let f : ℕ = c.args.offset in
    let begin : ℕ = f + c.in_ok-value.value in
    let to : begin ≡ target S f =
    ap (λ n. f + n) (num_value S f w32 c.in_ok-value.value c.in_ok-value.ensures) in
    let word : target S f + byte_len w32 ≤ length S =
    subst (λ k. k + byte_len w32 ≤ length S) to
    (num_inside S begin w32 c.in_ok-count.count c.in_ok-count.ensures) in
    let items : Items = record { position = items_at S f; count = count_at S f } in
    let slice = c.unchecked_advance-items.ensures in (
      items,
      head_there S f (num_inside S f w32 c.in_ok-value.value c.in_ok-value.ensures) word,
      record {
        bytes = slice.bytes ∙ ap (λ k. drop (k + 4) S) to;
        begin = slice.start ∙ ap (λ k. slice_start c.args.buffer + (k + 4)) to;
        counted = num_value S begin w32 c.in_ok-count.count c.in_ok-count.ensures
            ∙ ap (λ k. number S k w32) to;
      },
    )
