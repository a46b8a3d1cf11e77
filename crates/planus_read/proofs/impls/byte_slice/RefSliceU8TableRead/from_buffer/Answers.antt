use Rattle.std.proofs.Common.{◌≡◌, ℕ, ◌≤◌, List, length, drop, refl, ap, ◌∙◌, inl, inr, arith}
use Rattle.std.proofs.Common.{length-drop}
use Rattle.planus_read.specs.Slices.{slice_bytes, slice_start}
use Rattle.planus_read.specs.Reading.{items_at, count_at}
use Rattle.planus_read.proofs.Reading.{HeadFacts, head_facts, byte_list_answer}
use Rattle.planus_read.proofs.impls.byte_slice.RefSliceU8TableRead.from_buffer.Goals as goal

pub returns-then-count-items : goal.returns-then-count-items
returns-then-count-items c =
    let S : List ℕ = slice_bytes c.args.buffer in let f : ℕ = c.args.offset in
    let head = c.in_ok-items.ensures in
    let facts : HeadFacts S f head.0.position head.0.count =
    head_facts S f head.0.position head.0.count head.1 in
    let behind : c.as_slice-items.result.now ≡ drop (items_at S f) S =
    c.as_slice-items.ensures ∙ head.2.bytes ∙ ap (λ k. drop k S) facts.position_is in
    let counted : c.in_ok-items.count ≡ count_at S f = head.2.counted ∙ facts.count_is in
    inr (
      facts.reference,
      inr (
        facts.inside,
        inr (
          facts.word,
          inl (
            λ fits. omega
                (arith, c.if-count-items.true, ap length behind, length-drop (items_at S f) S),
            refl,
          ),
        ),
      ),
    )

pub returns : goal.returns
returns c =
    let within : c.in_ok-items.count ≤ length c.as_slice-items.result.now =
    omega (arith, c.if-count-items.false) in
    byte_list_answer (slice_bytes c.args.buffer)
    (slice_start c.args.buffer) c.args.offset c.in_ok-items.count c.in_ok-items.items
    c.as_slice-items.result.now c.in_ok-items.ensures c.as_slice-items.ensures within
