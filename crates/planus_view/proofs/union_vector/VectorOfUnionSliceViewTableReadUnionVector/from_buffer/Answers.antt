use Rattle.std.proofs.Common.{◌≡◌, ℕ, ◌+◌, ◌-◌, ◌*◌, ◌≤◌, List, length, refl, ap, sym, subst, ◌∙◌}
use Rattle.std.proofs.Common.{inl, inr, arith, length-drop}
use Rattle.planus_read.specs.Clauses.{FirstBroken}
use Rattle.planus_read.specs.Slices.{slice_bytes, slice_start}
use Rattle.planus_read.specs.Reading.{VectorThere, items_at, count_at, union_vector_clauses}
use Rattle.planus_read.specs.declared.errors.ErrorKind.TheVariants.{InvalidLength}
use Rattle.planus_read.proofs.Reading.{HeadFacts, head_facts}
use Rattle.planus_view.proofs.ReadItems.{vector_there, counts_differ}
use Rattle.planus_view.proofs.union_vector.VectorOfUnionSliceViewTableReadUnionVector.from_buffer.Goals as goal
use Rattle.planus_view.proofs.union_vector.VectorOfUnionSliceViewTableReadUnionVector.from_buffer.Goals.{
  then-tags_len-len-via-then-tags_len-len,
  then-tags_len-len-via-else-tags_len-len+then-values_len-len,
}

tags_too_long :
    (S : List ℕ) (f g : ℕ) {p n q m : ℕ} → HeadFacts S f p n → HeadFacts S g q m
    → (items_at S f + count_at S f ≤ length S → ⊥)
    → FirstBroken (union_vector_clauses S f g) InvalidLength
tags_too_long S f g a b outside =
    inr (
      a.reference,
      inr (
        a.inside,
        inr (
          a.word,
          inr (b.reference, inr (b.inside, inr (b.word, inl (outside, refl)))),
        ),
      ),
    )

references_too_long :
    (S : List ℕ) (f g : ℕ) {p n q m : ℕ} → HeadFacts S f p n → HeadFacts S g q m
    → items_at S f + count_at S f ≤ length S → (items_at S g + count_at S g * 4 ≤ length S → ⊥)
    → FirstBroken (union_vector_clauses S f g) InvalidLength
references_too_long S f g a b inside outside =
    inr (
      a.reference,
      inr (
        a.inside,
        inr (
          a.word,
          inr (b.reference, inr (b.inside, inr (b.word, inr (inside, inl (outside, refl))))),
        ),
      ),
    )

pub returns : goal.returns
returns g c =
    let S = slice_bytes c.args.buffer in
    let start = slice_start c.args.buffer in
    let tags = c.in_ok-tags.ensures in
    let values = c.in_ok-values.ensures in
    let tags_fit : c.in_ok-tags.tags_count * 1 ≤ length (slice_bytes c.in_ok-tags.tags) =
    let n = c.if-tags_len-len.false in let m = c.len.ensures in omega (arith, n, m) in
    let values_fit : c.in_ok-values.values_count * 4 ≤ length (slice_bytes c.in_ok-values.values) =
    let n = c.if-values_len-len.false in let m = c.len-else-tags_len-len.ensures in
    omega (arith, n, m) in
    let same : values.0.count ≡ tags.0.count =
    sym values.2.counted ∙ sym c.if-tags_len-values_len.false ∙ tags.2.counted in (
      record { tags = tags.0.position; references = values.0.position; count = tags.0.count },
      record {
        tags_there = vector_there S start c.args.tags_offset 1 tags.0
            (c.in_ok-tags.tags, c.in_ok-tags.tags_count) tags.1 tags.2 tags_fit;
        references_there = subst (VectorThere S c.args.values_offset 4 values.0.position) same
            (vector_there S start c.args.values_offset 4 values.0
            (c.in_ok-values.values, c.in_ok-values.values_count) values.1 values.2 values_fit);
      },
      (let bytes = tags.2.bytes in let references = values.2.bytes in let begin = values.2.begin in
          let counted = tags.2.counted in cc),
    )

pub returns-then-tags_len-values_len : goal.returns-then-tags_len-values_len
returns-then-tags_len-values_len g c =
    let S = slice_bytes c.args.buffer in
    let start = slice_start c.args.buffer in
    let tags = c.in_ok-tags.ensures in
    let values = c.in_ok-values.ensures in
    let tags_fit : c.in_ok-tags.tags_count * 1 ≤ length (slice_bytes c.in_ok-tags.tags) =
    let n = c.if-tags_len-len.false in let m = c.len.ensures in omega (arith, n, m) in
    let values_fit : c.in_ok-values.values_count * 4 ≤ length (slice_bytes c.in_ok-values.values) =
    let n = c.if-values_len-len.false in let m = c.len-else-tags_len-len.ensures in
    omega (arith, n, m) in
    rw (tags.2.counted, values.2.counted)
    (counts_differ S c.args.tags_offset c.args.values_offset
    tags.0.position tags.0.count values.0.position values.0.count
    (vector_there S start c.args.tags_offset 1 tags.0
    (c.in_ok-tags.tags, c.in_ok-tags.tags_count) tags.1 tags.2 tags_fit)
    (vector_there S start c.args.values_offset 4 values.0
    (c.in_ok-values.values, c.in_ok-values.values_count) values.1 values.2 values_fit)
    (λ same. c.if-tags_len-values_len.true (tags.2.counted ∙ same ∙ sym values.2.counted)))

pub returns-then-tags_len-len : goal.returns-then-tags_len-len
returns-then-tags_len-len g c =
    let S = slice_bytes c.args.buffer in
    let tags = c.in_ok-tags.ensures in
    let values = c.in_ok-values.ensures in
    let tags_at : HeadFacts S c.args.tags_offset tags.0.position tags.0.count =
    head_facts S c.args.tags_offset tags.0.position tags.0.count tags.1 in
    let values_at : HeadFacts S c.args.values_offset values.0.position values.0.count =
    head_facts S c.args.values_offset values.0.position values.0.count values.1 in
    let tags_rest = ap length tags.2.bytes ∙ length-drop tags.0.position S
    ∙ ap (λ k. length S - k) tags_at.position_is in
    let values_rest = ap length values.2.bytes ∙ length-drop values.0.position S
    ∙ ap (λ k. length S - k) values_at.position_is in
    let tags_count = tags.2.counted ∙ tags_at.count_is in
    let values_count = values.2.counted ∙ values_at.count_is in
    elim c.then-tags_len-len.branch as (λ _.
    FirstBroken (union_vector_clauses S c.args.tags_offset c.args.values_offset) InvalidLength) [
      | then-tags_len-len-via-then-tags_len-len w ↦
          tags_too_long S c.args.tags_offset c.args.values_offset tags_at values_at
          (λ fits. omega (arith, fits, w.if-tags_len-len.true, c.len.ensures, tags_rest, tags_count))
      | then-tags_len-len-via-else-tags_len-len+then-values_len-len w ↦
          references_too_long S c.args.tags_offset c.args.values_offset tags_at values_at
          (omega (arith, tags_at.word, w.if-tags_len-len.false, c.len.ensures, tags_rest, tags_count))
          (λ fits. let n = w.len-else-tags_len-len.ensures in
          omega (arith, fits, w.if-values_len-len.true, n, values_rest, values_count))
    ]
