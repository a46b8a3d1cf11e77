-- The ranges of each kind are those of the table.
use Rattle.std.proofs.Common.{◌≡◌, ℕ, ◌+◌, ◌*◌, ◌/◌, ◌%◌, ◌<◌, List, length, slice_get, Some, ap}
use Rattle.std.proofs.Common.{◌∙◌}
use Rattle.std.proofs.lemmas.Nat.{div-add-mod'}
use Rattle.std.proofs.lemmas.Option.{slice_get_within}
use Rattle.planus_view.proofs.RangeLists.{chunks_at, rchunks_at, chunks_exact_at, rchunks_exact_at}
use Rattle.planus_view.proofs.RangeLists.{windows_at, chunks_one, rchunks_one, chunks_exact_one}
use Rattle.planus_view.proofs.RangeLists.{rchunks_exact_one, windows_one, chunks_exact_count}
use Rattle.planus_view.proofs.RangeLists.{rchunks_exact_count}
use Rattle.planus_view.specs.Laws.{TableHolds, AreRanges}

ranges_are :
    (R : List (ℕ × ℕ)) (Holds : ℕ → Type 0) (range : ℕ → ℕ × ℕ)
    → ((i : ℕ) → i < length R → (slice_get R i ≡ Some (range i)) × Holds i)
    → ((i : ℕ) → Holds i → i < length R)
    → AreRanges R Holds range
ranges_are R Holds range at one = record {
  there = λ i h. (at i (one i h)).0;
  no_other = λ i r e. (at i (slice_get_within R i r e)).1;
}

pub table_holds : TableHolds
table_holds n c p = record {
  chunks_are = ranges_are _ _ _ (λ i. chunks_at n c i p) (λ i. chunks_one n c i p);
  rchunks_are = ranges_are _ _ _ (λ i. rchunks_at n c i p) (λ i. rchunks_one n c i p);
  chunks_exact_are =
      ranges_are _ _ _ (λ i. chunks_exact_at n c i p) (λ i. chunks_exact_one n c i p);
  rchunks_exact_are =
      ranges_are _ _ _ (λ i. rchunks_exact_at n c i p) (λ i. rchunks_exact_one n c i p);
  windows_are = ranges_are _ _ _ (λ i. windows_at n c i p) (λ i. windows_one n c i p);
  exact_whole = ap (λ k. k * c + n % c) (chunks_exact_count n c p) ∙ whole;
  rexact_whole = ap (λ k. k * c + n % c) (rchunks_exact_count n c p) ∙ whole;
}
  where
    whole : n / c * c + n % c ≡ n
    whole = div-add-mod' n c
