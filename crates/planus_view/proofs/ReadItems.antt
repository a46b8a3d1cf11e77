-- The items of a vector that was found.
use Rattle.std.proofs.Common.{◌≡◌, ℕ, ◌+◌, ◌-◌, ◌*◌, ◌≤◌, List, length, arith, ap, subst, refl, sym, ◌∙◌, inl, inr}
use Rattle.std.specs.Int.{w32}
use Rattle.std.proofs.lemmas.List.{length-drop}
use Rattle.planus_read.proofs.Reading.{num_inside, vector_holds}
use Rattle.planus_read.specs.Clauses.{FirstBroken}
use Rattle.planus_read.specs.Heads.{ShowsItems}
use Rattle.planus_read.specs.Slices.{slice_bytes}
use Rattle.planus_read.specs.Reading.{Items, HeadThere, VectorThere, items_at, count_at}
use Rattle.planus_read.specs.Reading.{union_vector_clauses}
use Rattle.planus_read.specs.declared.errors.ErrorKind.TheVariants.{UnionVectorLengthsMismatched}
use Rattle.planus_read.specs.declared.slice_helpers.SliceWithStartOffset.{SliceWithStartOffset}

pub vector_there : (S : List ℕ) (start f stride : ℕ) (items : Items) (head : SliceWithStartOffset × ℕ)
    → HeadThere S f items.position items.count → ShowsItems S start items head
    → head.1 * stride ≤ length (slice_bytes head.0) → VectorThere S f stride items.position items.count
vector_there S start f stride items head there shows fits =
    let word : there.begin + 4 ≤ length S = num_inside S there.begin w32 items.count there.word in
    let behind = there.behind in
    let rest : length (slice_bytes head.0) ≡ length S - items.position =
    ap length shows.bytes ∙ length-drop items.position S in
    let all : items.count * stride ≤ length (slice_bytes head.0) =
    subst (λ n. n * stride ≤ length (slice_bytes head.0)) shows.counted fits in
    record { head = there; inside = omega (arith, word, behind, rest, all) }

pub counts_differ : (S : List ℕ) (f g tags tag_count values value_count : ℕ) → VectorThere S f 1 tags tag_count
    → VectorThere S g 4 values value_count → (tag_count ≡ value_count → ⊥)
    → FirstBroken (union_vector_clauses S f g) (UnionVectorLengthsMismatched tag_count value_count)
counts_differ S f g tags tag_count values value_count there also differ =
    let first = vector_holds S f 1 tags tag_count there in
    let second = vector_holds S g 4 values value_count also in
    let fits : items_at S f + count_at S f ≤ length S =
    let fits : items_at S f + count_at S f * 1 ≤ length S = first.0.1.1.1.0 in omega (arith, fits) in
    rw (first.2, second.2)
    (inr (
      first.0.0,
      inr (
        first.0.1.0,
        inr (
          first.0.1.1.0,
          inr (
            second.0.0,
            inr (
              second.0.1.0,
              inr (
                second.0.1.1.0,
                inr (
                  fits,
                  inr (
                    second.0.1.1.1.0,
                    inl (λ same. differ (first.2 ∙ same ∙ sym second.2), refl),
                  ),
                ),
              ),
            ),
          ),
        ),
      ),
    ))
