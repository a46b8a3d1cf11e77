-- The items of a vector that was read.
use Rattle.std.proofs.Common.{◌≡◌, ℕ, ◌+◌, ◌*◌, ◌<◌, List, drop, subst, sym, ap, ◌∙◌, Ok}
use Rattle.planus_read.specs.Clauses.{Answer, shown}
use Rattle.planus_read.specs.Reading.{vector_reading, items_at, count_at}
use Rattle.planus_read.specs.declared.plain.Plain.{Ghosts as PlainGhosts}
use Rattle.planus_read.proofs.Reading.{vector_holds}
use Rattle.planus_view.specs.VectorView.{view_of, count_of, ShowsVector}
use Rattle.planus_view.specs.Views.{View}
use Rattle.planus_view.specs.declared.vector.SliceView.{SliceView}
use Rattle.planus_view.specs.declared.vector_of.VectorOf.{VectorOf}
use Rattle.planus_views.specs.Fields.{EachHolds}

module _ {T R : Type 0} {kind : PlainGhosts R} where
  pub items_held :
      (Holds : List ℕ → ℕ → Type 0) (S : List ℕ) (start f : ℕ) (vector : VectorOf (SliceView T R kind))
      → Answer (shown (ShowsVector S start) (vector_reading S f 4)) (Ok vector)
      → EachHolds Holds S f → (i : ℕ) → i < count_of vector → Holds (view_of vector).bytes (i * 4)
  items_held Holds S start f vector answer each i below =
      let items = answer.0 in
      let h = vector_holds S f 4 items.position items.count answer.1 in
      let bytes : (view_of vector).bytes ≡ drop (items_at S f) S =
      ap (λ (v : View). v.bytes) answer.2 ∙ ap (λ k. drop k S) h.1 in
      let count : count_of vector ≡ count_at S f = ap (λ (v : View). v.count) answer.2 ∙ h.2 in
      subst (λ l. Holds l (i * 4)) (sym bytes) (each.1 i (subst (λ n. i < n) count below))

  -- where the items begin
  pub items_begin :
      (S : List ℕ) (start f : ℕ) (vector : VectorOf (SliceView T R kind))
      → Answer (shown (ShowsVector S start) (vector_reading S f 4)) (Ok vector)
      → (view_of vector).start ≡ start + items_at S f
  items_begin S start f vector answer =
      let items = answer.0 in
      let h = vector_holds S f 4 items.position items.count answer.1 in
      ap (λ (v : View). v.start) answer.2 ∙ ap (λ k. start + k) h.1
