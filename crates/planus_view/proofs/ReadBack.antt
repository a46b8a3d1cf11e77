-- An encoded vector is returned as its vector.
use Rattle.std.proofs.Common.{◌≡◌, ℕ, ◌+◌, List, length, drop, ap, ◌∙◌, Result, Ok, Err}
use Rattle.std.specs.Prelude.{IsOkAnd}
use Rattle.std.proofs.lemmas.List.{drop-drop}
use Rattle.planus_read.specs.declared.errors.ErrorKind.{ErrorKind}
use Rattle.planus_read.specs.declared.plain.Plain.{Ghosts as PlainGhosts}
use Rattle.planus_read.specs.Clauses.{Answer, shown}
use Rattle.planus_read.specs.Reading.{Items, vector_reading}
use Rattle.planus_read.specs.ReadsBack.{ListReads, PlainReads, ReferenceReads}
use Rattle.planus_read.specs.Values.{plain_list, reference_list}
use Rattle.planus_read.specs.Stands.{at}
use Rattle.planus_read.proofs.ReadsBack.{what_stands_reads_back}
use Rattle.planus_view.specs.declared.vector.SliceView.{SliceView}
use Rattle.planus_view.specs.declared.vector_of.VectorOf.{VectorOf}
use Rattle.planus_view.specs.ReadBack.{IsVectorOf, PlainListsReadBack, ReferenceListsReadBack}
use Rattle.planus_view.specs.VectorView.{view_of, ShowsVector}
use Rattle.planus_view.specs.Views.{View}

module _ (T : Type 0) {S : Type 0} (kind : PlainGhosts S) where
  view_moves :
      (B : List ℕ) (start position count place n : ℕ) → start + position ≡ place → count ≡ n
      → (v : View)
      → v ≡ record { bytes = drop position (drop start B); start = start + position; count = count }
      → v ≡ record { bytes = drop place B; start = place; count = n }
  view_moves B start position count place n e c v h =
      let bytes : drop position (drop start B) ≡ drop place B =
      drop-drop position start B ∙ ap (λ k. drop k B) e in cc

  vector_of :
      {X : Type 0} (ItemReads : ℕ → ℕ → X → Type 0) (B : List ℕ) (k start f : ℕ) (items : List X)
      → ListReads ItemReads B k start f kind.SIZE items
      → (r : Result (VectorOf (SliceView T S kind)) ErrorKind)
      → Answer
      (shown (ShowsVector (drop start B) start) (vector_reading (drop start B) f kind.SIZE)) r
      → IsOkAnd r (IsVectorOf kind ItemReads B k items)
  vector_of ItemReads B k start f items reads (Ok v) h =
      let found : h.0 ≡ record { position = reads.position; count = length items } =
      reads.vector.alone h.0 h.1 in
      record {
        view = view_moves B start h.0.position h.0.count (k + 4) (length items)
            (ap (λ (l : Items). start + l.position) found ∙ reads.first)
            (ap (λ (l : Items). l.count) found) (view_of v) h.2;
        each = reads.each;
      }
  vector_of ItemReads B k start f items reads (Err e) h =
      absurd
      (let other : Err e ≡ Ok (record { position = reads.position; count = length items }) =
      reads.vector.only (Err e) h in cc)

  pub plain_lists : PlainListsReadBack T kind
  plain_lists alignment B k start f items stands leads r h =
      vector_of (λ s p item. PlainReads (drop s B) p item) B k start f items
      (what_stands_reads_back B (at k) (plain_list kind.SIZE alignment items) tt stands start f
      leads) r h

  pub reference_lists : ReferenceListsReadBack T kind
  reference_lists e B k start f items stands leads r h =
      vector_of (ReferenceReads B) B k start f items
      (rw e (what_stands_reads_back B (at k) (reference_list items) tt stands start f leads)) r h
