-- An encoded union vector is returned.
use Rattle.std.proofs.Common.{◌≡◌, ℕ, zero, suc, ◌+◌, ◌≤◌, List, [], ◌∷◌, length, take, drop, ap, ◌∙◌, sym}
use Rattle.std.proofs.Common.{Result, Ok, Err, Some, arith}
use Rattle.std.specs.Prelude.{IsOkAnd, slice_index}
use Rattle.std.specs.Int.{w8, from_le_bytes}
use Rattle.std.proofs.lemmas.List.{drop-drop}
use Rattle.planus_read.specs.Bytes.{Num}
use Rattle.planus_read.specs.declared.errors.ErrorKind.{ErrorKind}
use Rattle.planus_read.specs.Clauses.{Answer, shown}
use Rattle.planus_read.specs.Reading.{UnionItems, union_vector_reading}
use Rattle.planus_read.specs.ReadsBack.{UnionVectorReads}
use Rattle.planus_read.specs.Values.{union_vector}
use Rattle.planus_read.specs.Stands.{at_both}
use Rattle.planus_read.proofs.Reading.{num_inside, num_value}
use Rattle.planus_read.proofs.ReadsBack.{what_stands_reads_back}
use Rattle.planus_view.specs.declared.union_vector.UnionSliceView.{UnionSliceView}
use Rattle.planus_view.specs.declared.vector_of.VectorOf.{VectorOf}
use Rattle.planus_unions.specs.ReadBack.{IsUnionVectorOf, UnionVectorsReadBack}
use Rattle.planus_view.specs.UnionVectorView.{view_of, ShowsUnionVector}
use Rattle.planus_view.specs.UnionViews.{UnionView}

byte_at : (S : List ℕ) (i : ℕ) → i + 1 ≤ length S → slice_index S i ≡ from_le_bytes w8 (take 1 (drop i S))
byte_at [] i inside = absurd (omega (arith, inside))
byte_at (byte ∷ S) zero inside = omega arith
byte_at (byte ∷ S) (suc i) inside = byte_at S i (omega (arith, inside))

tag_at : (S : List ℕ) (i tag : ℕ) → Num S i w8 ≡ Some tag → slice_index S i ≡ tag
tag_at S i tag e = byte_at S i (num_inside S i w8 tag e) ∙ sym (num_value S i w8 tag e)

view_moves :
    (B : List ℕ) (start tags references count kt kv n : ℕ) → start + tags ≡ kt
    → start + references ≡ kv → count ≡ n → (v : UnionView)
    → v ≡ record {
      tags = drop tags (drop start B);
      references = drop references (drop start B);
      start = start + references;
      count = count;
    }
    → v ≡ record { tags = drop kt B; references = drop kv B; start = kv; count = n }
view_moves B start tags references count kt kv n a b c v h =
    let front : drop tags (drop start B) ≡ drop kt B =
    drop-drop tags start B ∙ ap (λ k. drop k B) a in
    let back : drop references (drop start B) ≡ drop kv B =
    drop-drop references start B ∙ ap (λ k. drop k B) b in cc

module _ (T E : Type 0) where
  vector_of :
      (B : List ℕ) (kt kv start f g : ℕ) (items : List (ℕ × ℕ))
      → UnionVectorReads B kt kv start f g items → (r : Result (VectorOf (UnionSliceView T E)) ErrorKind)
      → Answer
      (shown (ShowsUnionVector (drop start B) start) (union_vector_reading (drop start B) f g)) r
      → IsOkAnd r (IsUnionVectorOf T E B kt kv items)
  vector_of B kt kv start f g items reads (Ok v) h =
      let found : h.0 ≡ record {
        tags = reads.tags_position;
        references = reads.references_position;
        count = length items;
      } = reads.vector.alone h.0 h.1 in
      record {
        view = view_moves B start h.0.tags h.0.references h.0.count (kt + 4) (kv + 4)
            (length items) (ap (λ (l : UnionItems). start + l.tags) found ∙ reads.first_tag)
            (ap (λ (l : UnionItems). start + l.references) found ∙ reads.first_reference)
            (ap (λ (l : UnionItems). l.count) found) (view_of v) h.2;
        tags = λ i item there. tag_at (drop (kt + 4) B) i item.0 (reads.each_tag i item there).there;
        references = reads.each_reference;
      }
  vector_of B kt kv start f g items reads (Err e) h =
      absurd
      (let other : Err e ≡ Ok (record {
        tags = reads.tags_position;
        references = reads.references_position;
        count = length items;
      }) = reads.vector.only (Err e) h in cc)

  pub union_vectors : UnionVectorsReadBack T E
  union_vectors B kt kv start f g items stands tags values r h =
      vector_of B kt kv start f g items
      (what_stands_reads_back B (at_both kt kv) (union_vector items) tt stands start f g tags values)
      r h
