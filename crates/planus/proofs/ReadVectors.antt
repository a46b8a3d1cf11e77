-- What is read of the vectors of a written table.
use Rattle.std.proofs.Common.{ℕ, ◌+◌, List, drop, subst, Result, Ok, Err}
use Rattle.std.specs.Prelude.{IsOkAnd, ⊤}
use Rattle.planus_read.specs.declared.errors.ErrorKind.{ErrorKind}
use Rattle.planus_read.specs.declared.plain.Plain.{Ghosts as PlainGhosts}
use Rattle.planus_read.specs.Bytes.{position_of}
use Rattle.planus_read.specs.Stands.{FieldStands}
use Rattle.planus_read.specs.Values.{Value, Field, plain_list, reference_list}
use Rattle.planus_read.proofs.SliceLaws.{references_lead}
use Rattle.planus_view.specs.declared.vector.SliceView.{SliceView}
use Rattle.planus_view.specs.declared.vector_of.VectorOf.{VectorOf}
use Rattle.planus_view.proofs.ReadBack.{plain_lists, reference_lists}
use Rattle.planus_write.specs.Contents.{value, values}
use Rattle.planus.specs.ReadBack.{AllStand, FieldHolds}
use Rattle.planus.specs.ReadVectors.{reads_vector, ArePlainItems, AreReferences}
use Rattle.planus.specs.ReadVectors.{PlainVectorsReadBack, ReferenceVectorsReadBack}
use Rattle.planus.specs.ReadVectors.{ValueVectorsReadBack}
use Rattle.planus.proofs.ReadBack.{contents_read_back}

then_so : {T E : Type 0} {P Q : T → Type 0} (r : Result T E) → ((x : T) → P x → Q x)
    → IsOkAnd r P → IsOkAnd r Q
then_so (Ok x) more holds = more x holds
then_so (Err e) more holds = holds

module _ (T : Type 0) {R : Type 0} (kind : PlainGhosts R) where
  pub plain_vectors_read_back : PlainVectorsReadBack T kind
  plain_vectors_read_back =
      contents_read_back {X = ℕ × List (List ℕ)} (reads_vector T kind) (λ B list. ⊤)
      (λ list. value (plain_list kind.SIZE list.0 list.1))
      (λ B list vector. ArePlainItems kind B list.1 vector) answered
    where
      answered : (B : List ℕ) (list : ℕ × List (List ℕ)) (field : Field) → ⊤
          → FieldHolds B (value (plain_list kind.SIZE list.0 list.1)) field → (start f : ℕ)
          → FieldStands B (start + f) field → (r : Result (VectorOf (SliceView T R kind)) ErrorKind)
          → reads_vector T kind (drop start B) start f r
          → IsOkAnd r (λ vector. ArePlainItems kind B list.1 vector)
      answered B list field may holds start f stands r h =
          let refers = subst (λ (field : Field). FieldStands B (start + f) field) holds.1 stands in
          let leads = references_lead B (start + f) holds.0 refers in
          then_so r (λ vector is. (position_of B holds.0, is))
          (plain_lists T kind list.0 B (position_of B holds.0) start f list.1 holds.2 leads r h)

  pub reference_vectors_read_back : ReferenceVectorsReadBack T kind
  reference_vectors_read_back size =
      contents_read_back (reads_vector T kind) (λ B distances. ⊤)
      (λ distances. value (reference_list distances)) (AreReferences kind) answered
    where
      answered : (B distances : List ℕ) (field : Field) → ⊤
          → FieldHolds B (value (reference_list distances)) field → (start f : ℕ)
          → FieldStands B (start + f) field → (r : Result (VectorOf (SliceView T R kind)) ErrorKind)
          → reads_vector T kind (drop start B) start f r
          → IsOkAnd r (λ vector. AreReferences kind B distances vector)
      answered B distances field may holds start f stands r h =
          let refers = subst (λ (field : Field). FieldStands B (start + f) field) holds.1 stands in
          let leads = references_lead B (start + f) holds.0 refers in
          then_so r (λ vector is. (position_of B holds.0, is))
          (reference_lists T kind size B (position_of B holds.0) start f distances holds.2 leads r h)

  pub value_vectors_read_back : ValueVectorsReadBack T kind
  value_vectors_read_back size =
      contents_read_back {X = List Value} (reads_vector T kind) (λ B contents. ⊤) values
      (λ B contents vector. (distances : List ℕ) × AllStand B contents distances
      × AreReferences kind B distances vector) answered
    where
      answered : (B : List ℕ) (contents : List Value) (field : Field) → ⊤
          → FieldHolds B (values contents) field → (start f : ℕ)
          → FieldStands B (start + f) field → (r : Result (VectorOf (SliceView T R kind)) ErrorKind)
          → reads_vector T kind (drop start B) start f r
          → IsOkAnd r (λ vector. (distances : List ℕ) × AllStand B contents distances
          × AreReferences kind B distances vector)
      answered B contents field may holds start f stands r h =
          let refers = subst (λ (field : Field). FieldStands B (start + f) field) holds.1 stands in
          let leads = references_lead B (start + f) holds.0 refers in
          let list = holds.2 in
          then_so r (λ vector is. (list.0, list.2, (position_of B holds.0, is)))
          (reference_lists T kind size B (position_of B holds.0) start f list.0 list.1 leads r h)
