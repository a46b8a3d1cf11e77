-- The errors of a table's fields, one after another.
use Rattle.std.proofs.Common.{◌≡◌, ℕ, List, [], ◌∷◌, ◌++◌, refl, ap, ◌∙◌, Option, Some, None}
use Rattle.std.proofs.Common.{append_assoc, append-nil, sym}
use Rattle.std.specs.Option.{option_or}
use Rattle.planus.specs.Steps.{FieldStep, number_field, struct_field, ref_field, tags_field}
use Rattle.planus.specs.Steps.{values_field}
use Rattle.planus.specs.Kinds.{StepKind, a_value, a_union_vector}
use Rattle.planus.specs.Slots.{slot_fault, rising_fault, alignment_of}
use Rattle.planus.specs.TableChecks.{content_fault, field_fault, fields_fault}
use Rattle.planus.specs.inner.Declaring.{slots_of}
use Rattle.planus.specs.declared.replaying.faults.Why.{Why}

module _ (f g : StepKind → ℕ → Option Why) (same : (kind : StepKind) (n : ℕ) → f kind n ≡ g kind n) where
  same_content : (content : FieldStep) → content_fault f content ≡ content_fault g content
  same_content (number_field width n) = refl
  same_content (struct_field alignment content) = refl
  same_content (ref_field step) = same a_value step
  same_content (tags_field step) = same a_union_vector step
  same_content (values_field step) = same a_union_vector step

  pub same_fields : (slots : List ℕ) (before : ℕ) (fields : List (ℕ × FieldStep)) → fields_fault f slots before fields ≡ fields_fault g slots before fields
  same_fields slots before [] = refl
  same_fields slots before (entry ∷ fields) =
      ap (λ o. option_or (option_or (slot_fault slots entry.0) (option_or o (rising_fault before (alignment_of entry.1)))) (fields_fault f (slots ++ entry.0 ∷ []) (alignment_of entry.1) fields)) (same_content entry.1)
      ∙ ap (option_or (field_fault g slots before entry)) (same_fields (slots ++ entry.0 ∷ []) (alignment_of entry.1) fields)

pub none_of : (first rest : Option Why) → option_or first rest ≡ None → (first ≡ None) × (rest ≡ None)
none_of None rest e = (refl, e)
none_of (Some why) rest e = (cc)

abbrev pub last_alignment : ℕ → List (ℕ × FieldStep) → ℕ
last_alignment before [] = before
last_alignment before (entry ∷ fields) = last_alignment (alignment_of entry.1) fields

module _ (fault : StepKind → ℕ → Option Why) where
  pub faults_behind : (slots : List ℕ) (before : ℕ) (xs rest : List (ℕ × FieldStep)) → fields_fault fault slots before xs ≡ None
      → fields_fault fault slots before (xs ++ rest) ≡ fields_fault fault (slots ++ slots_of xs) (last_alignment before xs) rest
  faults_behind slots before [] rest none = ap (λ all. fields_fault fault all before rest) (sym (append-nil slots))
  faults_behind slots before (entry ∷ xs) rest none =
      let both = none_of (field_fault fault slots before entry) (fields_fault fault (slots ++ entry.0 ∷ []) (alignment_of entry.1) xs) none in
      ap (λ o. option_or o (fields_fault fault (slots ++ entry.0 ∷ []) (alignment_of entry.1) (xs ++ rest))) both.0
      ∙ faults_behind (slots ++ entry.0 ∷ []) (alignment_of entry.1) xs rest both.1
      ∙ ap (λ all. fields_fault fault all (last_alignment (alignment_of entry.1) xs) rest) (append_assoc slots (entry.0 ∷ []) (slots_of xs))

  pub field_behind : (slots : List ℕ) (before : ℕ) (xs : List (ℕ × FieldStep)) (x : ℕ × FieldStep) (rest : List (ℕ × FieldStep)) (why : Why) → fields_fault fault slots before xs ≡ None
      → field_fault fault (slots ++ slots_of xs) (last_alignment before xs) x ≡ Some why → fields_fault fault slots before (xs ++ x ∷ rest) ≡ Some why
  field_behind slots before xs x rest why none e =
      faults_behind slots before xs (x ∷ rest) none
      ∙ ap (λ o. option_or o (fields_fault fault ((slots ++ slots_of xs) ++ x.0 ∷ []) (alignment_of x.1) rest)) e

  pub no_more : (slots : List ℕ) (before : ℕ) (xs : List (ℕ × FieldStep)) (x : ℕ × FieldStep) → fields_fault fault slots before xs ≡ None
      → field_fault fault (slots ++ slots_of xs) (last_alignment before xs) x ≡ None → fields_fault fault slots before (xs ++ x ∷ []) ≡ None
  no_more slots before xs x none e = faults_behind slots before xs (x ∷ []) none ∙ ap (λ o. option_or o None) e
