-- The fields of a table, by what is listed.
use Rattle.std.proofs.Common.{◌≡◌, ℕ, List, [], ◌∷◌, ◌++◌, refl, ap, ◌∙◌, Option, Some, None, Bool}
use Rattle.std.proofs.Common.{true, false, sym, subst, append_assoc, append-nil}
use Rattle.std.specs.Prelude.{if◌then◌else◌}
use Rattle.std.specs.Int.{Width, byte_len, to_le_bytes}
use Rattle.std.specs.Option.{option_or, option_map}
use Rattle.planus_read.specs.Values as value
use Rattle.planus_read.specs.Values.{Field}
use Rattle.planus.specs.Steps.{FieldStep, number_field, struct_field, ref_field, tags_field}
use Rattle.planus.specs.Steps.{values_field}
use Rattle.planus_write.specs.Parts.{Named}
use Rattle.planus.specs.Kinds.{StepKind}
use Rattle.planus.specs.Slots.{place_fault, slot_fault, rising_fault, size_fault, alignment_of}
use Rattle.planus.specs.Slots.{greatest_field}
use Rattle.planus.specs.Runs.{Listed, tags_distance, references_distance, value_distance, distance_at}
use Rattle.planus.specs.Runs.{value_at, field_width, fits_width, plain_field}
use Rattle.planus.specs.Runs.{field_of, with_field, fields_of, fields_if, table_of}
use Rattle.planus.specs.Runs.{struct_width, struct_of}
use Rattle.planus.specs.TableChecks.{number_fault, content_fault, field_fault, fields_fault}
use Rattle.planus.specs.TableChecks.{table_fault}
use Rattle.planus.specs.inner.Declaring.{slots_of}
use Rattle.planus.specs.declared.replaying.faults.Why.{Why}
use Rattle.planus.specs.declared.replaying.faults.Why.TheVariants.{ValueTooBig}
use Rattle.planus.proofs.FieldFaults.{none_of, last_alignment}
use Rattle.planus.proofs.NamedKinds.{NamedAreGood, value_good, tags_good, references_good}
use Rattle.planus.proofs.NamedKinds.{GoodAreNamed, good_value, good_tags, good_references}
use Rattle.planus.proofs.Lists.{made_of, distance_more}
use Rattle.planus.proofs.Structs.{struct_good, struct_there}

pub fields_made : (slot : ℕ) (fault : Option Why) (field : Option Field) (rest : Option (List (ℕ × Field))) (all : List (ℕ × Field)) → with_field slot fault field rest ≡ Some all
    → (fault ≡ None) × (here : Field) × (field ≡ Some here) × (more : List (ℕ × Field)) × (rest ≡ Some more) × ((slot, here) ∷ more ≡ all)
fields_made slot (Some why) field rest all e = (cc)
fields_made slot None None rest all e = (cc)
fields_made slot None (Some field) rest all e =
    let made = made_of (λ (more : List (ℕ × Field)). (slot, field) ∷ more) rest all e in (refl, field, refl, made.0, made.1, made.2)

leads_more : (leading : ℕ → Field) (which : Named → Option ℕ) (listed more : List Listed) (step : ℕ) (field : Field) → option_map leading (distance_at which listed step) ≡ Some field
    → option_map leading (distance_at which (listed ++ more) step) ≡ Some field
leads_more leading which listed more step field e =
    let made = made_of leading (distance_at which listed step) field e in
    rw (distance_more which listed more step made.0 made.1) (ap Some made.2)

field_more : (listed more : List Listed) (content : FieldStep) (field : Field) → field_of listed content ≡ Some field → field_of (listed ++ more) content ≡ Some field
field_more listed more (number_field width n) field e = e
field_more listed more (struct_field alignment content) field e = e
field_more listed more (ref_field step) field e = leads_more value.reference value_distance listed more step field e
field_more listed more (tags_field step) field e = leads_more value.tags tags_distance listed more step field e
field_more listed more (values_field step) field e = leads_more value.values references_distance listed more step field e

pub fields_more : (listed more : List Listed) (slots : List ℕ) (before : ℕ) (fields : List (ℕ × FieldStep)) (all : List (ℕ × Field)) → fields_of listed slots before fields ≡ Some all
    → fields_of (listed ++ more) slots before fields ≡ Some all
fields_more listed more slots before [] all e = e
fields_more listed more slots before (entry ∷ fields) all e =
    let made = fields_made entry.0 (place_fault slots before entry) (field_of listed entry.1) (fields_of listed (slots ++ entry.0 ∷ []) (alignment_of entry.1) fields) all e in
    rw (made.0, field_more listed more entry.1 made.1 made.2, fields_more listed more (slots ++ entry.0 ∷ []) (alignment_of entry.1) fields made.3 made.4) (ap Some made.5)

pub table_made : (listed : List Listed) (fields : List (ℕ × FieldStep)) (all : List (ℕ × Field)) → table_of listed fields ≡ Some all
    → (size_fault fields ≡ None) × (fields_of listed [] greatest_field fields ≡ Some all)
table_made listed fields all e = by_fault (size_fault fields) refl e
  where
    by_fault : (fault : Option Why) → size_fault fields ≡ fault → fields_if fault (fields_of listed [] greatest_field fields) ≡ Some all
        → (size_fault fields ≡ None) × (fields_of listed [] greatest_field fields ≡ Some all)
    by_fault None is e = (is, e)
    by_fault (Some why) is e = (cc)

pub table_is : (listed : List Listed) (fields : List (ℕ × FieldStep)) (all : List (ℕ × Field)) → size_fault fields ≡ None
    → fields_of listed [] greatest_field fields ≡ Some all → table_of listed fields ≡ Some all
table_is listed fields all fits e = ap (λ fault. fields_if fault (fields_of listed [] greatest_field fields)) fits ∙ e

pub table_more : (listed more : List Listed) (fields : List (ℕ × FieldStep)) (all : List (ℕ × Field)) → table_of listed fields ≡ Some all
    → table_of (listed ++ more) fields ≡ Some all
table_more listed more fields all e =
    let made = table_made listed fields all e in
    table_is (listed ++ more) fields all made.0 (fields_more listed more [] greatest_field fields all made.1)

pub fields_push : (listed : List Listed) (slots : List ℕ) (before : ℕ) (xs : List (ℕ × FieldStep)) (x : ℕ × FieldStep) (all : List (ℕ × Field)) (field : Field)
    → fields_of listed slots before xs ≡ Some all → place_fault (slots ++ slots_of xs) (last_alignment before xs) x ≡ None → field_of listed x.1 ≡ Some field
    → fields_of listed slots before (xs ++ x ∷ []) ≡ Some (all ++ (x.0, field) ∷ [])
fields_push listed slots before [] x all field e place is =
    let none : [] ≡ all = cc in
    let free : place_fault slots before x ≡ None = ap (λ xs. place_fault xs before x) (sym (append-nil slots)) ∙ place in
    subst (λ es. fields_of listed slots before (x ∷ []) ≡ Some (es ++ (x.0, field) ∷ [])) none (rw (free, is) refl)
fields_push listed slots before (entry ∷ xs) x all field e place is =
    let next : List ℕ = slots ++ entry.0 ∷ [] in
    let made = fields_made entry.0 (place_fault slots before entry) (field_of listed entry.1) (fields_of listed next (alignment_of entry.1) xs) all e in
    let there : place_fault (next ++ slots_of xs) (last_alignment (alignment_of entry.1) xs) x ≡ None
    = ap (λ ys. place_fault ys (last_alignment (alignment_of entry.1) xs) x) (append_assoc slots (entry.0 ∷ []) (slots_of xs)) ∙ place in
    let rest : fields_of listed next (alignment_of entry.1) (xs ++ x ∷ []) ≡ Some (made.3 ++ (x.0, field) ∷ []) = fields_push listed next (alignment_of entry.1) xs x made.3 field made.4 there is in
    rw (made.0, made.2, rest) (ap (λ (es : List (ℕ × Field)). Some (es ++ (x.0, field) ∷ [])) made.5)

number_good : (width : Option Width) (n : ℕ) (field : Field) → plain_field width n ≡ Some field → number_fault width n ≡ None
number_good None n field e = (cc)
number_good (Some width) n field e = by_test (fits_width width n) e
  where
    by_test : (fit : Bool) → (if fit then Some (value.plain (record { bytes = to_le_bytes width n; alignment = byte_len width })) else None) ≡ Some field
        → (if fit then None else Some ValueTooBig) ≡ None
    by_test true e = refl
    by_test false e = (cc)

both_none : (first second : Option Why) → option_or first second ≡ None → (content : Option Why) → content ≡ None → option_or first (option_or content second) ≡ None
both_none first second e None none = e
both_none first second e (Some why) none = (cc)

module _ (listed : List Listed) (fault : StepKind → ℕ → Option Why) (good : NamedAreGood listed fault) where
  content_good : (content : FieldStep) (field : Field) → field_of listed content ≡ Some field → content_fault fault content ≡ None
  content_good (number_field width n) field e = number_good (field_width width) n field e
  content_good (struct_field alignment content) field e =
      let made = made_of value.plain (struct_of (struct_width alignment) content) field e in struct_good (struct_width alignment) content made.0 made.1
  content_good (ref_field step) field e =
      let made = made_of value.reference (value_at listed step) field e in value_good listed fault good step made.0 made.1
  content_good (tags_field step) field e =
      let made = made_of value.tags (distance_at tags_distance listed step) field e in tags_good listed fault good step made.0 made.1
  content_good (values_field step) field e =
      let made = made_of value.values (distance_at references_distance listed step) field e in references_good listed fault good step made.0 made.1

  pub fields_good : (slots : List ℕ) (before : ℕ) (fields : List (ℕ × FieldStep)) (all : List (ℕ × Field)) → fields_of listed slots before fields ≡ Some all
      → fields_fault fault slots before fields ≡ None
  fields_good slots before [] all e = refl
  fields_good slots before (entry ∷ fields) all e =
      let made = fields_made entry.0 (place_fault slots before entry) (field_of listed entry.1) (fields_of listed (slots ++ entry.0 ∷ []) (alignment_of entry.1) fields) all e in
      let here : field_fault fault slots before entry ≡ None
      = both_none (slot_fault slots entry.0) (rising_fault before (alignment_of entry.1)) made.0 (content_fault fault entry.1) (content_good entry.1 made.1 made.2) in
      rw here (fields_good (slots ++ entry.0 ∷ []) (alignment_of entry.1) fields made.3 made.4)

  pub table_good : (fields : List (ℕ × FieldStep)) (all : List (ℕ × Field)) → table_of listed fields ≡ Some all → table_fault fault fields ≡ None
  table_good fields all e =
      let made = table_made listed fields all e in
      ap (λ o. option_or o (size_fault fields)) (fields_good [] greatest_field fields all made.1) ∙ made.0

module _ (listed : List Listed) (fault : StepKind → ℕ → Option Why) (good : GoodAreNamed listed fault) where
  number_made : (width : Option Width) (n : ℕ) → number_fault width n ≡ None → (field : Field) × (plain_field width n ≡ Some field)
  number_made None n e = (cc)
  number_made (Some width) n e = by_test (fits_width width n) e
    where
      by_test : (fit : Bool) → (if fit then None else Some ValueTooBig) ≡ None
          → (field : Field) × ((if fit then Some (value.plain (record { bytes = to_le_bytes width n; alignment = byte_len width })) else None) ≡ Some field)
      by_test true e = (value.plain (record { bytes = to_le_bytes width n; alignment = byte_len width }), refl)
      by_test false e = (cc)

  content_made : (content : FieldStep) → content_fault fault content ≡ None → (field : Field) × (field_of listed content ≡ Some field)
  content_made (number_field width n) e = number_made (field_width width) n e
  content_made (struct_field alignment content) e =
      let of = struct_there (struct_width alignment) content e in (value.plain of.0, ap (option_map value.plain) of.1)
  content_made (ref_field step) e =
      let of = good_value listed fault good step e in (value.reference of.0, ap (option_map value.reference) of.1)
  content_made (tags_field step) e =
      let of = good_tags listed fault good step e in (value.tags of.0, ap (option_map value.tags) of.1)
  content_made (values_field step) e =
      let of = good_references listed fault good step e in (value.values of.0, ap (option_map value.values) of.1)

  pub fields_are : (slots : List ℕ) (before : ℕ) (fields : List (ℕ × FieldStep)) → fields_fault fault slots before fields ≡ None
      → (all : List (ℕ × Field)) × (fields_of listed slots before fields ≡ Some all)
  fields_are slots before [] e = ([], refl)
  fields_are slots before (entry ∷ fields) e =
      let both = none_of (field_fault fault slots before entry) (fields_fault fault (slots ++ entry.0 ∷ []) (alignment_of entry.1) fields) e in
      let slot = none_of (slot_fault slots entry.0) (option_or (content_fault fault entry.1) (rising_fault before (alignment_of entry.1))) both.0 in
      let content = none_of (content_fault fault entry.1) (rising_fault before (alignment_of entry.1)) slot.1 in
      let place : place_fault slots before entry ≡ None = ap (λ o. option_or o (rising_fault before (alignment_of entry.1))) slot.0 ∙ content.1 in
      let here = content_made entry.1 content.0 in
      let rest = fields_are (slots ++ entry.0 ∷ []) (alignment_of entry.1) fields both.1 in
      ((entry.0, here.0) ∷ rest.0, rw (place, here.1, rest.1) refl)

  pub table_are : (fields : List (ℕ × FieldStep)) → table_fault fault fields ≡ None → (all : List (ℕ × Field)) × (table_of listed fields ≡ Some all)
  table_are fields e =
      let both = none_of (fields_fault fault [] greatest_field fields) (size_fault fields) e in
      let made = fields_are [] greatest_field fields both.0 in
      (made.0, table_is listed fields made.0 both.1 made.1)
