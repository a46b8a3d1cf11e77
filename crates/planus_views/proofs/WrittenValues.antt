-- What was written in a field passes each test of it.
use Prim.Native.Nat.{zero, suc}
use Rattle.std.proofs.Common.{◌≡◌, ℕ, ◌+◌, ◌*◌, ◌≤◌, ◌<◌, List, [], ◌∷◌, ◌++◌, length, drop}
use Rattle.std.proofs.Common.{Option, Some, None, sym, subst, ap, ◌∙◌, arith}
use Rattle.std.proofs.lemmas.List.{drop-drop, length-drop}
use Rattle.std.proofs.lemmas.Option.{slice_get_within, slice_get-get_or}
use Rattle.std.specs.Prelude.{slice_get, get_or}
use Rattle.std.specs.Str.{IsUtf8}
use Rattle.planus_read.specs.Bytes.{BytesStand, position_of}
use Rattle.planus_read.specs.Clauses.{AllHold}
use Rattle.planus_read.specs.Reading.{Leads, count_at, items_at, text_clauses, byte_list_clauses}
use Rattle.planus_read.specs.Reading.{vector_clauses, target}
use Rattle.planus_read.specs.ReadsBack.{ListReads, ReferenceReads}
use Rattle.planus_read.specs.Stands.{ApartStands, at, Stands, FieldStands}
use Rattle.planus_read.specs.Values.{Field, Value, reference, text, byte_list}
use Rattle.planus_read.specs.Values.{plain_list, reference_list, union_vector, table, apart}
use Rattle.planus_read.proofs.Reading.{leads_inside, leads_to, stood_inside, vector_holds}
use Rattle.planus_read.proofs.ReadingLaws.{lawful_text, lawful_byte_list, lawful_vector}
use Rattle.planus_read.proofs.ReadsBack.{what_stands_reads_back}
use Rattle.planus_read.proofs.SliceLaws.{references_lead, bytes_in_slice, leads_in_slices}
use Rattle.planus_write.specs.Contents.{Content, item, value, values, written}
use Rattle.planus.specs.ReadBack.{FieldHolds, AllStand}
use Rattle.planus.specs.Unions.{IsApart, IsTextIn}
use Rattle.planus_read.specs.Reading.{plain_ref_clauses}
use Rattle.planus_verify.specs.Steps.{Step, Faults, items_from, value_steps, text_steps}
use Rattle.planus_verify.specs.Steps.{plain_clauses, reference_steps, vector_steps}
use Rattle.planus_verify.specs.Steps.{struct_steps, variant_steps}
use Rattle.planus_verify.specs.Verified.{OfTable, StepsHold}
use Rattle.planus_verify.specs.declared.schema.ValueKind.{ValueKind}
use Rattle.planus_verify.specs.declared.schema.ValueKind.TheVariants as kind_of
use Rattle.planus_verify.specs.declared.schema.VariantKind.{VariantKind}
use Rattle.planus_verify.specs.declared.schema.VariantKind.TheVariants as variant
use Rattle.planus_verify.specs.declared.fault.Fault.{Fault}
use Rattle.planus_read.specs.declared.errors.ErrorKind.{ErrorKind}
use Rattle.planus_views.specs.Written.{OfWritten, IsText, AreTexts, IsByteList, IsPlainList, AllAt}
use Rattle.planus_views.specs.Written.{AreTables, HoldsPlain, HoldsValue, HoldsValues, HoldsWritten}
use Rattle.planus_views.specs.Written.{FitsKind, FitsMember}

pub both_hold : (H : OfTable) (xs ys : List Step) → StepsHold H xs → StepsHold H ys
    → StepsHold H (xs ++ ys)
both_hold H [] ys first next = next
both_hold H (x ∷ xs) ys first next = (first.0, both_hold H xs ys first.1 next)

pub items_hold : (H : OfTable) (steps : ℕ → List Step) (i m : ℕ)
    → ((j : ℕ) → j < i + m → StepsHold H (steps j)) → StepsHold H (items_from i m steps)
items_hold H steps i zero each = tt
items_hold H steps i (suc m) each =
    both_hold H (steps i) (items_from (i + 1) m steps) (each i (omega arith))
    (items_hold H steps (i + 1) m (λ j below. each j (omega (arith, below))))

module _ (B : List ℕ) (k q : ℕ) where
  pub plain_there : (bytes : List ℕ) (size : ℕ) → length bytes ≡ size → 1 ≤ size
      → BytesStand B (k + q) bytes → AllHold (plain_clauses (drop k B) q size)
  plain_there bytes size long some stands =
      let inside : length bytes ≤ length (drop q (drop k B)) =
      stood_inside (drop q (drop k B)) bytes (bytes_in_slice B k q bytes stands) in
      (omega (arith, inside, long, some, length-drop q (drop k B)), tt)

  text_there : (d : ℕ) (bytes : List ℕ) → IsUtf8 bytes → Stands B (at (position_of B d)) (text bytes)
      → Leads B (k + q) (position_of B d) → AllHold (text_clauses (drop k B) q)
  text_there d bytes utf8 stands leads =
      let read = what_stands_reads_back B (at (position_of B d)) (text bytes) utf8 stands k q leads in
      (lawful_text (drop k B) q).decides.1 (bytes, read.there)

  struct_there : (d : ℕ) (bytes : List ℕ) (size : ℕ) → length bytes ≡ size
      → ApartStands B (position_of B d) bytes → Leads B (k + q) (position_of B d) → AllHold (plain_ref_clauses size (drop k B) q)
  struct_there d bytes size long stands leads =
      let p : ℕ = q + leads.0 in
      let whole : position_of B d ≡ k + q + leads.0 = leads.2 in
      let same : position_of B d ≡ k + p = omega (arith, whole) in
      let here : Leads (drop k B) q p =
      leads_in_slices B k q p (subst (Leads B (k + q)) same leads) in
      let to : p ≡ target (drop k B) q = leads_to (drop k B) q p here in
      let inside : position_of B d + length bytes ≤ length B = stands.0 in (
        leads_inside (drop k B) q p here,
        (
          omega (arith, to, same, inside, long, length-drop k B),
          tt,
        ),
      )

  bytes_there : (d : ℕ) (bytes : List ℕ) → Stands B (at (position_of B d)) (byte_list bytes)
      → Leads B (k + q) (position_of B d) → AllHold (byte_list_clauses (drop k B) q)
  bytes_there d bytes stands leads =
      let read = what_stands_reads_back B (at (position_of B d)) (byte_list bytes) tt stands k q leads in
      (lawful_byte_list (drop k B) q).decides.1 (bytes, read.there)

  plains_there : (d size alignment : ℕ) (items : List (List ℕ))
      → Stands B (at (position_of B d)) (plain_list size alignment items)
      → Leads B (k + q) (position_of B d) → AllHold (vector_clauses (drop k B) q size)
  plains_there d size alignment items stands leads =
      let read = what_stands_reads_back B (at (position_of B d)) (plain_list size alignment items) tt
      stands k q leads in
      (lawful_vector (drop k B) q size).decides.1 (_, read.vector.there)

  -- a vector of references at p, by what holds of the item to which each leads
  references_hold : (H : OfTable) (at_ : Faults) (steps : ℕ → List ℕ → ℕ → ℕ → List Step) (d : ℕ)
      (distances : List ℕ) → Stands B (at (position_of B d)) (reference_list distances)
      → Leads B (k + q) (position_of B d)
      → ((j one : ℕ) → slice_get distances j ≡ Some one
      → Leads B (position_of B d + 4 + j * 4) (position_of B one)
      → StepsHold H (steps j (drop (position_of B d + 4) B) (position_of B d + 4) (j * 4)))
      → StepsHold H (vector_steps at_ steps (drop k B) k q)
  references_hold H at_ steps d distances stands leads each = (clauses.0, items)
    where
      read : ListReads (ReferenceReads B) B (position_of B d) k q 4 distances
      read = what_stands_reads_back B (at (position_of B d)) (reference_list distances) tt stands k q leads

      clauses : AllHold (vector_clauses (drop k B) q 4)
          × (read.position ≡ items_at (drop k B) q) × (length distances ≡ count_at (drop k B) q)
      clauses = vector_holds (drop k B) q 4 read.position (length distances) read.vector.there

      first : k + items_at (drop k B) q ≡ position_of B d + 4
      first = ap (λ (n : ℕ). k + n) (sym clauses.1) ∙ read.first

      bytes : drop (items_at (drop k B) q) (drop k B) ≡ drop (position_of B d + 4) B
      bytes = drop-drop (items_at (drop k B) q) k B ∙ ap (λ (n : ℕ). drop n B) first

      here : (j : ℕ) → j < 0 + count_at (drop k B) q
          → StepsHold H (steps j (drop (position_of B d + 4) B) (position_of B d + 4) (j * 4))
      here j below =
          let one = get_or distances j 0 in
          let found = slice_get-get_or distances j 0 (omega (arith, below, clauses.2)) in
          each j one found (read.each j one found).leads

      items : StepsHold H (items_from 0 (count_at (drop k B) q)
          (λ j. steps j (drop (items_at (drop k B) q) (drop k B)) (k + items_at (drop k B) q) (j * 4)))
      items = items_hold H _ 0 (count_at (drop k B) q) (λ j below.
          subst (λ (S : List ℕ). StepsHold H (steps j S (k + items_at (drop k B) q) (j * 4))) (sym bytes)
          (subst (λ (n : ℕ). StepsHold H (steps j (drop (position_of B d + 4) B) n (j * 4))) (sym first)
          (here j below)))

text_of : (B : List ℕ) (texts : List Value) (distances : List ℕ) → AreTexts texts
    → AllStand B texts distances → (j one : ℕ) → slice_get distances j ≡ Some one
    → (bytes : List ℕ) × IsUtf8 bytes × Stands B (at (position_of B one)) (text bytes)
text_of B [] [] fit stand j one e = absurd (let within = slice_get_within [] j one e in omega (arith, within))
text_of B [] (d ∷ ds) fit stand j one e = elim stand [ ]
text_of B (x ∷ texts) [] fit stand j one e = elim stand [ ]
text_of B (text bytes ∷ texts) (d ∷ ds) fit stand zero one e =
    let same : Some d ≡ Some one = e in
    let is : d ≡ one = cc in
    (bytes, fit.0, subst (λ (n : ℕ). Stands B (at (position_of B n)) (text bytes)) is stand.0)
text_of B (byte_list bytes ∷ texts) (d ∷ ds) fit stand zero one e = absurd fit.0
text_of B (plain_list size alignment items ∷ texts) (d ∷ ds) fit stand zero one e = absurd fit.0
text_of B (apart _ ∷ texts) (d ∷ ds) fit stand zero one e = absurd fit.0
text_of B (reference_list distances ∷ texts) (d ∷ ds) fit stand zero one e = absurd fit.0
text_of B (union_vector items ∷ texts) (d ∷ ds) fit stand zero one e = absurd fit.0
text_of B (table fields ∷ texts) (d ∷ ds) fit stand zero one e = absurd fit.0
text_of B (x ∷ texts) (d ∷ ds) fit stand (suc j) one e = text_of B texts ds fit.1 stand.1 j one e

at_each : (P : ℕ → Type 0) (distances : List ℕ) → AllAt P distances → (j one : ℕ)
    → slice_get distances j ≡ Some one → P one
at_each P [] all j one e = absurd (let within = slice_get_within [] j one e in omega (arith, within))
at_each P (d ∷ ds) all zero one e =
    let same : Some d ≡ Some one = e in let is : d ≡ one = cc in subst P is all.0
at_each P (d ∷ ds) all (suc j) one e = at_each P ds all.1 j one e

-- Each table that was written is verified by a reference that leads to it.
abbrev pub TablesHold : OfTable → OfWritten → List ℕ → Type 0
TablesHold H Written B =
    (here : ErrorKind → Fault) (t d start f : ℕ) → Written t d → Leads B (start + f) (position_of B d)
    → StepsHold H (reference_steps here t (drop start B) start f)

module _ (H : OfTable) (Written : OfWritten) (B : List ℕ) (tables_hold : TablesHold H Written B)
    (at_ : Faults) (k q : ℕ) (field : Field) (stands : FieldStands B (k + q) field) where
  led : (d : ℕ) → field ≡ reference d → Leads B (k + q) (position_of B d)
  led d is = references_lead B (k + q) d (subst (λ (f : Field). FieldStands B (k + q) f) is stands)

  held_plain : (size : ℕ) (content : Content) → HoldsPlain size content → FieldHolds B content field
      → StepsHold H (value_steps at_ (kind_of.Plain size) (drop k B) k q)
  held_plain size (item one) fits holds = (
    plain_there B k q one.bytes size fits.0 fits.1
        (subst (λ (f : Field). FieldStands B (k + q) f) holds stands),
    tt,
  )
  held_plain size _ fits holds = absurd fits

  held_text : (content : Content) → HoldsValue IsText content → FieldHolds B content field
      → StepsHold H (value_steps at_ kind_of.Text (drop k B) k q)
  held_text (value (text bytes)) fits holds =
      (text_there B k q holds.0 bytes fits holds.2 (led holds.0 holds.1), tt)
  held_text _ fits holds = absurd fits

  held_bytes : (content : Content) → HoldsValue IsByteList content → FieldHolds B content field
      → StepsHold H (value_steps at_ kind_of.Bytes (drop k B) k q)
  held_bytes (value (byte_list bytes)) fits holds =
      (bytes_there B k q holds.0 bytes holds.2 (led holds.0 holds.1), tt)
  held_bytes _ fits holds = absurd fits

  held_plains : (size : ℕ) (content : Content) → HoldsValue (IsPlainList size) content
      → FieldHolds B content field
      → StepsHold H (value_steps at_ (kind_of.Plains size) (drop k B) k q)
  held_plains size (value (plain_list one alignment items)) fits holds = (
    subst (λ (n : ℕ). AllHold (vector_clauses (drop k B) q n)) (sym fits)
        (plains_there B k q holds.0 one alignment items holds.2 (led holds.0 holds.1)),
    tt,
  )
  held_plains size _ fits holds = absurd fits

  held_texts : (content : Content) → HoldsValues AreTexts content → FieldHolds B content field
      → StepsHold H (value_steps at_ kind_of.Texts (drop k B) k q)
  held_texts (values texts) fits holds =
      references_hold B k q H at_ (λ i S begin. text_steps (at_ (Some i)) S) holds.0 holds.2.0 holds.2.1
      (led holds.0 holds.1)
      (λ j one found leads.
      let it = text_of B texts holds.2.0 fits holds.2.2 j one found in
      (text_there B (position_of B holds.0 + 4) (j * 4) one it.0 it.1 it.2 leads, tt))
  held_texts _ fits holds = absurd fits

  held_table : (t : ℕ) (content : Content) → HoldsWritten (Written t) content
      → FieldHolds B content field
      → StepsHold H (value_steps at_ (kind_of.Table t) (drop k B) k q)
  held_table t (written d) fits holds = tables_hold (at_ None) t d k q fits (led d holds)
  held_table t _ fits holds = absurd fits

  held_tables : (t : ℕ) (content : Content) → HoldsValue (AreTables (Written t)) content
      → FieldHolds B content field
      → StepsHold H (value_steps at_ (kind_of.Tables t) (drop k B) k q)
  held_tables t (value (reference_list distances)) fits holds =
      references_hold B k q H at_ (λ i. reference_steps (at_ (Some i)) t) holds.0 distances holds.2
      (led holds.0 holds.1)
      (λ j one found leads.
      tables_hold (at_ (Some j)) t one (position_of B holds.0 + 4) (j * 4)
      (at_each (Written t) distances fits j one found) leads)
  held_tables t _ fits holds = absurd fits

  pub held : (kind : ValueKind) (content : Content) → FitsKind Written kind content
      → FieldHolds B content field → StepsHold H (value_steps at_ kind (drop k B) k q)
  held (kind_of.Plain size) content fits holds = held_plain size content fits holds
  held kind_of.Text content fits holds = held_text content fits holds
  held kind_of.Bytes content fits holds = held_bytes content fits holds
  held (kind_of.Plains size) content fits holds = held_plains size content fits holds
  held kind_of.Texts content fits holds = held_texts content fits holds
  held (kind_of.Table t) content fits holds = held_table t content fits holds
  held (kind_of.Tables t) content fits holds = held_tables t content fits holds
  held (kind_of.Nested t) content fits holds = absurd fits

  held_string : (content : Content) (bytes : List ℕ) → IsUtf8 bytes → IsTextIn B content bytes
      → FieldHolds B content field → StepsHold H (text_steps (at_ None) (drop k B) q)
  held_string (value one) bytes utf8 is holds = (
    text_there B k q holds.0 bytes utf8
        (subst (λ (v : Value). Stands B (at (position_of B holds.0)) v) is holds.2)
        (led holds.0 holds.1),
    tt,
  )
  held_string (written d) bytes utf8 stands holds =
      (text_there B k q d bytes utf8 stands (led d holds), tt)
  held_string _ bytes utf8 is holds = absurd is

  held_struct : (size : ℕ) (content : Content) (bytes : List ℕ) → length bytes ≡ size
      → IsApart B content bytes → FieldHolds B content field
      → StepsHold H (struct_steps (at_ None) size (drop k B) q)
  held_struct size (written d) bytes long stands holds =
      (struct_there B k q d bytes size long stands (led d holds), tt)
  held_struct size (value one) bytes long is holds = (
    struct_there B k q holds.0 bytes size long
        (subst (λ (v : Value). Stands B (at (position_of B holds.0)) v) is.1 holds.2)
        (led holds.0 holds.1),
    tt,
  )
  held_struct size _ bytes long stands holds = absurd stands

  pub held_variant : (one : Option VariantKind) (content : Content)
      → FitsMember Written B one content → FieldHolds B content field
      → StepsHold H (variant_steps (at_ None) one (drop k B) k q)
  held_variant None content fits holds = tt
  held_variant (Some (variant.Table t)) content fits holds = held_table t content fits holds
  held_variant (Some variant.Text) content fits holds =
      held_string content fits.0 fits.1 fits.2 holds
  held_variant (Some (variant.Struct size)) content fits holds =
      held_struct size content fits.0 fits.1 fits.2 holds
