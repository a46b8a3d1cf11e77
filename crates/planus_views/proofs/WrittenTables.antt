-- Tables that were written are verified.
use Prim.Native.Nat.{zero, suc}
use Rattle.std.proofs.Common.{◌≡◌, ℕ, ◌+◌, ◌*◌, ◌-ℤ◌, ◌≤◌, ◌<◌, List, [], ◌∷◌, length, take, drop, pos}
use Rattle.std.proofs.Common.{Bool, true, false, Option, Some, None, Err, inl, inr, refl, sym, subst, ap, ◌∙◌, arith}
use Rattle.std.proofs.lemmas.List.{drop-drop}
use Rattle.std.specs.Prelude.{◌⊎◌}
use Rattle.std.specs.Int.{w32}
use Rattle.planus_read.specs.Bytes.{Num, position_of}
use Rattle.planus_read.specs.Clauses.{AllHold, FirstBroken}
use Rattle.planus_read.specs.Reading.{Leads, target, slots_of, table_clauses, TableThere, vtable_at}
use Rattle.planus_read.specs.Reading.{vtable_size_at}
use Rattle.planus_read.specs.Stands.{at, Stands, ReferenceStands, TableStands}
use Rattle.planus_read.specs.TableReading.{SlotReads}
use Rattle.planus_read.specs.Tables.{Slot}
use Rattle.planus_read.specs.Values.{Field, field_at, slot_count, table, vtable_size}
use Rattle.planus_read.proofs.Reading.{leads_inside, num_inside, number_of_signed, table_holds}
use Rattle.planus_read.proofs.ReadingLaws.{lawful_table}
use Rattle.planus_read.proofs.SliceLaws.{references_lead, leads_in_slices, stands_in_slices}
use Rattle.planus_read.proofs.TableReading.{table_there, any_slot_reads, slot_reads_whole}
use Rattle.planus_read.proofs.TableReading.{table_slot_bytes}
use Rattle.planus_write.specs.Contents.{Content}
use Rattle.planus.specs.ReadBack.{FieldHoldsIf, content_at}
use Rattle.planus.proofs.ReadBack.{holds_at}
use Rattle.planus_read.specs.declared.errors.ErrorKind.{ErrorKind}
use Rattle.planus_verify.specs.Schemas.{Shapes, fields_of}
use Rattle.planus_verify.specs.Steps.{Step, Enters, Faults, present_steps, value_steps, kind_steps}
use Rattle.planus_verify.specs.Steps.{field_steps, fields_steps, place_faults}
use Rattle.planus_verify.specs.Verified.{OfTable, StepsHold, Verified, tables_in}
use Rattle.planus_verify.specs.Walks.{InOrder, Walks, RootWalks}
use Rattle.planus_verify.specs.declared.fault.Fault.{Fault}
use Rattle.planus_verify.specs.declared.fault.Fault.TheVariants as fault
use Rattle.planus_verify.specs.declared.schema.FieldKind.{FieldKind}
use Rattle.planus_verify.specs.declared.schema.FieldKind.TheVariants as kind
use Rattle.planus_verify.specs.declared.schema.FieldShape.{FieldShape}
use Rattle.planus_verify.specs.declared.schema.ValueKind.{ValueKind}
use Rattle.planus_verify.specs.declared.schema.Variant.{Variant}
use Rattle.planus_views.specs.Written.{OfWritten, FitsIf, FieldFits, FieldsFit, IsWritten}
use Rattle.planus_verify.proofs.Outcomes.{walks_limit}
use Rattle.planus_views.specs.Fields.{TableHolds}
use Rattle.planus_views.specs.Written.{WrittenIsVerified, WrittenPasses}
use Rattle.planus_views.proofs.WrittenUnions.{union_holds}
use Rattle.planus_views.proofs.WrittenValues.{both_hold, held, TablesHold}

-- A table is read at the reference at f of the slice, with these fields.
record IsReadAt (B : List ℕ) (k : ℕ) (entries : List (ℕ × Field)) (start f : ℕ) : Type 0 where
  clauses : AllHold (table_clauses (drop start B) f)
  begin : start + target (drop start B) f ≡ k
  inside : k + 4 ≤ length B
  long : length (slots_of (drop start B) (target (drop start B) f)) ≡ 2 * slot_count entries
  slots :
      (i : ℕ) → SlotReads B k (Slot (slots_of (drop start B) (target (drop start B) f)) i)
      (field_at entries i)

read_at : (B : List ℕ) (k : ℕ) (entries : List (ℕ × Field)) → Stands B (at k) (table entries)
    → (start f : ℕ) → Leads B (start + f) k → IsReadAt B k entries start f
read_at B k entries stands start f leads = record {
  clauses = is.0;
  begin = ap (λ (n : ℕ). start + n) (sym is.1) ∙ sym whole;
  inside = first;
  long = ap length (sym slots_are) ∙ table_slot_bytes S object entries stands_here;
  slots = slots;
}
  where
    S : List ℕ
    S = drop start B

    object : ℕ
    object = f + leads.0

    whole : k ≡ start + object
    whole = let to : k ≡ start + f + leads.0 = leads.2 in omega (arith, to)

    inside : start ≤ length B
    inside = let here = leads_inside B (start + f) k leads in omega (arith, here)

    first : k + 4 ≤ length B
    first =
        let word = number_of_signed (Num B k w32) (pos k -ℤ pos stands.vtable) stands.word in
        num_inside B k w32 word.0 word.1

    stands_here : TableStands S object entries
    stands_here = stands_in_slices B start (at object) (table entries) inside
        (subst (λ (n : ℕ). Stands B (at n) (table entries)) whole stands)

    there : TableThere S f object stands_here.vtable (vtable_size entries)
    there = table_there S f object entries
        (leads_in_slices B start f object (subst (Leads B (start + f)) whole leads)) stands_here

    is : AllHold (table_clauses S f) × (object ≡ target S f)
        × (stands_here.vtable ≡ vtable_at S (target S f))
        × (vtable_size entries ≡ vtable_size_at S (target S f))
    is = table_holds S f object stands_here.vtable (vtable_size entries) there

    slots_are : drop 4 (take (vtable_size entries) (drop stands_here.vtable S)) ≡ slots_of S (target S f)
    slots_are =
        ap (λ (n : ℕ). drop 4 (take n (drop stands_here.vtable S))) is.3
        ∙ ap (λ (n : ℕ). drop 4 (take (vtable_size_at S (target S f)) (drop n S))) is.2

    slots : (i : ℕ) → SlotReads B k (Slot (slots_of S (target S f)) i) (field_at entries i)
    slots i =
        subst (λ (V : List ℕ). SlotReads B k (Slot V i) (field_at entries i)) slots_are
        (subst
        (λ (n : ℕ). SlotReads B n
        (Slot (drop 4 (take (vtable_size entries) (drop stands_here.vtable S))) i) (field_at entries i))
        (sym whole)
        (slot_reads_whole B start object _ (field_at entries i) inside
        (any_slot_reads S object entries stands_here i)))

absent : (H : OfTable) (at_ : Faults) (required : Bool) (steps : ℕ → List Step) (q : ℕ) → q ≡ 0
    → required ≡ false → StepsHold H (present_steps at_ required steps q)
absent H at_ false steps zero none may = tt
absent H at_ true steps zero none may = absurd (let f : true ≡ false = may in cc)
absent H at_ required steps (suc q) none may = absurd (omega (arith, none))

present : (H : OfTable) (at_ : Faults) (required : Bool) (steps : ℕ → List Step) (q : ℕ) → 4 ≤ q
    → StepsHold H (steps q) → StepsHold H (present_steps at_ required steps q)
present H at_ required steps zero some all = absurd (omega (arith, some))
present H at_ required steps (suc q) some all = all

module _ (H : OfTable) (Written : OfWritten) (B : List ℕ) (tables_hold : TablesHold H Written B)
    (k : ℕ) where
  slot_holds : (at_ : Faults) (required : Bool) (one : ValueKind) (q : ℕ) (content : Option Content)
      (field : Option Field) → FitsIf Written required one content → FieldHoldsIf B content field
      → SlotReads B k q field
      → StepsHold H (present_steps at_ required (value_steps at_ one (drop k B) k) q)
  slot_holds at_ required one q None None fits holds reads =
      absent H at_ required (value_steps at_ one (drop k B) k) q reads fits
  slot_holds at_ required one q None (Some field) fits holds reads = absurd holds
  slot_holds at_ required one q (Some content) None fits holds reads = absurd holds
  slot_holds at_ required one q (Some content) (Some field) fits holds reads =
      present H at_ required (value_steps at_ one (drop k B) k) q reads.0
      (held H Written B tables_hold at_ k q field reads.1 one content fits holds)

  module _ (contents : List (ℕ × Option Content)) (entries : List (ℕ × Field)) (V : List ℕ)
      (holds : (slot : ℕ) → FieldHoldsIf B (content_at contents slot) (field_at entries slot))
      (reads : (i : ℕ) → SlotReads B k (Slot V i) (field_at entries i))
      (inside : k + 4 ≤ length B) (long : length V ≡ 2 * slot_count entries)
      (variants : List Variant) (t : ℕ) where
    kind_holds : (at_ : Faults) (required : Bool) (one : FieldKind) (slot : ℕ)
        → FieldFits Written B variants (content_at contents) required one slot
        → StepsHold H (kind_steps variants at_ required one slot (drop k B) V k)
    kind_holds at_ required (kind.Value one) slot fits =
        slot_holds at_ required one (Slot V slot) (content_at contents slot) (field_at entries slot) fits
        (holds slot) (reads slot)
    kind_holds at_ required (kind.Union u) slot fits =
        union_holds H Written B tables_hold k inside variants u at_ required entries V long reads slot
        (content_at contents slot) (content_at contents (slot + 1)) (field_at entries slot)
        (field_at entries (slot + 1)) refl refl fits (holds slot) (holds (slot + 1))
    kind_holds at_ required (kind.Unions u) slot fits = absurd fits

    fields_hold : (fields : List FieldShape) → FieldsFit Written B variants (content_at contents) fields
        → StepsHold H (fields_steps variants t (drop k B) V k fields)
    fields_hold [] fits = tt
    fields_hold (field ∷ fields) fits =
        both_hold H (field_steps variants t (drop k B) V k field)
        (fields_steps variants t (drop k B) V k fields)
        (kind_holds
        (place_faults (record { table = t; start = k; slot = field.slot; item = None })) field.required
        field.kind field.slot fits.0)
        (fields_hold fields fits.1)

module _ (schema : Shapes) (B : List ℕ) where
  written_holds : (n : ℕ) → TablesHold (Verified schema n) (IsWritten schema B n) B
  written_holds zero here t d start f is leads = absurd is
  written_holds (suc n) here t d start f (contents, stands, fits) leads =
      let read = read_at B (position_of B d) stands.fields stands.stands start f leads in
      let S = drop start B in
      let o = target S f in
      let object : drop o S ≡ drop (position_of B d) B =
      drop-drop o start B ∙ ap (λ (n : ℕ). drop n B) read.begin in
      let all = fields_hold (Verified schema n) (IsWritten schema B n) B (written_holds n)
      (position_of B d) contents stands.fields (slots_of S o)
      (holds_at B contents stands.fields stands.apart stands.hold) read.slots read.inside read.long
      schema.variants t
      (fields_of schema t) fits in (
        read.clauses,
        (
          subst (λ (l : List ℕ). Verified schema (suc n) t l (slots_of S o) (start + o)) (sym object)
              (subst (λ (p : ℕ). Verified schema (suc n) t (drop (position_of B d) B) (slots_of S o) p)
              (sym read.begin) all),
          tt,
        ),
      )

pub written_is_verified : (schema : Shapes) → WrittenIsVerified schema
written_is_verified schema B n t distance is start f refers =
    let all = written_holds schema B n fault.Root t distance start f is
    (references_lead B (start + f) distance refers) in
    (all.0, all.1.0)

module _ (schema : Shapes) (B : List ℕ) (n t distance : ℕ)
    (written : IsWritten schema B n t distance) (refers : ReferenceStands B 0 distance)
    (depth tables : ℕ) where
  abbrev o : ℕ
  o = target B 0

  -- with the table at this start
  abbrev IsLimit : ℕ → Fault → ℕ → Type 0
  IsLimit start found left =
      ((found ≡ fault.TooDeep) × (depth < n))
      ⊎ ((found ≡ fault.TooMany) × (left < tables_in schema n t (drop o B) (slots_of B o) start))

  verified : TableHolds schema n t 0 B 0
  verified = written_is_verified schema B n t distance written 0 0 refers

  unbroken : (e : ErrorKind) → FirstBroken (table_clauses B 0) e → ⊥
  unbroken e broken =
      let law = lawful_table B 0 in
      let there = law.decides.0 verified.0 in
      law.nothing e broken there.0 there.1

  entered : (left : ℕ) (found : Fault)
      → InOrder (Walks schema depth) (Enters t (drop o B) (slots_of B o) (0 + o) ∷ []) left (Err found)
      → IsLimit (0 + o) found left
  entered left found (inl (next, walks, is)) = absurd (cc (is))
  entered left found (inr (other, walks, is)) =
      let same : other ≡ found = cc (is) in
      subst (λ (one : Fault). IsLimit (0 + o) one left) same
      (walks_limit schema depth n t (drop o B) (slots_of B o) (0 + o) left other walks verified.1)

  passes : (found : Fault) → RootWalks schema t depth tables B (Err found) → IsLimit o found tables
  passes found (inl (next, tested, rest)) =
      let same : 0 + o ≡ o = omega arith in
      subst (λ (start : ℕ). IsLimit start found tables) same
      (subst (λ (left : ℕ). IsLimit (0 + o) found left) tested.1 (entered next found rest))
  passes found (inr (other, tested, is)) = absurd (unbroken tested.0 tested.1)

pub written_passes : (schema : Shapes) → WrittenPasses schema
written_passes schema B n t distance written refers depth tables found walks =
    passes schema B n t distance written refers depth tables found walks
