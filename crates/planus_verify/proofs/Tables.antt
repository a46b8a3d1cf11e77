-- Tables and nested buffers, entered by a reference.
use Rattle.std.proofs.Common.{◌≡◌, ℕ, ◌+◌, List, drop, take, refl, subst, ap, ◌∙◌, inl, inr, Result, Ok, Err, None}
use Rattle.planus_read.specs.Clauses.{Answer, shown, AllHold, FirstBroken}
use Rattle.planus_read.specs.Reading.{target, slots_of, table_reading, table_clauses}
use Rattle.planus_read.specs.Reading.{ByteListThere}
use Rattle.planus_read.specs.Tables.{ShowsTable, table_object, table_slots, table_start}
use Rattle.planus_read.specs.declared.errors.ErrorKind.{ErrorKind}
use Rattle.planus_read.specs.declared.table_reader.Table.{Table}
use Rattle.planus_read.proofs.Reading.{table_holds, byte_list_holds}
use Rattle.planus_verify.specs.Steps.{Enters, Faults, reference_steps, root_steps, value_steps}
use Rattle.planus_verify.specs.Steps.{place_faults}
use Rattle.planus_verify.specs.Walks.{DoesTable, InOrder}
use Rattle.planus_verify.specs.declared.fault.Fault.{Fault}
use Rattle.planus_verify.specs.declared.fault.Fault.TheVariants as fault
use Rattle.planus_verify.specs.declared.fault.FieldPlace.{FieldPlace}
use Rattle.planus_verify.specs.declared.schema.ValueKind.TheVariants as value
use Rattle.planus_verify.specs.lemmas.InOrder.{last_step}

pub record IsTableAt (S : List ℕ) (start f : ℕ) (table : Table) : Type 0 where
  pub holds : AllHold (table_clauses S f)
  pub object : table_object table ≡ drop (target S f) S
  pub slots : table_slots table ≡ slots_of S (target S f)
  pub begins : table_start table ≡ start + target S f

pub table_is :
    (S : List ℕ) (start f : ℕ) (table : Table)
    → Answer (shown (ShowsTable S start) (table_reading S f)) (Ok table) → IsTableAt S start f table
table_is S start f table answer =
    let layout = answer.0 in
    let h = table_holds S f layout.object layout.vtable layout.size answer.1 in
    record {
      holds = h.0;
      object = answer.2.object_bytes ∙ ap (λ k. drop k S) h.1;
      slots = answer.2.slots ∙ ap (λ n. drop 4 (take n (drop layout.vtable S))) h.3
          ∙ ap (λ k. drop 4 (take _ (drop k S))) h.2;
      begins = answer.2.object_start ∙ ap (λ k. start + k) h.1;
    }

-- the table is there, and is entered
pub reference_is :
    (W : DoesTable) (here : _) (t : ℕ) (S : List ℕ) (start f : ℕ) (table : Table) (left : ℕ)
    (r : Result ℕ Fault)
    → Answer (shown (ShowsTable S start) (table_reading S f)) (Ok table)
    → W t (table_object table) (table_slots table) (table_start table) left r
    → InOrder W (reference_steps here t S start f) left r
reference_is W here t S start f table left r answer h =
    let is : IsTableAt S start f table = table_is S start f table answer in
    let entered = subst (λ o. W t o (slots_of S (target S f)) (start + target S f) left r) is.object
    (subst (λ v. W t (table_object table) v (start + target S f) left r) is.slots
    (subst (λ n. W t (table_object table) (table_slots table) n left r) is.begins h)) in
    inl (
      left,
      (is.holds, refl),
      last_step W
          (Enters t (drop (target S f) S) (slots_of S (target S f)) (start + target S f)) left r
          entered,
    )

-- a nested buffer
pub nested_by :
    (W : DoesTable) (at : Faults) (t : ℕ) (S : List ℕ) (start f : ℕ) (content B : List ℕ)
    (begin k left : ℕ) (r : Result ℕ Fault) → ByteListThere S f content → B ≡ content → begin ≡ 0
    → k ≡ 0 → InOrder W (reference_steps (at None) t B begin k) left r
    → InOrder W (value_steps at (value.Nested t) S start f) left r
nested_by W at t S start f content B begin k left r there bytes begins offset h =
    let holds = byte_list_holds S f content there in
    inl (
      left,
      (holds.0, refl),
      subst (λ l. InOrder W (reference_steps (at None) t l 0 0) left r) (bytes ∙ holds.1)
          (subst (λ n. InOrder W (reference_steps (at None) t B n 0) left r) begins
          (subst (λ n. InOrder W (reference_steps (at None) t B begin n) left r) offset h)),
    )

pub nested_is :
    (W : DoesTable) (place : FieldPlace) (t : ℕ) (S : List ℕ) (start f : ℕ) (content B : List ℕ)
    (begin k left : ℕ) (r : Result ℕ Fault) → ByteListThere S f content → B ≡ content → begin ≡ 0
    → k ≡ 0 → InOrder W (reference_steps (fault.Field place) t B begin k) left r
    → InOrder W (value_steps (place_faults place) (value.Nested t) S start f) left r
nested_is W place = nested_by W (place_faults place)

-- what holds of a place, of its bytes, where they begin, and its offset
pub place_is :
    (P : List ℕ → ℕ → ℕ → Type 0) (B S : List ℕ) (begin start k f : ℕ) → B ≡ S → begin ≡ start
    → k ≡ f → P B begin k → P S start f
place_is P B S begin start k f bytes begins offset h =
    subst (λ l. P l start f) bytes
    (subst (λ n. P B n f) begins (subst (λ n. P B begin n) offset h))

-- the root of a buffer
pub root_is :
    (W : DoesTable) (t : ℕ) (B S : List ℕ) (begin : ℕ) (table : Table) (left : ℕ)
    (r : Result ℕ Fault) → B ≡ S → begin ≡ 0
    → Answer (shown (ShowsTable B begin) (table_reading B 0)) (Ok table)
    → W t (table_object table) (table_slots table) (table_start table) left r
    → InOrder W (root_steps t S) left r
root_is W t B S begin table left r bytes begins answer h =
    place_is (λ l n f. InOrder W (reference_steps fault.Root t l n f) left r) B S begin 0 0 0 bytes
    begins refl (reference_is W fault.Root t B begin 0 table left r answer h)

pub no_root :
    (W : DoesTable) (t : ℕ) (B S : List ℕ) (left : ℕ) (e : ErrorKind) → B ≡ S
    → FirstBroken (table_clauses B 0) e → InOrder W (root_steps t S) left (Err (fault.Root e))
no_root W t B S left e bytes fails =
    inr (
      fault.Root e,
      (e, subst (λ l. FirstBroken (table_clauses l 0) e) bytes fails, refl),
      refl,
    )
