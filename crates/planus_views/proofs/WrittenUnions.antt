-- A union that was written passes each test of it.
use Prim.Native.Nat.{zero, suc}
use Rattle.std.proofs.Common.{◌≡◌, ℕ, ◌+◌, ◌*◌, ◌≤◌, ◌==◌, List, [], ◌∷◌, length, drop, max}
use Rattle.std.proofs.Common.{Bool, true, false, if◌then◌else◌, Option, Some, None, refl, subst, ap, ◌∙◌, arith}
use Rattle.std.proofs.lemmas.Bool.Decides.{nat_tests}
use Rattle.std.proofs.lemmas.List.{length-drop}
use Rattle.std.specs.Prelude.{nat_le}
use Rattle.std.specs.Int.{w8}
use Rattle.planus_read.specs.Bytes.{BytesStand}
use Rattle.planus_read.specs.Clauses.{AllHold}
use Rattle.planus_read.specs.TableReading.{SlotReads}
use Rattle.planus_read.specs.Tables.{Slot}
use Rattle.planus_read.specs.Values.{Field, Plain, plain, field_at, slot_count}
use Rattle.planus_read.proofs.ListItems.{num_of_bytes}
use Rattle.planus_read.proofs.Reading.{num_value}
use Rattle.planus_read.proofs.SliceLaws.{bytes_in_slice}
use Rattle.planus_read.proofs.TableReading.{slot_below}
use Rattle.planus_write.specs.Contents.{Content, item}
use Rattle.planus.specs.ReadBack.{FieldHolds, FieldHoldsIf}
use Rattle.planus_verify.specs.Schemas.{variant_in}
use Rattle.planus_verify.specs.Steps.{Step, Faults, member_steps, union_steps, union_clauses}
use Rattle.planus_verify.specs.Steps.{union_field_steps, variant_steps, tag_at, plain_clauses}
use Rattle.planus_verify.specs.Verified.{OfTable, StepsHold}
use Rattle.planus_verify.specs.declared.schema.Variant.{Variant}
use Rattle.planus_views.specs.Written.{OfWritten, FitsUnion, FitsUnionIf}
use Rattle.planus_views.proofs.WrittenValues.{TablesHold, held_variant, plain_there}

later_or : (b : Bool) (x : Field) (rest : Option Field) (a n i : ℕ) → (b ≡ false → a ≡ i → ⊥)
    → max (a + 1) n ≡ i + 1 → (n ≡ i + 1 → rest ≡ None → ⊥) → (if b then Some x else rest) ≡ None → ⊥
later_or true x rest a n i other most later e = let f : Some x ≡ None = e in absurd (cc)
later_or false x rest a n i other most later e =
    later (let differs = other refl in grind (arith, most, differs)) e

-- The last slot of a vtable is used.
last_is_used : (entries : List (ℕ × Field)) (i : ℕ) → slot_count entries ≡ i + 1
    → field_at entries i ≡ None → ⊥
last_is_used [] i e h = absurd (omega (arith, e))
last_is_used (entry ∷ entries) i e h =
    later_or (entry.0 == i) entry.1 (field_at entries i) entry.0 (slot_count entries) i
    (λ test same. grind (arith, nat_tests, test, same)) e (last_is_used entries i) h

module _ (H : OfTable) (at_ : Faults) (steps : ℕ → ℕ → List Step) where
  no_member : (required : Bool) (q p tag : ℕ) → q ≡ 0 → required ≡ false
      → StepsHold H (member_steps at_ required steps q p tag)
  no_member false zero p tag none may = tt
  no_member true zero p tag none may = absurd (let f : true ≡ false = may in cc)
  no_member required (suc q) p tag none may = absurd (omega (arith, none))

  a_member : (required : Bool) (q p tag : ℕ) → 4 ≤ q → 4 ≤ p → 1 ≤ tag → StepsHold H (steps tag p)
      → StepsHold H (member_steps at_ required steps q p tag)
  a_member required zero p tag q_some p_some tag_some all = absurd (omega (arith, q_some))
  a_member required (suc q) zero tag q_some p_some tag_some all = absurd (omega (arith, p_some))
  a_member required (suc q) (suc p) zero q_some p_some tag_some all = absurd (omega (arith, tag_some))
  a_member required (suc q) (suc p) (suc tag) q_some p_some tag_some all = all

  -- by whether the vtable ends before both slots
  by_end : (required past : Bool) (i : ℕ) (S V : List ℕ)
      → (past ≡ true → required ≡ false)
      → (past ≡ false → AllHold (union_clauses i S V)
      × StepsHold H (member_steps at_ required steps (Slot V i) (Slot V (i + 1)) (tag_at S (Slot V i))))
      → StepsHold H (union_steps at_ required past steps i S V)
  by_end false true i S V absent there = tt
  by_end true true i S V absent there = absurd (let f : true ≡ false = absent refl in cc)
  by_end required false i S V absent there = let all = there refl in (all.0, all.1)

module _ (H : OfTable) (Written : OfWritten) (B : List ℕ) (tables_hold : TablesHold H Written B)
    (k : ℕ) (inside : k + 4 ≤ length B) (variants : List Variant) (u : ℕ) (at_ : Faults)
    (required : Bool) (entries : List (ℕ × Field)) (V : List ℕ)
    (long : length V ≡ 2 * slot_count entries)
    (reads : (i : ℕ) → SlotReads B k (Slot V i) (field_at entries i)) (i : ℕ) where
  abbrev S : List ℕ
  S = drop k B

  abbrev steps : ℕ → ℕ → List Step
  steps tag = variant_steps (at_ None) (variant_in variants u tag) S k

  abbrev Goal : Type 0
  Goal = StepsHold H (union_field_steps variants at_ required u i S V k)

  nothing : required ≡ false → field_at entries i ≡ None → Goal
  nothing may none =
      let zero = subst (SlotReads B k (Slot V i)) none (reads i) in
      by_end H at_ steps required (nat_le (length V) (2 * i)) i S V (λ past. may)
      (λ more. (
        (
          grind (arith, nat_tests, more, long, λ (last : slot_count entries ≡ i + 1). last_is_used entries i last none),
          (let low : 1 ≤ length S = omega (arith, length-drop k B, inside) in omega (arith, low, zero), tt),
        ),
        no_member H at_ steps required (Slot V i) (Slot V (i + 1)) (tag_at S (Slot V i)) zero may,
      ))

  there : (one : Plain) (content : Content) (other : Field)
      → FitsUnion Written B variants u one content → FieldHolds B content other
      → field_at entries i ≡ Some (plain one) → field_at entries (i + 1) ≡ Some other → Goal
  there one content other (tag, bytes, some, fits) holds tag_is value_is =
      by_end H at_ steps required (nat_le (length V) (2 * i)) i S V
      (λ past. absurd (grind (arith, nat_tests, past, both)))
      (λ more. (
        (both, (clause.0, tt)),
        a_member H at_ steps required (Slot V i) (Slot V (i + 1)) (tag_at S (Slot V i)) tag_reads.0
            value_reads.0 (omega (arith, tag_there, some)) member,
      ))
    where
      tag_reads : SlotReads B k (Slot V i) (Some (plain one))
      tag_reads = subst (SlotReads B k (Slot V i)) tag_is (reads i)

      value_reads : SlotReads B k (Slot V (i + 1)) (Some other)
      value_reads = subst (SlotReads B k (Slot V (i + 1))) value_is (reads (i + 1))

      both : 2 * i + 4 ≤ length V
      both = let below = slot_below entries (i + 1) other value_is in omega (arith, below, long)

      tag_bytes : BytesStand B (k + Slot V i) (tag ∷ [])
      tag_bytes = subst (BytesStand B (k + Slot V i)) bytes tag_reads.1

      clause : AllHold (plain_clauses S (Slot V i) 1)
      clause = plain_there B k (Slot V i) (tag ∷ []) 1 refl (omega arith) tag_bytes

      tag_there : tag ≡ tag_at S (Slot V i)
      tag_there = num_value S (Slot V i) w8 tag
          (num_of_bytes S (Slot V i) w8 (tag ∷ []) refl (bytes_in_slice B k (Slot V i) (tag ∷ []) tag_bytes))

      member : StepsHold H (steps (tag_at S (Slot V i)) (Slot V (i + 1)))
      member = subst (λ (n : ℕ). StepsHold H (steps n (Slot V (i + 1)))) tag_there
          (held_variant H Written B tables_hold at_ k (Slot V (i + 1)) other value_reads.1
          (variant_in variants u tag) content fits holds)

  pub union_holds : (first next : Option Content) (field other : Option Field)
      → field_at entries i ≡ field → field_at entries (i + 1) ≡ other
      → FitsUnionIf Written B variants required u first next
      → FieldHoldsIf B first field → FieldHoldsIf B next other → Goal
  union_holds None None None None none other fits holds more = nothing fits none
  union_holds None None (Some field) other is too fits holds more = absurd holds
  union_holds None None None (Some other) is too fits holds more = absurd more
  union_holds (Some (item one)) (Some content) (Some field) (Some other) is too fits holds more =
      there one content other fits more (is ∙ ap Some holds) too
  union_holds (Some (item one)) (Some content) None other is too fits holds more = absurd holds
  union_holds (Some (item one)) (Some content) (Some field) None is too fits holds more = absurd more
  union_holds first next field other is too fits holds more = absurd fits
