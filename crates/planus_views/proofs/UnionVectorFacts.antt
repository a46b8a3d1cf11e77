-- Verified vectors of unions.
use Prim.Native.Nat.{zero, suc}
use Rattle.std.proofs.Common.{◌≡◌, ◌≢◌, ℕ, ◌+◌, ◌*◌, ◌≤◌, ◌<◌, ◌⊎◌, List, length, drop, refl, sym, subst, ◌∙◌, arith, inl, inr}
use Rattle.std.proofs.Common.{Bool, true, false, nat_le, leb-true, le-leb, slice_index, Some, Ok}
use Rattle.std.proofs.Math.Logic.{∥∥₁_elim, ∥∥₁_map}
use Rattle.std.proofs.Props.{props}
use Rattle.planus_read.specs.Reading.{items_at, count_at}
use Rattle.planus_read.specs.Tables.{Slot, UnionVectorSlots, HalfVector, table_object}
use Rattle.planus_read.specs.Tables.{table_slots, table_start, slot_of}
use Rattle.planus_read.specs.declared.table_reader.Table.{Table}
use Rattle.planus_view.specs.declared.union_vector.UnionSliceView.{UnionSliceView}
use Rattle.planus_view.specs.declared.vector_of.VectorOf.{VectorOf}
use Rattle.planus.specs.ReadUnions.{reads_unions}
use Rattle.planus_verify.specs.Schemas.{Shapes, variant_in}
use Rattle.planus_verify.specs.Steps.{Step, Faults, both_steps, unions_steps, unions_at}
use Rattle.planus_verify.specs.Verified.{OfTable, StepsHold, Verified, IsVerified}
use Rattle.planus_verify.specs.declared.schema.FieldKind.TheVariants as kind
use Rattle.planus_views.specs.Fields.{Has, UnionsHold, UnionVectorAbsent}
use Rattle.planus_views.proofs.Fields.{field_holds, faults_of, items_hold}
use Rattle.planus_views.proofs.UnionFacts.{variant_holds}

abbrev Half : ℕ → ℕ → Type 0
Half f g = ((f ≡ 0) × (g ≢ 0)) ⊎ ((f ≢ 0) × (g ≡ 0))

module _ (H : OfTable) (at : Faults) (steps : ℕ → ℕ → List Step) where
  not_half_of :
      (required : Bool) (f g : ℕ) → Half f g → StepsHold H (both_steps at required steps f g) → ⊥
  not_half_of required zero zero (inl e) h = e.1 refl
  not_half_of required zero zero (inr e) h = e.0 refl
  not_half_of required zero (suc g) e h = h.0.0
  not_half_of required (suc f) zero e h = h.0.0
  not_half_of required (suc f) (suc g) (inl e) h = let x : suc f ≡ 0 = e.0 in cc
  not_half_of required (suc f) (suc g) (inr e) h = let x : suc g ≡ 0 = e.1 in cc

  both_of :
      (required : Bool) (f g : ℕ) → f ≢ 0 → g ≢ 0
      → StepsHold H (both_steps at required steps f g) → StepsHold H (steps f g)
  both_of required zero g first second h = absurd (first refl)
  both_of required (suc f) zero first second h = absurd (second refl)
  both_of required (suc f) (suc g) first second h = h

  none_needed :
      (f g : ℕ) → f ≡ 0 → g ≡ 0 → StepsHold H (both_steps at true steps f g) → ⊥
  none_needed zero zero first second h = h.0.0
  none_needed zero (suc g) first second h = let x : suc g ≡ 0 = second in cc
  none_needed (suc f) g first second h = let x : suc f ≡ 0 = first in cc

  module _ (i : ℕ) (V : List ℕ) where
    long_of :
        (required b : Bool) → nat_le (2 * i + 4) (length V) ≡ b → 2 * i + 4 ≤ length V
        → StepsHold H (unions_steps at required b steps i V)
        → StepsHold H (both_steps at required steps (Slot V i) (Slot V (i + 1)))
    long_of required true is long h = h
    long_of required false is long h =
        absurd (let e = sym (le-leb (2 * i + 4) (length V) long) ∙ is in cc)

    short_needed :
        (b : Bool) → nat_le (2 * i + 4) (length V) ≡ b → length V < 2 * i + 4
        → StepsHold H (unions_steps at true b steps i V) → ⊥
    short_needed true is short h =
        let long = leb-true (2 * i + 4) (length V) is in omega (arith, long, short)
    short_needed false is short h = h.0.0

module _ (schema : Shapes) (t u i : ℕ) (required : Bool) (table : Table)
    (verified : IsVerified schema t table)
    (has : Has schema t i (record { slot = i; required = required; kind = kind.Unions u })) where
  abbrev S : List ℕ
  S = table_object table

  abbrev V : List ℕ
  V = table_slots table

  abbrev at : Faults
  at = faults_of t table i

  abbrev items : ℕ → ℕ → List Step
  items = unions_at at schema.variants u S (table_start table)

  holds :
      ∥ ((n : ℕ) × StepsHold (Verified schema n)
      (unions_steps at required (nat_le (2 * i + 4) (length V)) items i V)) ∥₁
  holds =
      field_holds schema t i (record { slot = i; required = required; kind = kind.Unions u }) table
      verified has

  pub not_half : HalfVector table i → ⊥
  not_half half =
      ∥∥₁_elim holds (Prim.hlevel props)
      (λ h. not_half_of (Verified schema h.0) at items required (Slot V i) (Slot V (i + 1)) half.1
      (long_of (Verified schema h.0) at items i V required (nat_le (2 * i + 4) (length V)) refl
      half.0 h.1))

  each_member :
      (n f g : ℕ) → StepsHold (Verified schema n) (items f g)
      → UnionsHold schema n u (table_start table) S f g
  each_member n f g h = (
    h.0,
    λ k below. variant_holds schema n (at (Some k))
        (variant_in schema.variants u (slice_index (drop (items_at S f) S) k))
        (drop (items_at S g) S) (table_start table + items_at S g) (k * 4)
        (items_hold (Verified schema n) _ (count_at S f) k h.1 below),
  )

  pub unions_hold :
      UnionVectorSlots table i
      → ∥ ((n : ℕ) × UnionsHold schema n u (table_start table) S (slot_of table i)
      (slot_of table (i + 1))) ∥₁
  unions_hold slots =
      ∥∥₁_map holds
      (λ h. (
        h.0,
        each_member h.0 (Slot V i) (Slot V (i + 1))
            (both_of (Verified schema h.0) at items required (Slot V i) (Slot V (i + 1))
            slots.tags_slot slots.values_slot
            (long_of (Verified schema h.0) at items i V required (nat_le (2 * i + 4) (length V))
            refl slots.both h.1)),
      ))

-- a required one isn't absent
module _ (schema : Shapes) (t u i : ℕ) (table : Table) where
  abbrev its_items : ℕ → ℕ → List Step
  its_items =
      unions_at (faults_of t table i) schema.variants u (table_object table) (table_start table)

  not_absent_by :
      (H : OfTable)
      → StepsHold H (unions_steps (faults_of t table i) true
      (nat_le (2 * i + 4) (length (table_slots table))) its_items i (table_slots table))
      → UnionVectorAbsent table i → ⊥
  not_absent_by H h (inl short) =
      short_needed H (faults_of t table i) its_items i (table_slots table)
      (nat_le (2 * i + 4) (length (table_slots table))) refl short h
  not_absent_by H h (inr (both, first, second)) =
      none_needed H (faults_of t table i) its_items (slot_of table i) (slot_of table (i + 1)) first
      second
      (long_of H (faults_of t table i) its_items i (table_slots table) true
      (nat_le (2 * i + 4) (length (table_slots table))) refl both h)

  pub unions_not_absent :
      IsVerified schema t table
      → Has schema t i (record { slot = i; required = true; kind = kind.Unions u })
      → UnionVectorAbsent table i → ⊥
  unions_not_absent verified has none =
      ∥∥₁_elim
      (field_holds schema t i (record { slot = i; required = true; kind = kind.Unions u }) table
      verified has)
      (Prim.hlevel props) (λ h. not_absent_by (Verified schema h.0) h.1 none)

-- The same at an equal schema, and where the accessor found the slots.
pub hold_at :
    (given schema : Shapes) (u : ℕ) (table : Table) (i : ℕ) (B : List ℕ) (start f g : ℕ)
    → given ≡ schema → B ≡ table_object table → start ≡ table_start table → f ≡ slot_of table i
    → g ≡ slot_of table (i + 1)
    → ∥ ((n : ℕ) × UnionsHold schema n u (table_start table) (table_object table) (slot_of table i)
    (slot_of table (i + 1))) ∥₁
    → ∥ ((n : ℕ) × UnionsHold given n u start B f g) ∥₁
hold_at given schema u table i B start f g same bytes begin first second h =
    subst (λ (s : Shapes). ∥ ((n : ℕ) × UnionsHold s n u start B f g) ∥₁) (sym same)
    (subst (λ l. ∥ ((n : ℕ) × UnionsHold schema n u start l f g) ∥₁) (sym bytes)
    (subst (λ k. ∥ ((n : ℕ) × UnionsHold schema n u k (table_object table) f g) ∥₁) (sym begin)
    (subst (λ k. ∥ ((n : ℕ) × UnionsHold schema n u (table_start table) (table_object table) k g) ∥₁) (sym first)
    (subst (λ k. ∥ ((n : ℕ) × UnionsHold schema n u (table_start table) (table_object table) (slot_of table i) k) ∥₁) (sym second) h))))

pub unions_answered :
    {T E : Type 0} (table : Table) (i : ℕ) (B : List ℕ) (start f g : ℕ)
    (vector : VectorOf (UnionSliceView T E)) → UnionVectorSlots table i → B ≡ table_object table
    → start ≡ table_start table → f ≡ slot_of table i → g ≡ slot_of table (i + 1)
    → reads_unions B start f g (Ok vector)
    → UnionVectorSlots table i
    × reads_unions (table_object table) (table_start table) (slot_of table i) (slot_of table (i + 1))
    (Ok vector)
unions_answered table i B start f g vector slots bytes begin first second h = (
  slots,
  subst (λ l. reads_unions l (table_start table) (slot_of table i) (slot_of table (i + 1)) (Ok vector)) bytes
      (subst (λ k. reads_unions B k (slot_of table i) (slot_of table (i + 1)) (Ok vector)) begin
      (subst (λ k. reads_unions B start k (slot_of table (i + 1)) (Ok vector)) first
      (subst (λ k. reads_unions B start f k (Ok vector)) second h))),
)
