-- Unions of verified tables.
use Prim.Native.Nat.{zero, suc}
use Rattle.std.proofs.Common.{◌≡◌, ◌≢◌, ℕ, ◌+◌, ◌*◌, ◌≤◌, List, length, refl, sym, ap, subst, ◌∙◌, arith}
use Rattle.std.proofs.Common.{Bool, true, false, Option, Some, None, nat_le, leb-true}
use Rattle.std.proofs.Common.{inl, inr, ◌⊎◌, le-leb, IfSome}
use Rattle.std.proofs.Math.Logic.{∥∥₁_elim, ∥∥₁_map}
use Rattle.std.proofs.Props.{props}
use Rattle.std.specs.Int.{w8}
use Rattle.planus_read.specs.Bytes.{Num}
use Rattle.planus_read.specs.Reading.{number}
use Rattle.planus_read.specs.Tables.{Slot, UnionThere, UnionAbsent, table_object}
use Rattle.planus_read.specs.Tables.{table_slots, table_start, slot_of}
use Rattle.planus_read.specs.declared.table_reader.Table.{Table}
use Rattle.planus_read.proofs.Reading.{num_there, num_value}
use Rattle.planus_read.specs.declared.errors.ErrorKind.{ErrorKind}
use Rattle.planus_verify.specs.Schemas.{Shapes, variant_in}
use Rattle.planus_verify.specs.declared.fault.Fault.{Fault}
use Rattle.planus_verify.specs.Steps.{Step, Faults, union_steps, member_steps, variant_steps, tag_at}
use Rattle.planus_verify.specs.Verified.{OfTable, StepsHold, Verified, IsVerified}
use Rattle.planus_verify.specs.declared.schema.FieldKind.TheVariants as kind
use Rattle.planus_verify.specs.declared.schema.VariantKind.{VariantKind}
use Rattle.planus_verify.specs.declared.schema.VariantKind.TheVariants as variant
use Rattle.planus_views.specs.Fields.{Has, Unbroken, IsMember, VariantHolds}
use Rattle.planus_views.proofs.Fields.{field_holds, faults_of}

module _ (H : OfTable) (at : Faults) (steps : ℕ → ℕ → List Step) where
  there_of :
      (required : Bool) (a f tag : ℕ) → a ≢ 0 → f ≢ 0 → tag ≢ 0
      → StepsHold H (member_steps at required steps a f tag) → StepsHold H (steps tag f)
  there_of required zero f tag some value known h = absurd (some refl)
  there_of required (suc a) zero tag some value known h = absurd (value refl)
  there_of required (suc a) (suc f) zero some value known h = absurd (known refl)
  there_of required (suc a) (suc f) (suc tag) some value known h = h

  none_needed :
      (a f tag : ℕ) → (tag ≡ 0) ⊎ (a ≡ 0) ⊎ (f ≡ 0)
      → StepsHold H (member_steps at true steps a f tag) → ⊥
  none_needed zero f tag none h = h.0.0
  none_needed (suc a) zero tag none h = h.0.0
  none_needed (suc a) (suc f) zero none h = h.0.0
  none_needed (suc a) (suc f) (suc tag) (inl e) h = let g : suc tag ≡ 0 = e in cc
  none_needed (suc a) (suc f) (suc tag) (inr (inl e)) h = let g : suc a ≡ 0 = e in cc
  none_needed (suc a) (suc f) (suc tag) (inr (inr e)) h = let g : suc f ≡ 0 = e in cc

  module _ (i : ℕ) (S V : List ℕ) where
    both_of :
        (required b : Bool) → nat_le (length V) (2 * i) ≡ b → (length V ≤ 2 * i → ⊥)
        → StepsHold H (union_steps at required b steps i S V) → 2 * i + 4 ≤ length V
    both_of required true is long h = absurd (long (leb-true (length V) (2 * i) is))
    both_of required false is long h = h.0.0

    inside_of :
        (required b : Bool) → nat_le (length V) (2 * i) ≡ b → (length V ≤ 2 * i → ⊥)
        → StepsHold H (union_steps at required b steps i S V) → Slot V i + 1 ≤ length S
    inside_of required true is long h = absurd (long (leb-true (length V) (2 * i) is))
    inside_of required false is long h = h.0.1.0

    member_of :
        (required b : Bool) → nat_le (length V) (2 * i) ≡ b → (length V ≤ 2 * i → ⊥)
        → StepsHold H (union_steps at required b steps i S V)
        → StepsHold H (member_steps at required steps (Slot V i) (Slot V (i + 1))
        (tag_at S (Slot V i)))
    member_of required true is long h = absurd (long (leb-true (length V) (2 * i) is))
    member_of required false is long h = h.1

    short_needed :
        (b : Bool) → nat_le (length V) (2 * i) ≡ b → length V ≤ 2 * i
        → StepsHold H (union_steps at true b steps i S V) → ⊥
    short_needed true is short h = h.0.0
    short_needed false is short h = let e = sym (le-leb (length V) (2 * i) short) ∙ is in cc

-- what a tag's reference leads to, if the schema has the tag
pub variant_holds :
    (schema : Shapes) (n : ℕ) (here : ErrorKind → Fault) (one : Option VariantKind) (S : List ℕ)
    (start f : ℕ) → StepsHold (Verified schema n) (variant_steps here one S start f)
    → IfSome one (VariantHolds schema n start S f)
variant_holds schema n here None S start f h = tt
variant_holds schema n here (Some (variant.Table t)) S start f h = (h.0, h.1.0)
variant_holds schema n here (Some variant.Text) S start f h = h.0
variant_holds schema n here (Some (variant.Struct size)) S start f h = h.0

module _ (schema : Shapes) (t u i : ℕ) (required : Bool) (table : Table)
    (verified : IsVerified schema t table)
    (has : Has schema t i (record { slot = i; required = required; kind = kind.Union u })) where
  abbrev S : List ℕ
  S = table_object table

  abbrev V : List ℕ
  V = table_slots table

  abbrev at : Faults
  at = faults_of t table i

  abbrev member : ℕ → ℕ → List Step
  member tag = variant_steps (at None) (variant_in schema.variants u tag) S (table_start table)

  holds :
      ∥ ((n : ℕ) × StepsHold (Verified schema n)
      (union_steps at required (nat_le (length V) (2 * i)) member i S V)) ∥₁
  holds =
      field_holds schema t i (record { slot = i; required = required; kind = kind.Union u }) table
      verified has

  pub union_unbroken : Unbroken table i
  union_unbroken = record {
    both = λ long. ∥∥₁_elim holds (Prim.hlevel props)
        (λ h. both_of (Verified schema h.0) at member i S V required (nat_le (length V) (2 * i))
        refl long h.1);
    inside = λ long. ∥∥₁_elim holds (Prim.hlevel props)
        (λ h. inside_of (Verified schema h.0) at member i S V required
        (nat_le (length V) (2 * i)) refl long h.1);
  }

  pub is_member :
      (tag : ℕ) → UnionThere table i tag
      → IsMember schema u tag (table_start table) S (slot_of table (i + 1))
  is_member tag there =
      let both = there.both in
      let long : length V ≤ 2 * i → ⊥ = λ short. omega (arith, both, short) in
      let byte : tag ≡ tag_at S (Slot V i) = num_value S (Slot V i) w8 tag there.tag_byte in
      ∥∥₁_map holds
      (λ h. (
        h.0,
        variant_holds schema h.0 (at None) (variant_in schema.variants u tag) S
            (table_start table) (slot_of table (i + 1))
            (subst (λ k. StepsHold (Verified schema h.0) (member k (slot_of table (i + 1)))) (sym byte)
            (there_of (Verified schema h.0) at member required (Slot V i) (Slot V (i + 1))
            (tag_at S (Slot V i)) there.tag_slot there.value_slot
            (λ zero. there.tag_present (byte ∙ zero))
            (member_of (Verified schema h.0) at member i S V required (nat_le (length V) (2 * i))
            refl long h.1))),
      ))

-- The vtable ends before slot i.
absent_by :
    (table : Table) (i : ℕ) (b : Bool) → nat_le (length (table_slots table)) (2 * i) ≡ b
    → Unbroken table i
    → ((tag : ℕ) → Num (table_object table) (slot_of table i) w8 ≡ Some tag
    → (tag ≡ 0) ⊎ (slot_of table i ≡ 0) ⊎ (slot_of table (i + 1) ≡ 0))
    → UnionAbsent table i
absent_by table i true is whole none = inl (leb-true (length (table_slots table)) (2 * i) is)
absent_by table i false is whole none =
    let long : length (table_slots table) ≤ 2 * i → ⊥ =
    λ short. (let e = sym (le-leb (length (table_slots table)) (2 * i) short) ∙ is in cc) in
    let byte = num_there (table_object table) (slot_of table i) w8 (whole.inside long) in
    inr (whole.both long, (number (table_object table) (slot_of table i) w8, byte, none _ byte))

pub absent :
    (table : Table) (i : ℕ) → Unbroken table i
    → ((tag : ℕ) → Num (table_object table) (slot_of table i) w8 ≡ Some tag
    → (tag ≡ 0) ⊎ (slot_of table i ≡ 0) ⊎ (slot_of table (i + 1) ≡ 0))
    → UnionAbsent table i
absent table i = absent_by table i (nat_le (length (table_slots table)) (2 * i)) refl

not_absent_by :
    (H : OfTable) (schema : Shapes) (t u i : ℕ) (table : Table)
    → StepsHold H (union_steps (faults_of t table i) true
    (nat_le (length (table_slots table)) (2 * i))
    (λ tag. variant_steps (faults_of t table i None) (variant_in schema.variants u tag)
    (table_object table) (table_start table)) i (table_object table) (table_slots table))
    → UnionAbsent table i → ⊥
not_absent_by H schema t u i table h (inl short) =
    short_needed H (faults_of t table i)
    (λ tag. variant_steps (faults_of t table i None) (variant_in schema.variants u tag)
    (table_object table) (table_start table)) i (table_object table) (table_slots table)
    (nat_le (length (table_slots table)) (2 * i)) refl short h
not_absent_by H schema t u i table h (inr (both, (tag, byte, none))) =
    let S = table_object table in let V = table_slots table in
    none_needed H (faults_of t table i)
    (λ tag. variant_steps (faults_of t table i None) (variant_in schema.variants u tag)
    (table_object table) (table_start table)) (Slot V i) (Slot V (i + 1)) (tag_at S (Slot V i))
    (subst (λ n. (n ≡ 0) ⊎ (Slot V i ≡ 0) ⊎ (Slot V (i + 1) ≡ 0))
    (num_value S (Slot V i) w8 tag byte) none)
    (member_of H (faults_of t table i)
    (λ tag. variant_steps (faults_of t table i None) (variant_in schema.variants u tag)
    (table_object table) (table_start table)) i S V true (nat_le (length V) (2 * i)) refl
    (λ short. omega (arith, both, short)) h)

pub not_absent :
    (schema : Shapes) (t u i : ℕ) (table : Table) → IsVerified schema t table
    → Has schema t i (record { slot = i; required = true; kind = kind.Union u })
    → UnionAbsent table i → ⊥
not_absent schema t u i table verified has none =
    ∥∥₁_elim
    (field_holds schema t i (record { slot = i; required = true; kind = kind.Union u }) table verified
    has)
    (Prim.hlevel props) (λ h. not_absent_by (Verified schema h.0) schema t u i table h.1 none)

-- what the reference of a tag leads to that the schema has
pub member_holds :
    (schema : Shapes) (u tag given : ℕ) (one : VariantKind) (start : ℕ) (S : List ℕ) (f : ℕ)
    → tag ≡ given → variant_in schema.variants u given ≡ Some one
    → IsMember schema u tag start S f → ∥ ((n : ℕ) × VariantHolds schema n start S f one) ∥₁
member_holds schema u tag given one start S f same is member =
    ∥∥₁_map member
    (λ h. (
      h.0,
      subst (λ (o : Option VariantKind). IfSome o (VariantHolds schema h.0 start S f))
          (ap (λ n. variant_in schema.variants u n) same ∙ is) h.1,
    ))
