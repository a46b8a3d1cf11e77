-- Unions and vectors of unions.
use Prim.Native.Nat.{zero, suc}
use Rattle.std.proofs.Common.{◌≡◌, ◌≢◌, ℕ, ◌+◌, ◌*◌, ◌≤◌, ◌<◌, ◌⊎◌, List, length, drop, slice_index, refl, sym, subst, ap, ◌∙◌, arith, inl, inr, Bool, true, false, nat_le, leb-true, le-leb, Option, Some, None, Result, Ok, Err}
use Rattle.std.specs.Int.{w8}
use Rattle.planus_read.specs.Clauses.{Answer, shown, FirstBroken}
use Rattle.planus_read.specs.Reading.{items_at, union_vector_reading}
use Rattle.planus_read.specs.Reading.{union_vector_clauses}
use Rattle.planus_read.specs.Tables.{Slot, UnionThere, UnionAbsent, table_object}
use Rattle.planus_read.specs.Tables.{table_slots, table_start, slot_of, UnionVectorSlots}
use Rattle.planus_read.specs.Tables.{HalfVector, ReadsBoth, UnionAnswer, UnionVectorAnswer}
use Rattle.planus_read.specs.Places.{IsTaggedPlace, tagged_place_reading}
use Rattle.planus_read.specs.declared.place.TaggedPlace.{TaggedPlace}
use Rattle.planus_read.specs.declared.errors.ErrorKind.{ErrorKind}
use Rattle.planus_read.specs.declared.errors.ErrorKind.TheVariants.{InvalidOffset}
use Rattle.planus_read.specs.declared.table_reader.Table.{Table}
use Rattle.planus_read.proofs.Reading.{num_inside, num_value, vector_holds, union_vector_holds}
use Rattle.planus_view.specs.UnionViews.{UnionView}
use Rattle.planus_view.specs.UnionVectorView.{ShowsUnionVector}
use Rattle.planus_view.specs.declared.union_vector.UnionSliceView.{UnionSliceView}
use Rattle.planus_view.specs.declared.vector_of.VectorOf.{VectorOf}
use Rattle.planus_verify.specs.Steps.{Step, Faults, member_steps, union_steps, absent_steps}
use Rattle.planus_verify.specs.Steps.{union_field_steps, unions_field_steps, tag_at}
use Rattle.planus_verify.specs.Steps.{variant_steps, place_faults, both_steps, unions_steps}
use Rattle.planus_verify.specs.Steps.{unions_at, items_from}
use Rattle.planus_verify.specs.Schemas.{variant_in}
use Rattle.planus_verify.specs.Walks.{DoesTable, InOrder, absent_as}
use Rattle.planus_verify.specs.declared.fault.Fault.{Fault}
use Rattle.planus_verify.specs.declared.fault.Fault.TheVariants as fault
use Rattle.planus_verify.specs.declared.fault.FieldPlace.{FieldPlace}
use Rattle.planus_verify.specs.declared.schema.Variant.{Variant}
use Rattle.planus_verify.proofs.Fields.{absent_is}

module _ (W : DoesTable) (at : Faults) (required : Bool) (steps : ℕ → ℕ → List Step) (left : ℕ)
    (r : Result ℕ Fault) where
  member_there :
      (a f tag : ℕ) → a ≢ 0 → f ≢ 0 → tag ≢ 0 → InOrder W (steps tag f) left r
      → InOrder W (member_steps at required steps a f tag) left r
  member_there zero f tag some value known h = absurd (some refl)
  member_there (suc a) zero tag some value known h = absurd (value refl)
  member_there (suc a) (suc f) zero some value known h = absurd (known refl)
  member_there (suc a) (suc f) (suc tag) some value known h = h

  member_none :
      (a f tag : ℕ) → (tag ≡ 0) ⊎ (a ≡ 0) ⊎ (f ≡ 0) → InOrder W (absent_steps at required) left r
      → InOrder W (member_steps at required steps a f tag) left r
  member_none zero f tag none h = h
  member_none (suc a) zero tag none h = h
  member_none (suc a) (suc f) zero none h = h
  member_none (suc a) (suc f) (suc tag) (inl e) h = absurd (let g : suc tag ≡ 0 = e in cc)
  member_none (suc a) (suc f) (suc tag) (inr (inl e)) h = absurd (let g : suc a ≡ 0 = e in cc)
  member_none (suc a) (suc f) (suc tag) (inr (inr e)) h = absurd (let g : suc f ≡ 0 = e in cc)

  both_there :
      (f g : ℕ) → f ≢ 0 → g ≢ 0 → InOrder W (steps f g) left r
      → InOrder W (both_steps at required steps f g) left r
  both_there zero g first second h = absurd (first refl)
  both_there (suc f) zero first second h = absurd (second refl)
  both_there (suc f) (suc g) first second h = h

  both_none :
      (f g : ℕ) → f ≡ 0 → g ≡ 0 → InOrder W (absent_steps at required) left r
      → InOrder W (both_steps at required steps f g) left r
  both_none zero zero first second h = h
  both_none zero (suc g) first second h = absurd (let e : suc g ≡ 0 = second in cc)
  both_none (suc f) g first second h = absurd (let e : suc f ≡ 0 = first in cc)

module _ (W : DoesTable) (at : Faults) (required : Bool) (steps : ℕ → ℕ → List Step) (i : ℕ)
    (S V : List ℕ) (left : ℕ) (r : Result ℕ Fault) where
  -- The vtable doesn't end before both slots.
  long_union :
      (b : Bool) → nat_le (length V) (2 * i) ≡ b → 2 * i < length V
      → InOrder W (union_steps at required false steps i S V) left r
      → InOrder W (union_steps at required b steps i S V) left r
  long_union true is long h =
      absurd (let short = leb-true (length V) (2 * i) is in omega (arith, short, long))
  long_union false is long h = h

  short_union :
      (b : Bool) → nat_le (length V) (2 * i) ≡ b → length V ≤ 2 * i
      → InOrder W (absent_steps at required) left r
      → InOrder W (union_steps at required b steps i S V) left r
  short_union true is short h = h
  short_union false is short h =
      absurd (let e = sym (le-leb (length V) (2 * i) short) ∙ is in cc)

  long_unions :
      (b : Bool) → nat_le (2 * i + 4) (length V) ≡ b → 2 * i + 4 ≤ length V
      → InOrder W (both_steps at required steps (Slot V i) (Slot V (i + 1))) left r
      → InOrder W (unions_steps at required b steps i V) left r
  long_unions true is long h = h
  long_unions false is long h =
      absurd (let e = sym (le-leb (2 * i + 4) (length V) long) ∙ is in cc)

  short_unions :
      (b : Bool) → nat_le (2 * i + 4) (length V) ≡ b → length V < 2 * i + 4
      → InOrder W (absent_steps at required) left r
      → InOrder W (unions_steps at required b steps i V) left r
  short_unions true is short h =
      absurd (let long = leb-true (2 * i + 4) (length V) is in omega (arith, short, long))
  short_unions false is short h = h

half_stops :
    (W : DoesTable) (at : Faults) (required : Bool) (steps : ℕ → ℕ → List Step) (left f g : ℕ)
    → ((f ≡ 0) × (g ≢ 0)) ⊎ ((f ≢ 0) × (g ≡ 0))
    → InOrder W (both_steps at required steps f g) left (Err (at None InvalidOffset))
half_stops W at required steps left zero zero (inl h) = absurd (h.1 refl)
half_stops W at required steps left zero zero (inr h) = absurd (h.0 refl)
half_stops W at required steps left zero (suc g) h =
    inr (at None InvalidOffset, (InvalidOffset, inl (λ no. no, refl), refl), refl)
half_stops W at required steps left (suc f) zero h =
    inr (at None InvalidOffset, (InvalidOffset, inl (λ no. no, refl), refl), refl)
half_stops W at required steps left (suc f) (suc g) (inl h) =
    absurd (let e : suc f ≡ 0 = h.0 in cc)
half_stops W at required steps left (suc f) (suc g) (inr h) =
    absurd (let e : suc g ≡ 0 = h.1 in cc)

-- the steps of a union vector's items, by its view
abbrev pub items_steps : List Variant → FieldPlace → ℕ → UnionView → ℕ → List Step
items_steps variants place u view k =
    variant_steps (place_faults place (Some k)) (variant_in variants u (slice_index view.tags k))
    view.references view.start (k * 4)

-- what readers of tagged places and of union vectors answer
abbrev pub TaggedThere : Table → ℕ → TaggedPlace → Type 0
TaggedThere table i tagged =
    (tag : ℕ) × UnionThere table i tag
    × IsTaggedPlace (table_object table) (table_start table) tag (slot_of table (i + 1)) tagged

abbrev reads_tagged : ReadsBoth TaggedPlace
reads_tagged S start tag f r = Answer (tagged_place_reading S start tag f) r

pub tagged_there :
    (table : Table) (i : ℕ) (found : Option TaggedPlace) (tagged : TaggedPlace)
    → found ≡ Some tagged → UnionAnswer reads_tagged table i (Ok found) → TaggedThere table i tagged
tagged_there table i found tagged is answer =
    subst (λ o. UnionAnswer reads_tagged table i (Ok o)) is answer

pub tagged_absent :
    (table : Table) (i : ℕ) (found : Option TaggedPlace)
    → found ≡ None → UnionAnswer reads_tagged table i (Ok found) → UnionAbsent table i
tagged_absent table i found is answer =
    subst (λ o. UnionAnswer reads_tagged table i (Ok o)) is answer

abbrev pub reads_unions : {T E : _} → ReadsBoth (VectorOf (UnionSliceView T E))
reads_unions S start f g r = Answer (shown (ShowsUnionVector S start) (union_vector_reading S f g)) r

pub vector_there :
    {T E : _} (table : Table) (i : ℕ) (found : Option (VectorOf (UnionSliceView T E)))
    (items : VectorOf (UnionSliceView T E)) → found ≡ Some items
    → UnionVectorAnswer (reads_unions {T = T} {E = E}) table i (Ok found)
    → UnionVectorSlots table i
    × reads_unions {T = T} {E = E} (table_object table) (table_start table) (slot_of table i)
    (slot_of table (i + 1)) (Ok items)
vector_there {T} {E} table i found items is answer =
    subst (λ o. UnionVectorAnswer (reads_unions {T = T} {E = E}) table i (Ok o)) is answer

module _ (W : DoesTable) (variants : List Variant) (place : FieldPlace) (required : Bool) (u i : ℕ)
    (table : Table) (left : ℕ) where
  abbrev S : List ℕ
  S = table_object table

  abbrev V : List ℕ
  V = table_slots table

  abbrev at : Faults
  at = place_faults place

  abbrev member : ℕ → ℕ → List Step
  member tag = variant_steps (at None) (variant_in variants u tag) S (table_start table)

  abbrev long : Bool
  long = nat_le (length V) (2 * i)

  pub union_there :
      (tag given begin f : ℕ) (B : List ℕ) (r : Result ℕ Fault) → UnionThere table i tag
      → given ≡ tag → B ≡ S → begin ≡ table_start table → f ≡ slot_of table (i + 1)
      → InOrder W (variant_steps (fault.Field place) (variant_in variants u given) B begin f) left r
      → InOrder W
      (union_field_steps variants (place_faults place) required u i S V (table_start table)) left r
  union_there tag given begin f B r there is bytes begins offset h =
      let byte : given ≡ tag_at S (Slot V i) = is ∙ num_value S (Slot V i) w8 tag there.tag_byte in
      let both = there.both in
      let found = subst (λ l. InOrder W (variant_steps (at None) (variant_in variants u given) l (table_start table) (Slot V (i + 1))) left r) bytes
      (subst (λ n. InOrder W (variant_steps (at None) (variant_in variants u given) B n (Slot V (i + 1))) left r) begins
      (subst (λ n. InOrder W (variant_steps (at None) (variant_in variants u given) B begin n) left r) offset h)) in
      long_union W at required member i S V left r long refl (omega (arith, both))
      (inl (
        left,
        ((there.both, (num_inside S (Slot V i) w8 tag there.tag_byte, tt)), refl),
        member_there W at required member left r (Slot V i) (Slot V (i + 1)) (tag_at S (Slot V i))
            there.tag_slot there.value_slot
            (λ zero. there.tag_present (sym is ∙ byte ∙ zero))
            (subst (λ n. InOrder W (member n (Slot V (i + 1))) left r) byte found),
      ))

  pub union_absent :
      (r : Result ℕ Fault) → UnionAbsent table i → r ≡ absent_as place required left
      → InOrder W
      (union_field_steps variants (place_faults place) required u i S V (table_start table)) left r
  union_absent r (inl short) e =
      short_union W at required member i S V left r long refl short
      (absent_is W place required left r e)
  union_absent r (inr (both, (tag, byte, none))) e =
      long_union W at required member i S V left r long refl (omega (arith, both))
      (inl (
        left,
        ((both, (num_inside S (Slot V i) w8 tag byte, tt)), refl),
        member_none W at required member left r (Slot V i) (Slot V (i + 1)) (tag_at S (Slot V i))
            (subst (λ n. (n ≡ 0) ⊎ (Slot V i ≡ 0) ⊎ (Slot V (i + 1) ≡ 0))
            (num_value S (Slot V i) w8 tag byte) none)
            (absent_is W place required left r e),
      ))

  abbrev whole : Bool
  whole = nat_le (2 * i + 4) (length V)

  pub unions_absent :
      (r : Result ℕ Fault)
      → (length V < 2 * i + 4)
      ⊎ ((2 * i + 4 ≤ length V) × (Slot V i ≡ 0) × (Slot V (i + 1) ≡ 0))
      → r ≡ absent_as place required left
      → InOrder W
      (unions_field_steps variants (place_faults place) required u i S V (table_start table)) left r
  unions_absent r (inl short) e =
      short_unions W at required (unions_at at variants u S (table_start table)) i S V left r whole
      refl short (absent_is W place required left r e)
  unions_absent r (inr (both, first, second)) e =
      long_unions W at required (unions_at at variants u S (table_start table)) i S V left r whole
      refl both
      (both_none W at required (unions_at at variants u S (table_start table)) left r (Slot V i)
      (Slot V (i + 1)) first second (absent_is W place required left r e))

  pub unions_fail :
      (e : ErrorKind)
      → (HalfVector table i × (e ≡ InvalidOffset))
      ⊎ (UnionVectorSlots table i
      × FirstBroken (union_vector_clauses S (Slot V i) (Slot V (i + 1))) e)
      → InOrder W
      (unions_field_steps variants (place_faults place) required u i S V (table_start table)) left
      (Err (fault.Field place e))
  unions_fail e (inl (half, is)) =
      subst
      (λ k. InOrder W (unions_field_steps variants (place_faults place) required u i S V
      (table_start table)) left (Err (fault.Field place k))) (sym is)
      (long_unions W at required (unions_at at variants u S (table_start table)) i S V left
      (Err (fault.Field place InvalidOffset)) whole refl half.0
      (half_stops W at required (unions_at at variants u S (table_start table)) left (Slot V i)
      (Slot V (i + 1)) half.1))
  unions_fail e (inr (slots, fails)) =
      long_unions W at required (unions_at at variants u S (table_start table)) i S V left
      (Err (fault.Field place e)) whole refl slots.both
      (both_there W at required (unions_at at variants u S (table_start table)) left
      (Err (fault.Field place e)) (Slot V i) (Slot V (i + 1)) slots.tags_slot slots.values_slot
      (inr (fault.Field place e, (e, fails, refl), refl)))

  pub unions_there :
      (view : UnionView) (r : Result ℕ Fault) → UnionVectorSlots table i
      → Answer (shown (λ items v. v ≡ record {
        tags = drop items.tags S;
        references = drop items.references S;
        start = table_start table + items.references;
        count = items.count;
      }) (union_vector_reading S (Slot V i) (Slot V (i + 1)))) (Ok view)
      → InOrder W (items_from 0 view.count (items_steps variants place u view)) left r
      → InOrder W
      (unions_field_steps variants (place_faults place) required u i S V (table_start table)) left r
  unions_there view r slots there h =
      let f = Slot V i in
      let g = Slot V (i + 1) in
      let items = there.0 in
      let tags = vector_holds S f 1 items.tags items.count there.1.tags_there in
      let values = vector_holds S g 4 items.references items.count there.1.references_there in
      let holds = union_vector_holds S f g items.tags items.references items.count there.1 in
      let same = there.2 ∙ (ap (λ k. record {
        tags = drop k S;
        references = drop items.references S;
        start = table_start table + items.references;
        count = items.count;
      }) tags.1 ∙ (ap (λ k. record {
        tags = drop (items_at S f) S;
        references = drop k S;
        start = table_start table + k;
        count = items.count;
      }) values.1 ∙ ap (λ n. record {
        tags = drop (items_at S f) S;
        references = drop (items_at S g) S;
        start = table_start table + items_at S g;
        count = n;
      }) tags.2)) in
      long_unions W at required (unions_at at variants u S (table_start table)) i S V left r whole
      refl slots.both
      (both_there W at required (unions_at at variants u S (table_start table)) left r f g
      slots.tags_slot slots.values_slot
      (inl (
        left,
        (holds, refl),
        subst (λ (v : UnionView). InOrder W (items_from 0 v.count (items_steps variants place u v)) left r) same h,
      )))
