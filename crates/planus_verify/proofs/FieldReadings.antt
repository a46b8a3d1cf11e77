-- The steps of a field, by what is read of it.
use Prim.Native.Nat.{zero, suc}
use Rattle.std.proofs.Common.{◌≡◌, ◌≢◌, ℕ, ◌+◌, ◌*◌, ◌≤◌, ◌<◌, ◌⊎◌, List, [], ◌∷◌, length, drop, refl, sym, subst, ap, ◌∙◌, arith, inl, inr, Bool, true, false, nat_le, leb-true, le-leb, Option, Some, None, Ok}
use Rattle.std.specs.Int.{w8}
use Rattle.planus_read.specs.Clauses.{Answer, shown, Clause, AllHold, FirstBroken}
use Rattle.planus_read.specs.Bytes.{Num}
use Rattle.planus_read.specs.Reading.{number, items_at, vector_clauses, vector_reading}
use Rattle.planus_read.specs.Reading.{union_vector_clauses, union_vector_reading}
use Rattle.planus_read.specs.Tables.{Slot, UnionThere, UnionAbsent, UnionBroken, HalfVector}
use Rattle.planus_read.specs.Tables.{table_object, table_slots, table_start, slot_of, UnionVectorSlots}
use Rattle.planus_read.specs.declared.errors.ErrorKind.{ErrorKind}
use Rattle.planus_read.specs.declared.errors.ErrorKind.TheVariants.{InvalidOffset}
use Rattle.planus_read.specs.declared.table_reader.Table.{Table}
use Rattle.planus_read.proofs.Reading.{num_inside, num_there, num_value, vector_holds, union_vector_holds}
use Rattle.planus_view.specs.UnionViews.{UnionView}
use Rattle.planus_view.specs.Views.{View}
use Rattle.planus_verify.specs.Steps.{Step, Tests, Faults, member_steps, union_steps, absent_steps}
use Rattle.planus_verify.specs.Steps.{union_field_steps, unions_field_steps, tag_at, field_steps}
use Rattle.planus_verify.specs.Steps.{variant_steps, place_faults, both_steps, unions_steps}
use Rattle.planus_verify.specs.Steps.{unions_at, items_from, union_clauses, present_steps}
use Rattle.planus_verify.specs.Steps.{kind_steps, value_steps, vector_steps, half_clauses, test_of}
use Rattle.planus_verify.specs.Schemas.{variant_in}
use Rattle.planus_verify.specs.declared.fault.Fault.TheVariants as fault
use Rattle.planus_verify.specs.declared.fault.FieldPlace.{FieldPlace}
use Rattle.planus_verify.specs.declared.schema.FieldKind.TheVariants as kind
use Rattle.planus_verify.specs.declared.schema.FieldShape.{FieldShape}
use Rattle.planus_verify.specs.declared.schema.ValueKind.{ValueKind}
use Rattle.planus_verify.specs.declared.schema.Variant.{Variant}
use Rattle.planus_verify.specs.declared.schema.VariantKind.{VariantKind}
use Rattle.planus_verify.proofs.Fields.{place_of}
use Rattle.planus_verify.proofs.Loops.{item_faults}
use Rattle.planus_verify.proofs.Outcomes.{broken}
use Rattle.planus_verify.proofs.Unions.{items_steps}

no_number : (S : List ℕ) (k : ℕ) → Num S k w8 ≡ None → k + 1 ≤ length S → ⊥
no_number S k none inside =
    let e : Some (number S k w8) ≡ None = sym (num_there S k w8 inside) ∙ none in
    absurd (let f : Some (number S k w8) ≡ None = e in cc)

-- What holds of steps, whichever they are, holds of those that numbers choose.
module _ (P : List Step → Type 0) (at : Faults) (required : Bool) where
  present :
      (steps : ℕ → List Step) (f : ℕ) → (f ≡ 0 → ⊥) → P (steps f)
      → P (present_steps at required steps f)
  present steps zero there h = absurd (there refl)
  present steps (suc f) there h = h

  module _ (steps : ℕ → ℕ → List Step) where
    member_there :
        (a f tag : ℕ) → a ≢ 0 → f ≢ 0 → tag ≢ 0 → P (steps tag f)
        → P (member_steps at required steps a f tag)
    member_there zero f tag some value known h = absurd (some refl)
    member_there (suc a) zero tag some value known h = absurd (value refl)
    member_there (suc a) (suc f) zero some value known h = absurd (known refl)
    member_there (suc a) (suc f) (suc tag) some value known h = h

    member_none :
        (a f tag : ℕ) → (tag ≡ 0) ⊎ (a ≡ 0) ⊎ (f ≡ 0) → P (absent_steps at required)
        → P (member_steps at required steps a f tag)
    member_none zero f tag none h = h
    member_none (suc a) zero tag none h = h
    member_none (suc a) (suc f) zero none h = h
    member_none (suc a) (suc f) (suc tag) (inl e) h = absurd (let g : suc tag ≡ 0 = e in cc)
    member_none (suc a) (suc f) (suc tag) (inr (inl e)) h = absurd (let g : suc a ≡ 0 = e in cc)
    member_none (suc a) (suc f) (suc tag) (inr (inr e)) h = absurd (let g : suc f ≡ 0 = e in cc)

    both_there :
        (f g : ℕ) → f ≢ 0 → g ≢ 0 → P (steps f g) → P (both_steps at required steps f g)
    both_there zero g first second h = absurd (first refl)
    both_there (suc f) zero first second h = absurd (second refl)
    both_there (suc f) (suc g) first second h = h

    both_none :
        (f g : ℕ) → f ≡ 0 → g ≡ 0 → P (absent_steps at required)
        → P (both_steps at required steps f g)
    both_none zero zero first second h = h
    both_none zero (suc g) first second h = absurd (let e : suc g ≡ 0 = second in cc)
    both_none (suc f) g first second h = absurd (let e : suc f ≡ 0 = first in cc)

    both_half :
        (f g : ℕ) → ((f ≡ 0) × (g ≢ 0)) ⊎ ((f ≢ 0) × (g ≡ 0)) → P (test_of at half_clauses)
        → P (both_steps at required steps f g)
    both_half zero zero (inl half) h = absurd (half.1 refl)
    both_half zero zero (inr half) h = absurd (half.0 refl)
    both_half zero (suc g) half h = h
    both_half (suc f) zero half h = h
    both_half (suc f) (suc g) (inl half) h = absurd (let e : suc f ≡ 0 = half.0 in cc)
    both_half (suc f) (suc g) (inr half) h = absurd (let e : suc g ≡ 0 = half.1 in cc)

    module _ (i : ℕ) (S V : List ℕ) where
      long_union :
          (b : Bool) → nat_le (length V) (2 * i) ≡ b → 2 * i < length V
          → P (union_steps at required false steps i S V)
          → P (union_steps at required b steps i S V)
      long_union true is long h =
          absurd (let short = leb-true (length V) (2 * i) is in omega (arith, short, long))
      long_union false is long h = h

      short_union :
          (b : Bool) → nat_le (length V) (2 * i) ≡ b → length V ≤ 2 * i
          → P (absent_steps at required) → P (union_steps at required b steps i S V)
      short_union true is short h = h
      short_union false is short h =
          absurd (let e = sym (le-leb (length V) (2 * i) short) ∙ is in cc)

      long_unions :
          (b : Bool) → nat_le (2 * i + 4) (length V) ≡ b → 2 * i + 4 ≤ length V
          → P (both_steps at required steps (Slot V i) (Slot V (i + 1)))
          → P (unions_steps at required b steps i V)
      long_unions true is long h = h
      long_unions false is long h =
          absurd (let e = sym (le-leb (2 * i + 4) (length V) long) ∙ is in cc)

      short_unions :
          (b : Bool) → nat_le (2 * i + 4) (length V) ≡ b → length V < 2 * i + 4
          → P (absent_steps at required) → P (unions_steps at required b steps i V)
      short_unions true is short h =
          absurd (let long = leb-true (2 * i + 4) (length V) is in omega (arith, short, long))
      short_unions false is short h = h

-- It holds of a field's steps, where it does of those that are read.
module _ (P : List Step → Type 0) where
  module _ (variants : List Variant) (t : ℕ) (S V : List ℕ) (start : ℕ) (field : FieldShape)
      (place : FieldPlace) (begins : place ≡ place_of t start field) where
    pub of_kind :
        (k : _) → field.kind ≡ k
        → P (kind_steps variants (place_faults place) field.required k field.slot S V start)
        → P (field_steps variants t S V start field)
    of_kind k is h =
        subst
        (λ one. P (kind_steps variants (place_faults (place_of t start field)) field.required one
        field.slot S V start)) (sym is)
        (subst
        (λ p. P (kind_steps variants (place_faults p) field.required k field.slot S V start)) begins
        h)

    pub value_read :
        (one : ValueKind) (B : List ℕ) (begin f : ℕ) → field.kind ≡ kind.Value one → B ≡ S
        → begin ≡ start → f ≡ Slot V field.slot → (f ≡ 0 → ⊥)
        → P (value_steps (place_faults place) one B begin f)
        → P (field_steps variants t S V start field)
    value_read one B begin f is bytes same at there h =
        of_kind (kind.Value one) is
        (subst
        (λ k. P (present_steps (place_faults place) field.required
        (value_steps (place_faults place) one S start) k)) at
        (present P (place_faults place) field.required (value_steps (place_faults place) one S start)
        f there
        (subst (λ l. P (value_steps (place_faults place) one l start f)) bytes
        (subst (λ k. P (value_steps (place_faults place) one B k f)) same h))))

    pub value_absent :
        (one : ValueKind) (f : ℕ) → field.kind ≡ kind.Value one → f ≡ Slot V field.slot → f ≡ 0
        → P (absent_steps (place_faults place) field.required)
        → P (field_steps variants t S V start field)
    value_absent one f is at none h =
        of_kind (kind.Value one) is
        (subst
        (λ k. P (present_steps (place_faults place) field.required
        (value_steps (place_faults place) one S start) k)) (sym none ∙ at) h)

  -- an item
  pub item_read :
      (place at : FieldPlace) (i : ℕ) (B S : List ℕ) (begin start f k : ℕ) (table : Option VariantKind)
      → at ≡ record { table = place.table; start = place.start; slot = place.slot; item = Some i }
      → B ≡ S → begin ≡ start → f ≡ k → P (variant_steps (fault.Field at) table B begin f)
      → P (variant_steps (place_faults place (Some i)) table S start k)
  item_read place at i B S begin start f k table e bytes begins offset h =
      subst (λ here. P (variant_steps here table S start k)) (item_faults place at i e)
      (subst (λ l. P (variant_steps (fault.Field at) table l start k)) bytes
      (subst (λ m. P (variant_steps (fault.Field at) table B m k)) begins
      (subst (λ m. P (variant_steps (fault.Field at) table B begin m)) offset h)))

  pub vector_read :
      (at : Faults) (item : ℕ → List ℕ → ℕ → ℕ → List Step) (S : List ℕ) (start f : ℕ) (view : View)
      → Answer (shown (λ items v. v ≡ record {
        bytes = drop items.position S;
        start = start + items.position;
        count = items.count;
      }) (vector_reading S f 4)) (Ok view)
      → (AllHold (vector_clauses S f 4)
      → P (Tests (at None) (vector_clauses S f 4)
      ∷ items_from 0 view.count (λ i. item i view.bytes view.start (i * 4))))
      → P (vector_steps at item S start f)
  vector_read at item S start f view there h =
      let holds = vector_holds S f 4 there.0.position there.0.count there.1 in
      let same = there.2 ∙ (ap (λ k. record {
        bytes = drop k S;
        start = start + k;
        count = there.0.count;
      }) holds.1 ∙ ap (λ n. record {
        bytes = drop (items_at S f) S;
        start = start + items_at S f;
        count = n;
      }) holds.2) in
      subst (λ (v : View). P (Tests (at None) (vector_clauses S f 4)
      ∷ items_from 0 v.count (λ i. item i v.bytes v.start (i * 4)))) same (h holds.0)

  module _ (variants : List Variant) (place : FieldPlace) (required : Bool) (u i : ℕ) (table : Table)
    where
      abbrev S : List ℕ
      S = table_object table

      abbrev V : List ℕ
      V = table_slots table

      abbrev at : Faults
      at = place_faults place

      abbrev member : ℕ → ℕ → List Step
      member tag = variant_steps (at None) (variant_in variants u tag) S (table_start table)

      abbrev long : Bool
      long = nat_le (length V) (2 * i)

      abbrev first : List Step → List Step
      first steps = Tests (at None) (union_clauses i S V) ∷ steps

      pub union_read :
          (tag given begin f : ℕ) (B : List ℕ) → UnionThere table i tag → given ≡ tag → B ≡ S
          → begin ≡ table_start table → f ≡ slot_of table (i + 1)
          → (AllHold (union_clauses i S V)
          → P (Tests (fault.Field place) (union_clauses i S V)
          ∷ variant_steps (fault.Field place) (variant_in variants u given) B begin f))
          → P (union_field_steps variants (place_faults place) required u i S V (table_start table))
      union_read tag given begin f B there is bytes begins offset h =
          let byte : given ≡ tag_at S (Slot V i) = is ∙ num_value S (Slot V i) w8 tag there.tag_byte in
          let both = there.both in
          let found = subst (λ l. P (first (variant_steps (at None) (variant_in variants u given) l (table_start table) (Slot V (i + 1))))) bytes
          (subst (λ k. P (first (variant_steps (at None) (variant_in variants u given) B k (Slot V (i + 1))))) begins
          (subst (λ k. P (first (variant_steps (at None) (variant_in variants u given) B begin k))) offset
          (h (both, (num_inside S (Slot V i) w8 tag there.tag_byte, tt))))) in
          long_union P at required member i S V long refl (omega (arith, both))
          (member_there (λ steps. P (first steps)) at required member (Slot V i) (Slot V (i + 1))
          (tag_at S (Slot V i)) there.tag_slot there.value_slot
          (λ zero. there.tag_present (sym is ∙ byte ∙ zero))
          (subst (λ k. P (first (member k (Slot V (i + 1))))) byte found))

      pub union_missing :
          UnionAbsent table i → P (absent_steps at required) → P (first (absent_steps at required))
          → P (union_field_steps variants (place_faults place) required u i S V (table_start table))
      union_missing (inl short) none tested =
          short_union P at required member i S V long refl short none
      union_missing (inr (both, (tag, byte, none))) h tested =
          long_union P at required member i S V long refl (omega (arith, both))
          (member_none (λ steps. P (first steps)) at required member (Slot V i) (Slot V (i + 1))
          (tag_at S (Slot V i))
          (subst (λ k. (k ≡ 0) ⊎ (Slot V i ≡ 0) ⊎ (Slot V (i + 1) ≡ 0))
          (num_value S (Slot V i) w8 tag byte) none) tested)

      pub union_damaged :
          (e : ErrorKind) → UnionBroken table i e
          → ((steps : List Step) → (AllHold (union_clauses i S V) → ⊥) → P (first steps))
          → P (union_field_steps variants (place_faults place) required u i S V (table_start table))
      union_damaged e (inl (both, none, is)) h =
          long_union P at required member i S V long refl (omega (arith, both))
          (h _ (λ holds. no_number S (Slot V i) none holds.1.0))
      union_damaged e (inr (some, short, is)) h =
          long_union P at required member i S V long refl some
          (h _ (λ holds. let both = holds.0 in omega (arith, both, short)))

      abbrev whole : Bool
      whole = nat_le (2 * i + 4) (length V)

      abbrev items : ℕ → ℕ → List Step
      items = unions_at at variants u S (table_start table)

      pub unions_missing :
          (length V < 2 * i + 4)
          ⊎ ((2 * i + 4 ≤ length V) × (Slot V i ≡ 0) × (Slot V (i + 1) ≡ 0))
          → P (absent_steps at required)
          → P (unions_field_steps variants (place_faults place) required u i S V (table_start table))
      unions_missing (inl short) h = short_unions P at required items i S V whole refl short h
      unions_missing (inr (both, tags, values)) h =
          long_unions P at required items i S V whole refl both
          (both_none P at required items (Slot V i) (Slot V (i + 1)) tags values h)

      pub unions_damaged :
          (e : ErrorKind)
          → (HalfVector table i × (e ≡ InvalidOffset))
          ⊎ (UnionVectorSlots table i
          × FirstBroken (union_vector_clauses S (Slot V i) (Slot V (i + 1))) e)
          → ((clauses : List Clause) (steps : List Step) → (AllHold clauses → ⊥)
          → P (Tests (at None) clauses ∷ steps))
          → P (unions_field_steps variants (place_faults place) required u i S V (table_start table))
      unions_damaged e (inl (half, is)) h =
          long_unions P at required items i S V whole refl half.0
          (both_half P at required items (Slot V i) (Slot V (i + 1)) half.1
          (h half_clauses [] (λ holds. holds.0)))
      unions_damaged e (inr (slots, fails)) h =
          long_unions P at required items i S V whole refl slots.both
          (both_there P at required items (Slot V i) (Slot V (i + 1)) slots.tags_slot
          slots.values_slot
          (h (union_vector_clauses S (Slot V i) (Slot V (i + 1))) _
          (broken (union_vector_clauses S (Slot V i) (Slot V (i + 1))) e fails)))

      pub unions_read :
          (view : UnionView) → UnionVectorSlots table i
          → Answer (shown (λ items v. v ≡ record {
            tags = drop items.tags S;
            references = drop items.references S;
            start = table_start table + items.references;
            count = items.count;
          }) (union_vector_reading S (Slot V i) (Slot V (i + 1)))) (Ok view)
          → (AllHold (union_vector_clauses S (Slot V i) (Slot V (i + 1)))
          → P (Tests (at None) (union_vector_clauses S (Slot V i) (Slot V (i + 1)))
          ∷ items_from 0 view.count (items_steps variants place u view)))
          → P (unions_field_steps variants (place_faults place) required u i S V (table_start table))
      unions_read view slots there h =
          let f = Slot V i in
          let g = Slot V (i + 1) in
          let one = there.0 in
          let tags = vector_holds S f 1 one.tags one.count there.1.tags_there in
          let values = vector_holds S g 4 one.references one.count there.1.references_there in
          let holds = union_vector_holds S f g one.tags one.references one.count there.1 in
          let same = there.2 ∙ (ap (λ k. record {
            tags = drop k S;
            references = drop one.references S;
            start = table_start table + one.references;
            count = one.count;
          }) tags.1 ∙ (ap (λ k. record {
            tags = drop (items_at S f) S;
            references = drop k S;
            start = table_start table + k;
            count = one.count;
          }) values.1 ∙ ap (λ n. record {
            tags = drop (items_at S f) S;
            references = drop (items_at S g) S;
            start = table_start table + items_at S g;
            count = n;
          }) tags.2)) in
          long_unions P at required items i S V whole refl slots.both
          (both_there P at required items f g slots.tags_slot slots.values_slot
          (subst (λ (v : UnionView). P (Tests (at None) (union_vector_clauses S f g)
          ∷ items_from 0 v.count (items_steps variants place u v))) same (h holds)))
