-- What is verified of a field.
use Prim.Native.Nat.{zero, suc}
use Rattle.std.proofs.Common.{◌≡◌, ℕ, ◌+◌, ◌<◌, ◌==◌, List, [], ◌∷◌, ◌++◌, drop, Bool, true, false, if◌then◌else◌, Option, Some, None, subst, sym, Ok, Err, inl, inr, refl, arith}
use Rattle.std.proofs.Math.Logic.{∥∥₁_elim, ∥∥₁_map}
use Rattle.std.proofs.Props.{props}
use Rattle.planus_read.specs.Clauses.{Answer, shown}
use Rattle.planus_read.specs.Reading.{count_at, items_at, table_reading, target, slots_of}
use Rattle.planus_read.specs.Tables.{Reads, FieldAnswer, table_object, table_slots, table_start}
use Rattle.planus_read.specs.Tables.{slot_of, ShowsTable}
use Rattle.planus_read.specs.declared.table_reader.Table.{Table}
use Rattle.planus_verify.specs.Schemas.{Shapes, fields_of}
use Rattle.planus_verify.specs.Steps.{Step, Faults, items_from, present_steps, value_steps}
use Rattle.planus_verify.specs.Steps.{field_steps, fields_steps, place_faults}
use Rattle.planus_verify.specs.Verified.{OfTable, StepsHold, Verified, IsVerified}
use Rattle.planus_verify.specs.declared.schema.FieldKind.TheVariants as kind
use Rattle.planus_verify.specs.declared.schema.FieldShape.{FieldShape}
use Rattle.planus_verify.specs.declared.schema.ValueKind.{ValueKind}
use Rattle.planus_verify.specs.declared.schema.Variant.{Variant}
use Rattle.planus_verify.specs.declared.schema.ValueKind.TheVariants as value
use Rattle.planus_verify.specs.Walks.{RootWalks}
use Rattle.planus_verify.proofs.Outcomes.{walks_pass}
use Rattle.planus_verify.proofs.Tables.{IsTableAt, table_is}
use Rattle.planus_views.specs.Fields.{field_in, Has, IsPlace, MustHave, TextHolds, TableHolds}
use Rattle.planus_views.specs.Fields.{EachHolds}

split : (H : OfTable) (xs ys : List Step) → StepsHold H (xs ++ ys) → StepsHold H xs × StepsHold H ys
split H [] ys h = (tt, h)
split H (x ∷ xs) ys h = let rest = split H xs ys h.1 in ((h.0, rest.0), rest.1)

found_here :
    (P : FieldShape → Type 0) (b : Bool) (first field : FieldShape) (later : Option FieldShape)
    → (if b then Some first else later) ≡ Some field → P first → (later ≡ Some field → P field)
    → P field
found_here P true first field later e here rest =
    subst P (let f : Some first ≡ Some field = e in cc) here
found_here P false first field later e here rest = rest e

found_field :
    (H : OfTable) (variants : List Variant) (t : ℕ) (S V : List ℕ) (start : ℕ)
    (fields : List FieldShape) (slot : ℕ) (field : FieldShape) → field_in fields slot ≡ Some field
    → StepsHold H (fields_steps variants t S V start fields)
    → StepsHold H (field_steps variants t S V start field)
found_field H variants t S V start [] slot field e all =
    absurd (let f : None ≡ Some field = e in cc)
found_field H variants t S V start (first ∷ rest) slot field e all =
    let both = split H (field_steps variants t S V start first)
    (fields_steps variants t S V start rest) all in
    found_here (λ one. StepsHold H (field_steps variants t S V start one)) (first.slot == slot)
    first field (field_in rest slot) e both.0
    (λ found. found_field H variants t S V start rest slot field found both.1)

some_depth :
    (schema : Shapes) (t slot : ℕ) (field : FieldShape) (S V : List ℕ) (start : ℕ)
    → Has schema t slot field → (n : ℕ) × Verified schema n t S V start
    → (n : ℕ) × StepsHold (Verified schema n) (field_steps schema.variants t S V start field)
some_depth schema t slot field S V start has (zero, h) = absurd h
some_depth schema t slot field S V start has (suc n, h) = (
  n,
  found_field (Verified schema n) schema.variants t S V start (fields_of schema t) slot field has h,
)

pub field_holds :
    (schema : Shapes) (t slot : ℕ) (field : FieldShape) (table : Table) → IsVerified schema t table
    → Has schema t slot field
    → ∥ ((n : ℕ) × StepsHold (Verified schema n) (field_steps schema.variants t
    (table_object table) (table_slots table) (table_start table) field)) ∥₁
field_holds schema t slot field table verified has =
    ∥∥₁_map verified
    (some_depth schema t slot field (table_object table) (table_slots table) (table_start table) has)

present_holds :
    (H : OfTable) (at : Faults) (required : Bool) (steps : ℕ → List Step) (f : ℕ) → (f ≡ 0 → ⊥)
    → StepsHold H (present_steps at required steps f) → StepsHold H (steps f)
present_holds H at required steps zero present h = absurd (present refl)
present_holds H at required steps (suc f) present h = h

needed :
    (H : OfTable) (at : Faults) (steps : ℕ → List Step) (f : ℕ) → f ≡ 0
    → StepsHold H (present_steps at true steps f) → ⊥
needed H at steps zero none h = h.0.0
needed H at steps (suc f) none h = let e : suc f ≡ 0 = none in cc

-- the faults of a field
abbrev pub faults_of : ℕ → Table → ℕ → Faults
faults_of t table slot =
    place_faults (record { table = t; start = table_start table; slot = slot; item = None })

-- a required field is present
pub is_present :
    (schema : Shapes) (t slot : ℕ) (one : ValueKind) (table : Table) → IsVerified schema t table
    → MustHave schema t slot one → slot_of table slot ≡ 0 → ⊥
is_present schema t slot one table verified has none =
    ∥∥₁_elim
    (field_holds schema t slot (record { slot = slot; required = true; kind = kind.Value one }) table
    verified has)
    (Prim.hlevel props)
    (λ h. needed (Verified schema h.0) (faults_of t table slot)
    (value_steps (faults_of t table slot) one (table_object table) (table_start table))
    (slot_of table slot) none h.1)

pub place_holds :
    (schema : Shapes) (t slot : ℕ) (required : Bool) (one : ValueKind) (table : Table)
    (B : List ℕ) (start offset : ℕ) → IsVerified schema t table
    → Has schema t slot (record { slot = slot; required = required; kind = kind.Value one })
    → IsPlace table slot B start offset
    → ∥ ((n : ℕ) × StepsHold (Verified schema n)
    (value_steps (faults_of t table slot) one B start offset)) ∥₁
place_holds schema t slot required one table B start offset verified has place =
    let steps = value_steps (faults_of t table slot) one in
    ∥∥₁_map
    (field_holds schema t slot (record { slot = slot; required = required; kind = kind.Value one })
    table verified has)
    (λ h. (
      h.0,
      subst (λ l. StepsHold (Verified schema h.0) (steps l start offset)) (sym place.bytes)
          (subst (λ n. StepsHold (Verified schema h.0) (steps (table_object table) n offset))
          (sym place.begin)
          (subst (λ k. StepsHold (Verified schema h.0) (steps (table_object table)
          (table_start table) k)) (sym place.at)
          (present_holds (Verified schema h.0) (faults_of t table slot) required
          (steps (table_object table) (table_start table)) (slot_of table slot) place.present
          h.1))),
    ))

pub field_answered :
    {T : Type 0} (reads : Reads T) (table : Table) (slot : ℕ) (B : List ℕ) (start offset : ℕ)
    (x : T) → IsPlace table slot B start offset → reads B start offset (Ok x)
    → FieldAnswer reads table slot (Ok (Some x))
field_answered reads table slot B start offset x place h = (
  place.present,
  subst (λ l. reads l (table_start table) (slot_of table slot) (Ok x)) place.bytes
      (subst (λ s. reads B s (slot_of table slot) (Ok x)) place.begin
      (subst (λ k. reads B start k (Ok x)) place.at h)),
)

-- the one that follows the one at i by d, of m items from that on
items_after :
    (H : OfTable) (steps : ℕ → List Step) (m i d : ℕ) → StepsHold H (items_from i m steps) → d < m
    → StepsHold H (steps (i + d))
items_after H steps zero i d h below = absurd (omega (arith, below))
items_after H steps (suc m) i zero h below =
    let e : i ≡ i + 0 = omega arith in
    subst (λ n. StepsHold H (steps n)) e
    (split H (steps i) (items_from (i + 1) m steps) h).0
items_after H steps (suc m) i (suc d) h below =
    let e : i + 1 + d ≡ i + suc d = omega arith in
    subst (λ n. StepsHold H (steps n)) e
    (items_after H steps m (i + 1) d (split H (steps i) (items_from (i + 1) m steps) h).1
    (omega (arith, below)))

-- each of the items
pub items_hold :
    (H : OfTable) (steps : ℕ → List Step) (count k : ℕ) → StepsHold H (items_from 0 count steps)
    → k < count → StepsHold H (steps k)
items_hold H steps count k h below =
    let e : 0 + k ≡ k = omega arith in
    subst (λ n. StepsHold H (steps n)) e (items_after H steps count 0 k h below)

pub each_text :
    (H : OfTable) (at : Faults) (S : List ℕ) (start f : ℕ)
    → StepsHold H (value_steps at value.Texts S start f) → EachHolds TextHolds S f
each_text H at S start f h = (
  h.0,
  λ i below. (items_hold H _ (count_at S f) i h.1 below).0,
)

pub each_table :
    (schema : Shapes) (n t : ℕ) (at : Faults) (S : List ℕ) (start f : ℕ)
    → StepsHold (Verified schema n) (value_steps at (value.Tables t) S start f)
    → EachHolds (TableHolds schema n t (start + items_at S f)) S f
each_table schema n t at S start f h = (
  h.0,
  λ i below. (let one = items_hold (Verified schema n) _ (count_at S f) i h.1 below in
      (one.0, one.1.0)),
)

-- a table that was read
pub table_reached :
    (schema : Shapes) (n t : ℕ) (S : List ℕ) (start f : ℕ) (table : Table)
    → Answer (shown (ShowsTable S start) (table_reading S f)) (Ok table)
    → TableHolds schema n t start S f
    → Verified schema n t (table_object table) (table_slots table) (table_start table)
table_reached schema n t S start f table answer h =
    let is : IsTableAt S start f table = table_is S start f table answer in
    let o = drop (target S f) S in
    let v = slots_of S (target S f) in
    subst (λ o. Verified schema n t o (table_slots table) (table_start table)) (sym is.object)
    (subst (λ v. Verified schema n t o v (table_start table)) (sym is.slots)
    (subst (λ k. Verified schema n t o v k) (sym is.begins) h.1))

-- The root is verified where its walk passes.
pub root_passes :
    (schema : Shapes) (t depth tables left : ℕ) (S : List ℕ) (table : Table)
    → Answer (shown (ShowsTable S 0) (table_reading S 0)) (Ok table)
    → RootWalks schema t depth tables S (Ok left) → IsVerified schema t table
root_passes schema t depth tables left S table answer (inl (first, tested, inl (next, walk, rest))) =
    ∣ (
      depth,
      table_reached schema depth t S 0 0 table answer
          (tested.0, walks_pass schema depth t _ _ _ first next walk),
    ) ∣₁
root_passes schema t depth tables left S table answer (inl (first, tested, inr (found, walk, e))) =
    absurd (let f : Ok left ≡ Err found = e in cc)
root_passes schema t depth tables left S table answer (inr (found, tested, e)) =
    absurd (let f : Ok left ≡ Err found = e in cc)
