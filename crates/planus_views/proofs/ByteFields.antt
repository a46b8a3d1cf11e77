-- Byte vectors of verified tables, and buffers in them.
use Rattle.std.proofs.Common.{◌≡◌, ℕ, ◌==◌, ◌&&◌, List, [], ◌∷◌, take, drop, Bool, true, false, not, Option, Some, None, refl, sym, ap, subst, ◌∙◌, inl, inr, ◌⊎◌, if◌then◌else◌, Ok}
use Rattle.std.proofs.lemmas.Bool.{eqb-true}
use Rattle.std.proofs.Math.Logic.{∥∥₁_map}
use Rattle.std.specs.Borrow.{Bor}
use Rattle.planus_read.specs.Clauses.{AllHold}
use Rattle.planus_read.specs.Reading.{byte_list_clauses, count_at, items_at}
use Rattle.planus_read.specs.Tables.{FieldAnswer, table_object, table_start, slot_of}
use Rattle.planus_read.specs.declared.table_reader.Table.{Table}
use Rattle.planus_read.proofs.Reading.{byte_list_holds}
use Rattle.planus.specs.ReadKinds.{reads_bytes}
use Rattle.planus_verify.specs.Schemas.{Shapes, fields_of}
use Rattle.planus_verify.specs.Verified.{IsVerified}
use Rattle.planus_verify.specs.declared.schema.FieldKind.{FieldKind}
use Rattle.planus_verify.specs.declared.schema.FieldKind.TheVariants as kind
use Rattle.planus_verify.specs.declared.schema.FieldShape.{FieldShape}
use Rattle.planus_verify.specs.declared.schema.ValueKind.TheVariants as value
use Rattle.planus_views.specs.Fields.{Has, HasBytes, IsPlace, TableHolds, bytes_if, field_in, is_bytes}
use Rattle.planus_views.proofs.Fields.{is_present, place_holds}
use Rattle.planus_views.proofs.Merely.{bytes_had}

and_parts : (a b : Bool) → (a && b) ≡ true → (a ≡ true) × (b ≡ true)
and_parts true b h = (refl, h)
and_parts false b h = absurd (let e : false ≡ true = h in cc)

not_true : (b : Bool) → not b ≡ true → b ≡ false
not_true false h = refl
not_true true h = absurd (let e : false ≡ true = h in cc)

slot_by :
    (b : Bool) (first field : FieldShape) (later : Option FieldShape) (slot : ℕ)
    → (first.slot == slot) ≡ b → (if b then Some first else later) ≡ Some field
    → (later ≡ Some field → field.slot ≡ slot) → field.slot ≡ slot
slot_by true first field later slot is e rest =
    let same : first ≡ field = (let f : Some first ≡ Some field = e in cc) in
    ap (λ (one : FieldShape). one.slot) (sym same) ∙ eqb-true first.slot slot is
slot_by false first field later slot is e rest = rest e

field_slot :
    (fields : List FieldShape) (slot : ℕ) (field : FieldShape) → field_in fields slot ≡ Some field
    → field.slot ≡ slot
field_slot [] slot field e = absurd (let f : None ≡ Some field = e in cc)
field_slot (first ∷ rest) slot field e =
    slot_by (first.slot == slot) first field (field_in rest slot) slot refl e
    (field_slot rest slot field)

abbrev BytesOrBuffer : (FieldKind → Type 0) → Type 0
BytesOrBuffer P = P (kind.Value value.Bytes) ⊎ ((u : ℕ) × P (kind.Value (value.Nested u)))

kind_cases : (k : FieldKind) → is_bytes k ≡ true → BytesOrBuffer (λ one. k ≡ one)
kind_cases (kind.Value value.Bytes) h = inl refl
kind_cases (kind.Value (value.Nested u)) h = inr (u, refl)
kind_cases (kind.Value (value.Plain size)) h = absurd (let e : false ≡ true = h in cc)
kind_cases (kind.Value value.Text) h = absurd (let e : false ≡ true = h in cc)
kind_cases (kind.Value (value.Plains size)) h = absurd (let e : false ≡ true = h in cc)
kind_cases (kind.Value value.Texts) h = absurd (let e : false ≡ true = h in cc)
kind_cases (kind.Value (value.Table t)) h = absurd (let e : false ≡ true = h in cc)
kind_cases (kind.Value (value.Tables t)) h = absurd (let e : false ≡ true = h in cc)
kind_cases (kind.Union u) h = absurd (let e : false ≡ true = h in cc)
kind_cases (kind.Unions u) h = absurd (let e : false ≡ true = h in cc)

abbrev shape : ℕ → Bool → FieldKind → FieldShape
shape slot required k = record { slot = slot; required = required; kind = k }

shape_is :
    (field : FieldShape) (slot : ℕ) (required : Bool) (k : FieldKind) → field.slot ≡ slot
    → field.required ≡ required → field.kind ≡ k → field ≡ shape slot required k
shape_is field slot required k s r same =
    λ i. record { slot = s i; required = r i; kind = same i }

found_shape :
    (field : FieldShape) (slot : ℕ) (required : Bool) → field.slot ≡ slot
    → field.required ≡ required → BytesOrBuffer (λ k. field.kind ≡ k)
    → BytesOrBuffer (λ k. Some field ≡ Some (shape slot required k))
found_shape field slot required s r (inl k) =
    inl (ap Some (shape_is field slot required (kind.Value value.Bytes) s r k))
found_shape field slot required s r (inr (u, k)) =
    inr (u, ap Some (shape_is field slot required (kind.Value (value.Nested u)) s r k))

found_bytes :
    (required : Bool) (found : Option FieldShape) (slot : ℕ)
    → ((field : FieldShape) → found ≡ Some field → field.slot ≡ slot)
    → bytes_if required found ≡ true
    → BytesOrBuffer (λ k. found ≡ Some (shape slot required k))
found_bytes true None slot at h = absurd (let e : false ≡ true = h in cc)
found_bytes false None slot at h = absurd (let e : false ≡ true = h in cc)
found_bytes true (Some field) slot at h =
    let parts = and_parts field.required (is_bytes field.kind) h in
    found_shape field slot true (at field refl) parts.0 (kind_cases field.kind parts.1)
found_bytes false (Some field) slot at h =
    let parts = and_parts (not field.required) (is_bytes field.kind) h in
    found_shape field slot false (at field refl) (not_true field.required parts.0)
    (kind_cases field.kind parts.1)

module _ (schema : Shapes) (t slot : ℕ) (required : Bool) where
  bytes_cases :
      HasBytes schema t slot required → BytesOrBuffer (λ k. Has schema t slot (shape slot required k))
  bytes_cases h =
      found_bytes required (field_in (fields_of schema t) slot) slot
      (field_slot (fields_of schema t) slot) h

  module _ (table : Table) (B : List ℕ) (start offset : ℕ) (verified : IsVerified schema t table)
      (place : IsPlace table slot B start offset) where
    by_kind :
        BytesOrBuffer (λ k. Has schema t slot (shape slot required k))
        → AllHold (byte_list_clauses B offset)
    by_kind (inl has) =
        bytes_had B offset
        (∥∥₁_map
        (place_holds schema t slot required value.Bytes table B start offset verified has place)
        (λ h. h.1.0))
    by_kind (inr (u, has)) =
        bytes_had B offset
        (∥∥₁_map
        (place_holds schema t slot required (value.Nested u) table B start offset verified has place)
        (λ h. h.1.0))

    -- a present byte vector
    pub bytes_hold : HasBytes schema t slot required → AllHold (byte_list_clauses B offset)
    bytes_hold h = by_kind (bytes_cases h)

module _ (schema : Shapes) (t slot : ℕ) (table : Table) (verified : IsVerified schema t table)
    (none : slot_of table slot ≡ 0) where
  present_by : BytesOrBuffer (λ k. Has schema t slot (shape slot true k)) → ⊥
  present_by (inl has) = is_present schema t slot value.Bytes table verified has none
  present_by (inr (u, has)) = is_present schema t slot (value.Nested u) table verified has none

  -- a required one isn't absent
  pub bytes_present : HasBytes schema t slot true → ⊥
  bytes_present h = present_by (bytes_cases schema t slot true h)

-- the root of a buffer that was read
pub nested_holds :
    (schema : Shapes) (t slot u : ℕ) (required : Bool) (table : Table) (bytes : Bor (List ℕ))
    → IsVerified schema t table → Has schema t slot (shape slot required (kind.Value (value.Nested u)))
    → FieldAnswer reads_bytes table slot (Ok (Some bytes))
    → ∥ ((n : ℕ) × TableHolds schema n u 0 bytes.now 0) ∥₁
nested_holds schema t slot u required table bytes verified has answer =
    let S = table_object table in
    let f = slot_of table slot in
    let read = answer.1 in
    let there = byte_list_holds S f read.0 read.1 in
    let same : bytes.now ≡ take (count_at S f) (drop (items_at S f) S) = read.2 ∙ there.1 in
    ∥∥₁_map
    (place_holds schema t slot required (value.Nested u) table S (table_start table) f verified has
    (record { present = answer.0; bytes = refl; begin = refl; at = refl }))
    (λ h. (
      h.0,
      subst (λ l. TableHolds schema h.0 u 0 l 0) (sym same) (h.1.1.0, h.1.1.1.0),
    ))

-- the same at an equal schema
pub nested_at :
    (given schema : Shapes) (u : ℕ) (S : List ℕ) → given ≡ schema
    → ∥ ((n : ℕ) × TableHolds schema n u 0 S 0) ∥₁ → ∥ ((n : ℕ) × TableHolds given n u 0 S 0) ∥₁
nested_at given schema u S same h =
    subst (λ (s : Shapes). ∥ ((n : ℕ) × TableHolds s n u 0 S 0) ∥₁) (sym same) h
