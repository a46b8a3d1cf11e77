-- What the accessors of a table read, in the order of verification.
use Prim.Native.Nat.{zero, suc}
use Rattle.std.specs.Prelude.{ℕ, ◌+◌, ◌*◌, ◌≤◌, List, [], ◌∷◌, ◌++◌, length, take, drop}
use Rattle.std.specs.Prelude.{Option, Some, None, Bool, true, false, nat_le, slice_index}
use Rattle.std.specs.Int.{w8}
use Rattle.planus_read.specs.Clauses.{Clause, clause}
use Rattle.planus_read.specs.Reading.{number, target, items_at, count_at, slots_of, text_clauses}
use Rattle.planus_read.specs.Reading.{byte_list_clauses, vector_clauses, union_vector_clauses}
use Rattle.planus_read.specs.Reading.{table_clauses}
use Rattle.planus_read.specs.Tables.{Slot}
use Rattle.planus_read.specs.declared.errors.ErrorKind.{ErrorKind}
use Rattle.planus_read.specs.declared.errors.ErrorKind.TheVariants.{InvalidOffset}
use Rattle.planus_read.specs.declared.errors.ErrorKind.TheVariants.{InvalidVtableLength}
use Rattle.planus_read.specs.declared.errors.ErrorKind.TheVariants.{MissingRequired}
use Rattle.planus_read.specs.Reading.{plain_ref_clauses}
use Rattle.planus_verify.specs.Schemas.{Shapes, fields_of, variant_in}
use Rattle.planus_verify.specs.declared.schema.FieldShape.{FieldShape}
use Rattle.planus_verify.specs.declared.schema.Variant.{Variant}
use Rattle.planus_verify.specs.declared.schema.FieldKind.{FieldKind}
use Rattle.planus_verify.specs.declared.schema.FieldKind.TheVariants as kind
use Rattle.planus_verify.specs.declared.schema.ValueKind.{ValueKind}
use Rattle.planus_verify.specs.declared.schema.ValueKind.TheVariants as value
use Rattle.planus_verify.specs.declared.schema.VariantKind.{VariantKind}
use Rattle.planus_verify.specs.declared.schema.VariantKind.TheVariants as variant
use Rattle.planus_verify.specs.declared.fault.Fault.{Fault}
use Rattle.planus_verify.specs.declared.fault.FieldPlace.{FieldPlace}
use Rattle.planus_verify.specs.declared.fault.Fault.TheVariants as fault

-- Clauses to hold, with the fault where one fails; or a table to enter, of this index in the
-- schema: its bytes from its first one on, its vtable's slots, and where in the buffer it begins.
pub data Step : Type 1 where
  Tests : (ErrorKind → Fault) → List Clause → Step
  Enters : (table : ℕ) (object slots : List ℕ) (start : ℕ) → Step

-- the fault at an item of a field's vector, or at the field itself
abbrev pub Faults : Type 0
Faults = Option ℕ → ErrorKind → Fault

abbrev pub test_of : Faults → List Clause → List Step
test_of at clauses = Tests (at None) clauses ∷ []

-- m items, from the one at i on
abbrev pub items_from : ℕ → ℕ → (ℕ → List Step) → List Step
items_from i zero steps = []
items_from i (suc m) steps = steps i ++ items_from (i + 1) m steps

-- the table to which the reference at f of S leads; S begins at the start in the buffer
abbrev pub reference_steps : (ErrorKind → Fault) → ℕ → List ℕ → ℕ → ℕ → List Step
reference_steps here t S start f =
    Tests here (table_clauses S f)
    ∷ Enters t (drop (target S f) S) (slots_of S (target S f)) (start + target S f) ∷ []

-- a string
abbrev pub text_steps : (ErrorKind → Fault) → List ℕ → ℕ → List Step
text_steps here S f = Tests here (text_clauses S f) ∷ []

-- a vector of references of 4 bytes
abbrev pub vector_steps :
    Faults → (ℕ → List ℕ → ℕ → ℕ → List Step) → List ℕ → ℕ → ℕ → List Step
vector_steps at item S start f =
    Tests (at None) (vector_clauses S f 4)
    ∷ items_from 0 (count_at S f)
    (λ i. item i (drop (items_at S f) S) (start + items_at S f) (i * 4))

-- a value of this size is in the bytes
abbrev pub plain_clauses : List ℕ → ℕ → ℕ → List Clause
plain_clauses S f size = clause (f + size ≤ length S) InvalidOffset ∷ []

-- a present field of one slot, at f
abbrev pub value_steps : Faults → ValueKind → List ℕ → ℕ → ℕ → List Step
value_steps at (value.Plain size) S start f = test_of at (plain_clauses S f size)
value_steps at value.Text S start f = text_steps (at None) S f
value_steps at value.Bytes S start f = test_of at (byte_list_clauses S f)
value_steps at (value.Plains size) S start f = test_of at (vector_clauses S f size)
value_steps at value.Texts S start f =
    vector_steps at (λ i B begin. text_steps (at (Some i)) B) S start f
value_steps at (value.Table t) S start f = reference_steps (at None) t S start f
value_steps at (value.Tables t) S start f =
    vector_steps at (λ i. reference_steps (at (Some i)) t) S start f
value_steps at (value.Nested t) S start f =
    Tests (at None) (byte_list_clauses S f)
    ∷ reference_steps (at None) t (take (count_at S f) (drop (items_at S f) S)) 0 0

-- a field that is absent
abbrev pub absent_steps : Faults → Bool → List Step
absent_steps at true = test_of at (clause ⊥ MissingRequired ∷ [])
absent_steps at false = []

-- by a slot, which is 0 where the field is absent
abbrev pub present_steps : Faults → Bool → (ℕ → List Step) → ℕ → List Step
present_steps at required steps zero = absent_steps at required
present_steps at required steps (suc f) = steps (suc f)

-- the struct of this size to which the reference at f leads
abbrev pub struct_steps : (ErrorKind → Fault) → ℕ → List ℕ → ℕ → List Step
struct_steps here size S f = Tests here (plain_ref_clauses size S f) ∷ []

-- the reference at f of a union, by the kind of its tag's variant; other tags may be of a later
-- schema
abbrev pub variant_steps :
    (ErrorKind → Fault) → Option VariantKind → List ℕ → ℕ → ℕ → List Step
variant_steps here None S start f = []
variant_steps here (Some (variant.Table t)) S start f = reference_steps here t S start f
variant_steps here (Some variant.Text) S start f = text_steps here S f
variant_steps here (Some (variant.Struct size)) S start f = struct_steps here size S f

-- the number at f, of one byte
abbrev pub tag_at : List ℕ → ℕ → ℕ
tag_at S f = number S f w8

-- the clauses of the two slots of a union: both are in the vtable, and the tag is in the bytes
abbrev pub union_clauses : ℕ → List ℕ → List ℕ → List Clause
union_clauses i S V =
    clause (2 * i + 4 ≤ length V) (InvalidVtableLength (length V + 4))
    ∷ clause (Slot V i + 1 ≤ length S) InvalidOffset ∷ []

-- a union by its slots and its tag, none if one is 0
abbrev pub member_steps :
    Faults → Bool → (ℕ → ℕ → List Step) → (tag_slot value_slot tag : ℕ) → List Step
member_steps at required steps zero value_slot tag = absent_steps at required
member_steps at required steps (suc tag_slot) zero tag = absent_steps at required
member_steps at required steps (suc tag_slot) (suc f) zero = absent_steps at required
member_steps at required steps (suc tag_slot) (suc f) (suc tag) = steps (suc tag) (suc f)

-- by whether the vtable ends before both slots
abbrev pub union_steps :
    Faults → Bool → Bool → (ℕ → ℕ → List Step) → ℕ → List ℕ → List ℕ → List Step
union_steps at required true steps i S V = absent_steps at required
union_steps at required false steps i S V =
    Tests (at None) (union_clauses i S V)
    ∷ member_steps at required steps (Slot V i) (Slot V (i + 1)) (tag_at S (Slot V i))

-- one of the two slots of a union vector is 0
abbrev pub half_clauses : List Clause
half_clauses = clause ⊥ InvalidOffset ∷ []

-- the tags at f and the references at g of a union vector
abbrev pub unions_at :
    Faults → List Variant → ℕ → List ℕ → ℕ → ℕ → ℕ → List Step
unions_at at variants u S start f g =
    Tests (at None) (union_vector_clauses S f g)
    ∷ items_from 0 (count_at S f)
    (λ i. variant_steps (at (Some i))
    (variant_in variants u (slice_index (drop (items_at S f) S) i))
    (drop (items_at S g) S) (start + items_at S g) (i * 4))

-- by the two slots
abbrev pub both_steps : Faults → Bool → (ℕ → ℕ → List Step) → ℕ → ℕ → List Step
both_steps at required steps zero zero = absent_steps at required
both_steps at required steps zero (suc g) = test_of at half_clauses
both_steps at required steps (suc f) zero = test_of at half_clauses
both_steps at required steps (suc f) (suc g) = steps (suc f) (suc g)

-- by whether the vtable has both slots
abbrev pub unions_steps :
    Faults → Bool → Bool → (ℕ → ℕ → List Step) → ℕ → List ℕ → List Step
unions_steps at required false steps i V = absent_steps at required
unions_steps at required true steps i V =
    both_steps at required steps (Slot V i) (Slot V (i + 1))

-- a union field, and a field that is a vector of unions
abbrev pub union_field_steps :
    List Variant → Faults → Bool → ℕ → ℕ → List ℕ → List ℕ → ℕ → List Step
union_field_steps variants at required u i S V start =
    union_steps at required (nat_le (length V) (2 * i))
    (λ tag. variant_steps (at None) (variant_in variants u tag) S start) i S V

abbrev pub unions_field_steps :
    List Variant → Faults → Bool → ℕ → ℕ → List ℕ → List ℕ → ℕ → List Step
unions_field_steps variants at required u i S V start =
    unions_steps at required (nat_le (2 * i + 4) (length V)) (unions_at at variants u S start) i V

-- a field, by its kind
abbrev pub kind_steps :
    List Variant → Faults → Bool → FieldKind → ℕ → List ℕ → List ℕ → ℕ → List Step
kind_steps variants at required (kind.Value value) i S V start =
    present_steps at required (value_steps at value S start) (Slot V i)
kind_steps variants at required (kind.Union u) i S V start =
    union_field_steps variants at required u i S V start
kind_steps variants at required (kind.Unions u) i S V start =
    unions_field_steps variants at required u i S V start

-- the faults at a field, and at its items
abbrev pub place_faults : FieldPlace → Faults
place_faults place None e = fault.Field place e
place_faults place (Some i) e =
    fault.Field
    (record { table = place.table; start = place.start; slot = place.slot; item = Some i }) e

-- a field of table t, which begins at the start in the buffer
abbrev pub field_steps : List Variant → ℕ → List ℕ → List ℕ → ℕ → FieldShape → List Step
field_steps variants t S V start field =
    kind_steps variants
    (place_faults (record { table = t; start = start; slot = field.slot; item = None }))
    field.required field.kind field.slot S V start

-- some fields, in order
abbrev pub fields_steps : List Variant → ℕ → List ℕ → List ℕ → ℕ → List FieldShape → List Step
fields_steps variants t S V start [] = []
fields_steps variants t S V start (field ∷ fields) =
    field_steps variants t S V start field ++ fields_steps variants t S V start fields

-- all fields of the table at an index of the schema
abbrev pub table_steps : Shapes → ℕ → List ℕ → List ℕ → ℕ → List Step
table_steps schema t S V start = fields_steps schema.variants t S V start (fields_of schema t)

-- the root of a buffer
abbrev pub root_steps : ℕ → List ℕ → List Step
root_steps t S = reference_steps fault.Root t S 0 0
