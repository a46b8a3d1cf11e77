-- From what functions answer to the steps that pass.
use Rattle.std.proofs.Common.{◌≡◌, ℕ, List, [], ◌∷◌, refl, sym, subst, ◌∙◌, inl, Bool, true, false, Option, Some, None, Result, Ok, Err}
use denote.Ref.{Bor}
use Rattle.std.specs.Prelude.{is_ok, is_some, IfSome}
use Rattle.planus_read.specs.Places.{place_bytes, place_start, place_offset}
use Rattle.planus_read.specs.declared.place.Place.{Place}
use Rattle.planus_read.specs.Clauses.{Clause, AllHold, Answer, shown}
use Rattle.planus_read.specs.Heads.{IsTextOf}
use Rattle.planus_read.specs.Reading.{table_reading, ByteListThere, text_clauses}
use Rattle.planus_read.specs.Slices.{slice_bytes}
use Rattle.planus_read.specs.declared.slice_helpers.SliceWithStartOffset.{SliceWithStartOffset}
use Rattle.planus_read.proofs.Reading.{Head, text_answer, text_holds}
use Rattle.planus_read.specs.Tables.{Slot, ShowsTable, table_object, table_slots, table_start}
use Rattle.planus_read.specs.declared.errors.ErrorKind.{ErrorKind}
use Rattle.planus_read.specs.declared.table_reader.Table.{Table}
use Rattle.planus_verify.specs.Passes.{StepsPass, TablePasses, FieldPasses, field_of}
use Rattle.planus_verify.specs.Schemas.{Shapes, variant_in}
use Rattle.planus_verify.specs.Steps.{Step, Tests, Faults, reference_steps, value_steps}
use Rattle.planus_verify.specs.Steps.{place_faults, union_field_steps, unions_field_steps}
use Rattle.planus_verify.specs.Steps.{variant_steps}
use Rattle.planus_verify.specs.Walks.{DoesTable, NoTable, InOrder, IsTested, Walks}
use Rattle.planus_verify.specs.declared.fault.Fault.{Fault}
use Rattle.planus_verify.specs.declared.schema.FieldKind.TheVariants as kind
use Rattle.planus_verify.specs.declared.schema.ValueKind.{ValueKind}
use Rattle.planus_verify.specs.declared.schema.ValueKind.TheVariants as value
use Rattle.planus_verify.specs.declared.schema.Variant.{Variant}
use Rattle.planus_verify.specs.declared.schema.VariantKind.{VariantKind}
use Rattle.planus_verify.specs.declared.schema.VariantKind.TheVariants as variant
use Rattle.planus_verify.proofs.Fields.{value_field, union_field, unions_field, place_of}
use Rattle.planus_verify.proofs.Tables.{reference_is, nested_by}

not_both : {A : Type 0} → false ≡ true → A
not_both e = absurd (let f : false ≡ true = e in cc)

-- one reading
pub one_passes :
    {A : Type 0} (here : ErrorKind → Fault) (clauses : List Clause) (left : ℕ)
    (read : Result A ErrorKind) (ok : Bool) → IsTested clauses read → ok ≡ is_ok read → ok ≡ true
    → InOrder NoTable (Tests here clauses ∷ []) left (Ok left)
one_passes here clauses left (Ok x) ok h is good = inl (left, (h, refl), refl)
one_passes here clauses left (Err e) ok h is good = not_both (sym is ∙ good)

-- a string, by its bytes if they were found
pub text_passed :
    (S : List ℕ) (start f count : ℕ) (items : SliceWithStartOffset) (bytes : List ℕ)
    (found : Option (Bor (List ℕ))) → Head S start f items count → bytes ≡ slice_bytes items
    → IfSome found (λ text. IsTextOf bytes count text.now) → is_some found ≡ true
    → AllHold (text_clauses S f)
text_passed S start f count items bytes None head same h good = not_both good
text_passed S start f count items bytes (Some text) head same h good =
    let there = text_answer S start f count items bytes (Ok text) head same h tt in
    (text_holds S f there.0 there.1).0

-- a table to which a reference leads
pub reference_passed :
    (schema : Shapes) (n t : ℕ) (here : ErrorKind → Fault) (S : List ℕ) (start f : ℕ)
    (table : Table) (left : ℕ) (r : Option ℕ)
    → Answer (shown (ShowsTable S start) (table_reading S f)) (Ok table)
    → TablePasses schema n t table left r
    → StepsPass (Walks schema n) (reference_steps here t S start f) left r
reference_passed schema n t here S start f table left None answer h = tt
reference_passed schema n t here S start f table left (Some rest) answer h =
    reference_is (Walks schema n) here t S start f table left (Ok rest) answer h

-- a field that is there
pub value_passed :
    (schema : Shapes) (n t : ℕ) (table : Table) (slot : ℕ) (required : Bool) (one : ValueKind)
    (B : List ℕ) (begin f left : ℕ) (r : Option ℕ) → B ≡ table_object table
    → begin ≡ table_start table → f ≡ Slot (table_slots table) slot → (f ≡ 0 → ⊥)
    → ((at : Faults) → StepsPass (Walks schema n) (value_steps at one B begin f) left r)
    → FieldPasses schema n t table (field_of slot required (kind.Value one)) left r
value_passed schema n t table slot required one B begin f left None bytes same at present h = tt
value_passed schema n t table slot required one B begin f left (Some rest) bytes same at present h =
    (let field = field_of slot required (kind.Value one) in
    let place = place_of t (table_start table) field in
    value_field (Walks schema n) schema.variants t (table_object table) (table_slots table)
    (table_start table) field left (Ok rest) place refl one B begin f refl bytes same at present
    (h (place_faults place)))

-- a nested buffer
pub nested_passed :
    (schema : Shapes) (n : ℕ) (at : Faults) (t : ℕ) (S : List ℕ) (start f : ℕ) (content B : List ℕ)
    (begin k left : ℕ) (r : Option ℕ) → ByteListThere S f content → B ≡ content → begin ≡ 0
    → k ≡ 0 → StepsPass (Walks schema n) (reference_steps (at None) t B begin k) left r
    → StepsPass (Walks schema n) (value_steps at (value.Nested t) S start f) left r
nested_passed schema n at t S start f content B begin k left None there bytes begins offset h = tt
nested_passed schema n at t S start f content B begin k left (Some rest) there bytes begins offset h =
    nested_by (Walks schema n) at t S start f content B begin k left (Ok rest) there bytes begins
    offset h

-- a union, and a vector of unions
pub union_passed :
    (schema : Shapes) (n t u slot : ℕ) (required : Bool) (table : Table) (left : ℕ) (r : Option ℕ)
    → ((rest : ℕ) → r ≡ Some rest → InOrder (Walks schema n) (union_field_steps schema.variants
    (place_faults (place_of t (table_start table) (field_of slot required (kind.Union u)))) required
    u slot (table_object table) (table_slots table) (table_start table)) left (Ok rest))
    → FieldPasses schema n t table (field_of slot required (kind.Union u)) left r
union_passed schema n t u slot required table left None h = tt
union_passed schema n t u slot required table left (Some rest) h =
    (let field = field_of slot required (kind.Union u) in
    union_field (Walks schema n) schema.variants t (table_object table) (table_slots table)
    (table_start table) field left (Ok rest) (place_of t (table_start table) field) refl u refl
    (h rest refl))

pub unions_passed :
    (schema : Shapes) (n t u slot : ℕ) (required : Bool) (table : Table) (left : ℕ) (r : Option ℕ)
    → ((rest : ℕ) → r ≡ Some rest → InOrder (Walks schema n) (unions_field_steps schema.variants
    (place_faults (place_of t (table_start table) (field_of slot required (kind.Unions u)))) required
    u slot (table_object table) (table_slots table) (table_start table)) left (Ok rest))
    → FieldPasses schema n t table (field_of slot required (kind.Unions u)) left r
unions_passed schema n t u slot required table left None h = tt
unions_passed schema n t u slot required table left (Some rest) h =
    (let field = field_of slot required (kind.Unions u) in
    unions_field (Walks schema n) schema.variants t (table_object table) (table_slots table)
    (table_start table) field left (Ok rest) (place_of t (table_start table) field) refl u refl
    (h rest refl))

-- what is said where all pass
pub some_pass :
    (W : DoesTable) (steps : List Step) (left : ℕ) (r : Option ℕ) (rest : ℕ)
    → StepsPass W steps left r → r ≡ Some rest → InOrder W steps left (Ok rest)
some_pass W steps left r rest h is = subst (StepsPass W steps left) is h

-- the same of an equal tag and place
pub member_at :
    (W : DoesTable) (here : ErrorKind → Fault) (variants : List Variant) (u m n : ℕ) (at place : Place)
    (left : ℕ) (r : Option ℕ) → m ≡ n → at ≡ place
    → StepsPass W (variant_steps here (variant_in variants u m) (place_bytes at) (place_start at)
    (place_offset at)) left r
    → StepsPass W (variant_steps here (variant_in variants u n) (place_bytes place)
    (place_start place) (place_offset place)) left r
member_at W here variants u m n at place left r tags places h =
    subst (λ p. StepsPass W (variant_steps here (variant_in variants u n) (place_bytes p)
    (place_start p) (place_offset p)) left r) places
    (subst (λ k. StepsPass W (variant_steps here (variant_in variants u k) (place_bytes at)
    (place_start at) (place_offset at)) left r) tags h)

-- of an equal schema and index
pub of_kind :
    (P : Shapes → ℕ → Type 0) (given schema : Shapes) (i t : ℕ) → given ≡ schema → i ≡ t → P given i
    → P schema t
of_kind P given schema i t same index h =
    subst (λ s. P s t) same (subst (λ k. P given k) index h)

-- a union whose tag has a variant
pub variant_passed :
    (here : ErrorKind → Fault) (given schema : Shapes) (n t : ℕ) (one : Option VariantKind)
    (S : List ℕ) (start f left : ℕ) (r : Option ℕ) → given ≡ schema → one ≡ Some (variant.Table t)
    → StepsPass (Walks given n) (reference_steps here t S start f) left r
    → StepsPass (Walks schema n) (variant_steps here one S start f) left r
variant_passed here given schema n t one S start f left r same is h =
    subst (λ v. StepsPass (Walks schema n) (variant_steps here v S start f) left r) (sym is)
    (subst (λ s. StepsPass (Walks s n) (reference_steps here t S start f) left r) same h)
