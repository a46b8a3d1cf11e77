-- The fields of a table.
use Prim.Native.Nat.{zero, suc}
use Rattle.std.proofs.Common.{◌≡◌, ℕ, List, [], ◌∷◌, refl, sym, subst, ◌∙◌, inl, inr, Bool, true, false, None, Result, Ok, Err}
use Rattle.planus_read.specs.Tables.{Slot}
use Rattle.planus_verify.specs.Steps.{Step, Faults, present_steps, absent_steps, kind_steps}
use Rattle.planus_verify.specs.Steps.{value_steps, union_field_steps, unions_field_steps}
use Rattle.planus_verify.specs.Steps.{field_steps, fields_steps, place_faults}
use Rattle.planus_verify.specs.Walks.{DoesTable, InOrder, absent_as}
use Rattle.planus_verify.specs.declared.fault.Fault.{Fault}
use Rattle.planus_verify.specs.declared.fault.FieldPlace.{FieldPlace}
use Rattle.planus_verify.specs.declared.schema.FieldKind.TheVariants as kind
use Rattle.planus_verify.specs.declared.schema.FieldShape.{FieldShape}
use Rattle.planus_verify.specs.declared.schema.ValueKind.{ValueKind}
use Rattle.planus_verify.specs.declared.schema.Variant.{Variant}
use Rattle.planus_verify.specs.lemmas.InOrder.{then_more, stops_there}

required_absent :
    (W : DoesTable) (place : FieldPlace) (required : Bool) (left : ℕ)
    → InOrder W (absent_steps (place_faults place) required) left (absent_as place required left)
required_absent W place true left = inr (_, (_, inl (λ no. no, refl), refl), refl)
required_absent W place false left = refl

pub absent_is :
    (W : DoesTable) (place : FieldPlace) (required : Bool) (left : ℕ) (r : Result ℕ Fault)
    → r ≡ absent_as place required left
    → InOrder W (absent_steps (place_faults place) required) left r
absent_is W place required left r e =
    subst (InOrder W (absent_steps (place_faults place) required) left) (sym e)
    (required_absent W place required left)

pub present_is :
    (W : DoesTable) (at : Faults) (required : Bool) (steps : ℕ → List Step) (f left : ℕ)
    (r : Result ℕ Fault) → (f ≡ 0 → ⊥) → InOrder W (steps f) left r
    → InOrder W (present_steps at required steps f) left r
present_is W at required steps zero left r present h = absurd (present refl)
present_is W at required steps (suc f) left r present h = h

-- the place of a field of table t
abbrev pub place_of : ℕ → ℕ → FieldShape → FieldPlace
place_of t start field = record { table = t; start = start; slot = field.slot; item = None }

module _ (W : DoesTable) (variants : List Variant) (t : ℕ) (S V : List ℕ) (start : ℕ)
    (field : FieldShape) (left : ℕ) (r : Result ℕ Fault) (place : FieldPlace)
    (begins : place ≡ place_of t start field) where
  by_kind :
      (k : _) → field.kind ≡ k
      → InOrder W (kind_steps variants (place_faults place) field.required k field.slot S V start)
      left r
      → InOrder W (field_steps variants t S V start field) left r
  by_kind k is h =
      subst
      (λ one. InOrder W (kind_steps variants (place_faults (place_of t start field)) field.required
      one field.slot S V start) left r) (sym is)
      (subst
      (λ p. InOrder W (kind_steps variants (place_faults p) field.required k field.slot S V start)
      left r) begins h)

  pub value_field :
      (one : ValueKind) (B : List ℕ) (begin f : ℕ) → field.kind ≡ kind.Value one → B ≡ S
      → begin ≡ start → f ≡ Slot V field.slot → (f ≡ 0 → ⊥)
      → InOrder W (value_steps (place_faults place) one B begin f) left r
      → InOrder W (field_steps variants t S V start field) left r
  value_field one B begin f is bytes same at present h =
      by_kind (kind.Value one) is
      (subst
      (λ k. InOrder W (present_steps (place_faults place) field.required
      (value_steps (place_faults place) one S start) k) left r) at
      (present_is W (place_faults place) field.required (value_steps (place_faults place) one S start)
      f left r present
      (subst (λ l. InOrder W (value_steps (place_faults place) one l start f) left r) bytes
      (subst (λ n. InOrder W (value_steps (place_faults place) one B n f) left r) same h))))

  pub absent_field :
      (one : ValueKind) (f : ℕ) → field.kind ≡ kind.Value one → f ≡ Slot V field.slot → f ≡ 0
      → r ≡ absent_as place field.required left
      → InOrder W (field_steps variants t S V start field) left r
  absent_field one f is at none e =
      by_kind (kind.Value one) is
      (subst
      (λ k. InOrder W (present_steps (place_faults place) field.required
      (value_steps (place_faults place) one S start) k) left r) (sym none ∙ at)
      (absent_is W place field.required left r e))

  pub union_field :
      (u : ℕ) → field.kind ≡ kind.Union u
      → InOrder W (union_field_steps variants (place_faults place) field.required u field.slot S V
      start) left r
      → InOrder W (field_steps variants t S V start field) left r
  union_field u is h = by_kind (kind.Union u) is h

  pub unions_field :
      (u : ℕ) → field.kind ≡ kind.Unions u
      → InOrder W (unions_field_steps variants (place_faults place) field.required u field.slot S V
      start) left r
      → InOrder W (field_steps variants t S V start field) left r
  unions_field u is h = by_kind (kind.Unions u) is h

module _ (W : DoesTable) (variants : List Variant) (t : ℕ) (S V : List ℕ) (start : ℕ)
    (fields : List FieldShape) (before : ℕ) where
  -- Whatever the fields that are left answer, all fields do.
  abbrev pub FieldsSoFar : List FieldShape → ℕ → Type 0
  FieldsSoFar rest left =
      (r : Result ℕ Fault) → InOrder W (fields_steps variants t S V start rest) left r
      → InOrder W (fields_steps variants t S V start fields) before r

  pub field_passes :
      (rest more : List FieldShape) (field : FieldShape) (left next : ℕ) → rest ≡ field ∷ more
      → FieldsSoFar rest left → InOrder W (field_steps variants t S V start field) left (Ok next)
      → FieldsSoFar more next
  field_passes rest more field left next is so_far passed r h =
      so_far r
      (subst (λ l. InOrder W (fields_steps variants t S V start l) left r) (sym is)
      (then_more W (field_steps variants t S V start field) (fields_steps variants t S V start more)
      left next r passed h))

  pub field_stops :
      (rest more : List FieldShape) (field : FieldShape) (left : ℕ) (found : Fault)
      → rest ≡ field ∷ more → FieldsSoFar rest left
      → InOrder W (field_steps variants t S V start field) left (Err found)
      → InOrder W (fields_steps variants t S V start fields) before (Err found)
  field_stops rest more field left found is so_far stopped =
      so_far (Err found)
      (subst (λ l. InOrder W (fields_steps variants t S V start l) left (Err found)) (sym is)
      (stops_there W (field_steps variants t S V start field)
      (fields_steps variants t S V start more) left found stopped))

  pub fields_end :
      (rest : List FieldShape) (left : ℕ) → rest ≡ [] → FieldsSoFar rest left
      → InOrder W (fields_steps variants t S V start fields) before (Ok left)
  fields_end rest left none so_far =
      so_far (Ok left)
      (subst (λ l. InOrder W (fields_steps variants t S V start l) left (Ok left)) (sym none) refl)
