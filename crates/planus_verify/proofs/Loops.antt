-- Items and fields, one after the other.
use Prim.Native.Nat.{suc}
use Rattle.std.proofs.Common.{◌≡◌, ℕ, ◌+◌, ◌-◌, ◌*◌, ◌<◌, ◌≤◌, List, [], ◌∷◌, ◌++◌, drop, refl, sym, subst, ap, ◌∙◌, arith, inl, inr, Option, Some, None, Result, Ok, Err}
use Rattle.planus_read.specs.Clauses.{Clause, FirstBroken, Answer, shown}
use Rattle.planus_read.specs.Reading.{vector_clauses, vector_reading, items_at}
use Rattle.planus_read.specs.declared.errors.ErrorKind.{ErrorKind}
use Rattle.planus_read.proofs.Reading.{vector_holds}
use Rattle.planus_view.specs.Views.{View}
use Rattle.planus_verify.specs.Steps.{Step, Tests, Faults, items_from, vector_steps}
use Rattle.planus_verify.specs.Steps.{text_steps, reference_steps, variant_steps, place_faults}
use Rattle.planus_verify.specs.Walks.{DoesTable, NoTable, InOrder, Tested, IsTested, tested_as}
use Rattle.planus_verify.specs.declared.fault.Fault.{Fault}
use Rattle.planus_verify.specs.declared.fault.Fault.TheVariants as fault
use Rattle.planus_verify.specs.declared.schema.VariantKind.{VariantKind}
use Rattle.planus_verify.specs.declared.fault.FieldPlace.{FieldPlace}
use Rattle.planus_verify.specs.lemmas.InOrder.{then_more, stops_there, last_step}

pub tested_is :
    {A : Type 0} (place : FieldPlace) (clauses : List Clause) (left : ℕ) (read : Result A ErrorKind)
    → IsTested clauses read → Tested (fault.Field place) clauses left (tested_as place left read)
tested_is place clauses left (Ok x) h = (h, refl)
tested_is place clauses left (Err e) h = (e, h, refl)

-- one reading of a field
pub one_test :
    {A : Type 0} (W : DoesTable) (place : FieldPlace) (clauses : List Clause) (left : ℕ)
    (read : Result A ErrorKind) (r : Result ℕ Fault) → IsTested clauses read
    → r ≡ tested_as place left read → InOrder W (Tests (fault.Field place) clauses ∷ []) left r
one_test W place clauses left read r h e =
    subst (InOrder W (Tests (fault.Field place) clauses ∷ []) left) (sym e)
    (last_step W (Tests (fault.Field place) clauses) left (tested_as place left read)
    (tested_is place clauses left read h))

module _ (W : DoesTable) (count : ℕ) (steps : ℕ → List Step) where
  -- Whatever the items from the one at i on answer, all items do.
  abbrev pub ItemsSoFar : ℕ → ℕ → ℕ → Type 0
  ItemsSoFar i before left =
      (r : Result ℕ Fault) → InOrder W (items_from i (count - i) steps) left r
      → InOrder W (items_from 0 count steps) before r

  pub items_begin : (before : ℕ) → ItemsSoFar 0 before before
  items_begin before r h =
      let e : count - 0 ≡ count = omega arith in
      subst (λ n. InOrder W (items_from 0 n steps) before r) e h

  -- the item at i, and those after it
  item_first :
      (i left : ℕ) (r : Result ℕ Fault) → i < count
      → InOrder W (steps i ++ items_from (i + 1) (count - (i + 1)) steps) left r
      → InOrder W (items_from i (count - i) steps) left r
  item_first i left r below h =
      let e : suc (count - (i + 1)) ≡ count - i = omega (arith, below) in
      subst (λ n. InOrder W (items_from i n steps) left r) e h

  pub item_passes :
      (i before left next : ℕ) → i < count → ItemsSoFar i before left
      → InOrder W (steps i) left (Ok next) → ItemsSoFar (i + 1) before next
  item_passes i before left next below so_far passed r h =
      so_far r (item_first i left r below
      (then_more W (steps i) (items_from (i + 1) (count - (i + 1)) steps) left next r passed h))

  pub item_stops :
      (i before left : ℕ) (found : Fault) → i < count → ItemsSoFar i before left
      → InOrder W (steps i) left (Err found) → InOrder W (items_from 0 count steps) before (Err found)
  item_stops i before left found below so_far stopped =
      so_far (Err found) (item_first i left (Err found) below
      (stops_there W (steps i) (items_from (i + 1) (count - (i + 1)) steps) left found stopped))

  pub items_end :
      (i before left : ℕ) → count ≤ i → ItemsSoFar i before left
      → InOrder W (items_from 0 count steps) before (Ok left)
  items_end i before left past so_far =
      let e : 0 ≡ count - i = omega (arith, past) in
      so_far (Ok left) (subst (λ n. InOrder W (items_from i n steps) left (Ok left)) e refl)

-- The vector isn't there.
pub no_vector :
    (W : DoesTable) (at : Faults) (item : ℕ → List ℕ → ℕ → ℕ → List Step) (S : List ℕ)
    (start f left : ℕ) (e : ErrorKind) → FirstBroken (vector_clauses S f 4) e
    → InOrder W (vector_steps at item S start f) left (Err (at None e))
no_vector W at item S start f left e h = inr (at None e, (e, h, refl), refl)

-- It is there, with the items of this view.
pub vector_is :
    (W : DoesTable) (at : Faults) (item : ℕ → List ℕ → ℕ → ℕ → List Step) (S : List ℕ)
    (start f : ℕ) (view : View) (left : ℕ) (r : Result ℕ Fault)
    → Answer (shown (λ items v. v ≡ record {
      bytes = drop items.position S;
      start = start + items.position;
      count = items.count;
    }) (vector_reading S f 4)) (Ok view)
    → InOrder W (items_from 0 view.count (λ i. item i view.bytes view.start (i * 4))) left r
    → InOrder W (vector_steps at item S start f) left r
vector_is W at item S start f view left r there h =
    let holds = vector_holds S f 4 there.0.position there.0.count there.1 in
    let same = there.2 ∙ (ap (λ k. record {
      bytes = drop k S;
      start = start + k;
      count = there.0.count;
    }) holds.1 ∙ ap (λ n. record {
      bytes = drop (items_at S f) S;
      start = start + items_at S f;
      count = n;
    }) holds.2) in
    inl (
      left,
      (holds.0, refl),
      subst (λ (v : View). InOrder W (items_from 0 v.count (λ i. item i v.bytes v.start (i * 4))) left r)
          same h,
    )

-- the place of an item
pub item_faults :
    (place at : FieldPlace) (i : ℕ)
    → at ≡ record { table = place.table; start = place.start; slot = place.slot; item = Some i }
    → (λ (kind : ErrorKind). fault.Field at kind) ≡ place_faults place (Some i)
item_faults place at i e = ap {B = ErrorKind → Fault} (λ p kind. fault.Field p kind) e

pub text_item :
    (place at : FieldPlace) (i : ℕ) (B S : List ℕ) (f left : ℕ) (r : Result ℕ Fault)
    → at ≡ record { table = place.table; start = place.start; slot = place.slot; item = Some i }
    → B ≡ S → f ≡ i * 4 → InOrder NoTable (text_steps (fault.Field at) B f) left r
    → InOrder NoTable (text_steps (place_faults place (Some i)) S (i * 4)) left r
text_item place at i B S f left r e bytes offset h =
    subst (λ here. InOrder NoTable (text_steps here S (i * 4)) left r) (item_faults place at i e)
    (subst (λ l. InOrder NoTable (text_steps (fault.Field at) l (i * 4)) left r) bytes
    (subst (λ k. InOrder NoTable (text_steps (fault.Field at) B k) left r) offset h))

module _ (W : DoesTable) (place at : FieldPlace) (i : ℕ) (B S : List ℕ) (begin start f k left : ℕ)
    (r : Result ℕ Fault)
    (e : at ≡ record { table = place.table; start = place.start; slot = place.slot; item = Some i })
    (bytes : B ≡ S) (begins : begin ≡ start) (offset : f ≡ k) where
  pub reference_item :
      (t : ℕ) → InOrder W (reference_steps (fault.Field at) t B begin f) left r
      → InOrder W (reference_steps (place_faults place (Some i)) t S start k) left r
  reference_item t h =
      subst (λ here. InOrder W (reference_steps here t S start k) left r) (item_faults place at i e)
      (subst (λ l. InOrder W (reference_steps (fault.Field at) t l start k) left r) bytes
      (subst (λ n. InOrder W (reference_steps (fault.Field at) t B n k) left r) begins
      (subst (λ n. InOrder W (reference_steps (fault.Field at) t B begin n) left r) offset h)))

  pub variant_item :
      (one : Option VariantKind) → InOrder W (variant_steps (fault.Field at) one B begin f) left r
      → InOrder W (variant_steps (place_faults place (Some i)) one S start k) left r
  variant_item one h =
      subst (λ here. InOrder W (variant_steps here one S start k) left r) (item_faults place at i e)
      (subst (λ l. InOrder W (variant_steps (fault.Field at) one l start k) left r) bytes
      (subst (λ n. InOrder W (variant_steps (fault.Field at) one B n k) left r) begins
      (subst (λ n. InOrder W (variant_steps (fault.Field at) one B begin n) left r) offset h)))
