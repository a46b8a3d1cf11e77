-- What a search of parts says of the whole.
use Prim.Native.Nat.{zero, suc}
use Rattle.std.proofs.Common.{◌≡◌, ℕ, ◌+◌, ◌-◌, ◌*◌, ◌≤◌, ◌<◌, ◌⊎◌, List, [], ◌∷◌, ◌++◌, drop, reverse, refl, sym, subst, ap, ◌∙◌, arith, inl, inr, Option, Some, None, Result, Ok, Err}
use Rattle.std.proofs.lemmas.List.{reverse-append}
use Rattle.planus_read.specs.Clauses.{Clause, AllHold}
use Rattle.planus_read.specs.Reading.{target, slots_of, table_clauses}
use Rattle.planus_read.specs.Tables.{table_object, table_slots, table_start}
use Rattle.planus_read.specs.declared.errors.ErrorKind.{ErrorKind}
use Rattle.planus_read.specs.declared.table_reader.Table.{Table}
use Rattle.planus_verify.specs.Schemas.{Shapes, fields_of}
use Rattle.planus_verify.specs.Searches.{AnswersSearch, LeadsWithin, Through, SearchesTable}
use Rattle.planus_verify.specs.Searches.{SearchesSteps}
use Rattle.planus_verify.specs.Searches.{SearchesField, SearchesFields, Puts, Extends}
use Rattle.planus_verify.specs.Steps.{Step, Tests, items_from, reference_steps, variant_steps}
use Rattle.planus_verify.specs.Steps.{field_steps, fields_steps}
use Rattle.planus_verify.specs.Trails.{EntersFirst, EntersAfter, FieldRefers, FieldsRefer, Refers, OfPlace}
use Rattle.planus_verify.specs.Verified.{OfTable, OfTables, steps_tables, tables_in}
use Rattle.planus_verify.specs.declared.fault.Fault.{Fault}
use Rattle.planus_verify.specs.declared.fault.Fault.TheVariants as fault
use Rattle.planus_verify.specs.declared.fault.FieldPlace.{FieldPlace}
use Rattle.planus_verify.specs.declared.schema.FieldShape.{FieldShape}
use Rattle.planus_verify.specs.declared.schema.VariantKind.{VariantKind}
use Rattle.planus_verify.specs.declared.schema.VariantKind.TheVariants as variant
use Rattle.planus_verify.specs.declared.search_end.SearchEnd.{SearchEnd}
use Rattle.planus_verify.specs.declared.search_end.SearchEnd.TheVariants.{Found, TooMany, NoMemory}
use Rattle.planus_verify.proofs.Tables.{IsTableAt}

abbrev Wanted : Type 1
Wanted = List FieldPlace → Type 0

pub either : {A B C : Type 0} → (A → C) → (B → C) → A ⊎ B → C
either first second (inl a) = first a
either first second (inr b) = second b

pub none_wanted :
    (A : Wanted) (tables left : ℕ) → ((trail : List FieldPlace) → A trail → ⊥)
    → AnswersSearch A tables left (Ok left)
none_wanted A tables left none = (none, omega arith)

-- where a search stops
pub stops :
    (A B : Wanted) (m n left : ℕ) (end : SearchEnd)
    → ((trail : List FieldPlace) → A trail → B trail) → m ≤ n → AnswersSearch A m left (Err end)
    → AnswersSearch B n left (Err end)
stops A B m n left (Found trail) there more h = there (reverse trail.items) h
stops A B m n left TooMany there more h = omega (arith, more, h)
stops A B m n left NoMemory there more h = (h.0, there h.0 h.1)

-- one search after another
pub continues :
    (A B C : Wanted) (m n k left next : ℕ) (r : Result ℕ SearchEnd)
    → ((trail : List FieldPlace) → C trail → A trail ⊎ B trail)
    → ((trail : List FieldPlace) → B trail → C trail) → m + n ≤ k → AnswersSearch A m left (Ok next)
    → AnswersSearch B n next r → AnswersSearch C k left r
continues A B C m n k left next (Ok rest) part there more first second = (
  λ trail wanted. either (first.0 trail) (second.0 trail) (part trail wanted),
  let one = first.1 in let two = second.1 in omega (arith, more, one, two),
)
continues A B C m n k left next (Err (Found trail)) part there more first second =
    there (reverse trail.items) second
continues A B C m n k left next (Err TooMany) part there more first second =
    let one = first.1 in omega (arith, more, one, second)
continues A B C m n k left next (Err NoMemory) part there more first second =
    (second.0, there second.0 second.1)

-- the same search under other words
pub answers_as :
    (A B : Wanted) (m n left : ℕ) (r : Result ℕ SearchEnd)
    → ((trail : List FieldPlace) → A trail → B trail)
    → ((trail : List FieldPlace) → B trail → A trail) → m ≤ n → AnswersSearch A m left r
    → AnswersSearch B n left r
answers_as A B m n left (Ok rest) there back more h =
    ((λ trail wanted. h.0 trail (back trail wanted)), let one = h.1 in omega (arith, more, one))
answers_as A B m n left (Err end) there back more h = stops A B m n left end there more h

-- a table more
one_more :
    (A : Wanted) (m left : ℕ) (r : Result ℕ SearchEnd) → AnswersSearch A m left r
    → AnswersSearch A (1 + m) (suc left) r
one_more A m left (Ok rest) h = (h.0, let one = h.1 in omega (arith, one))
one_more A m left (Err (Found trail)) h = h
one_more A m left (Err TooMany) h = omega (arith, h)
one_more A m left (Err NoMemory) h = h

pub put_alone :
    (A : Wanted) (m left : ℕ) (places : List FieldPlace) (place : FieldPlace) (end : SearchEnd)
    → places ≡ [] → A (place ∷ []) → Puts places place end → AnswersSearch A m left (Err end)
put_alone A m left places place (Found trail) none h puts =
    let same : trail.items ≡ place ∷ [] = puts ∙ ap (λ l. l ++ place ∷ []) none in
    subst A (sym (ap reverse same)) h
put_alone A m left places place TooMany none h puts = absurd puts
put_alone A m left places place NoMemory none h puts = (place ∷ [], h)

module _ (schema : Shapes) (Ends : OfPlace) (n : ℕ) where
  abbrev Of : OfPlace → Wanted
  Of RefersTo = Through schema Ends n RefersTo

  abbrev tables : OfTables
  tables = tables_in schema n

  through_as :
      (Q R : OfPlace)
      → ((at : FieldPlace) (t : ℕ) (S V : List ℕ) (start : ℕ) → Q at t S V start → R at t S V start)
      → (trail : List FieldPlace) → Of Q trail → Of R trail
  through_as Q R there [] h = h
  through_as Q R there (first ∷ rest) h =
      (h.0, h.1, h.2, h.3, there first h.0 h.1 h.2 h.3 h.4, h.5)

  through_either :
      (Q R C : OfPlace)
      → ((at : FieldPlace) (t : ℕ) (S V : List ℕ) (start : ℕ) → C at t S V start
      → Q at t S V start ⊎ R at t S V start)
      → (trail : List FieldPlace) → Of C trail → Of Q trail ⊎ Of R trail
  through_either Q R C part [] h = inl h
  through_either Q R C part (first ∷ rest) h =
      either (λ q. inl (h.0, h.1, h.2, h.3, q, h.5)) (λ r. inr (h.0, h.1, h.2, h.3, r, h.5))
      (part first h.0 h.1 h.2 h.3 h.4)

  through_none :
      (Q : OfPlace)
      → ((at : FieldPlace) (t : ℕ) (S V : List ℕ) (start : ℕ) → Q at t S V start → ⊥)
      → (trail : List FieldPlace) → Of Q trail → ⊥
  through_none Q none [] h = h
  through_none Q none (first ∷ rest) h = none first h.0 h.1 h.2 h.3 h.4

  -- a table where no trail ends
  module _ (t : ℕ) (S V : List ℕ) (start : ℕ)
      (elsewhere : (last : FieldPlace) → Ends last t S V start → ⊥) where
    leads_on :
        (trail : List FieldPlace) → Of (Refers schema t S V start) trail
        → LeadsWithin schema Ends (suc n) trail t S V start
    leads_on [] h = absurd h
    leads_on (first ∷ rest) h =
        (inr (h.0, h.1, h.2, h.3, h.4, h.5.0), let short = h.5.1 in omega (arith, short))

    leads_from :
        (trail : List FieldPlace) → LeadsWithin schema Ends (suc n) trail t S V start
        → Of (Refers schema t S V start) trail
    leads_from [] h = absurd h.0
    leads_from (first ∷ rest) (inl here, short) = absurd (elsewhere first here.1)
    leads_from (first ∷ rest) (inr there, short) =
        (there.0, there.1, there.2, there.3, there.4, (there.5, omega (arith, short)))

    table_of_fields :
        (left : ℕ) (r : Result ℕ SearchEnd)
        → SearchesFields schema Ends n t S V start (fields_of schema t) left r
        → SearchesTable schema Ends (suc n) t S V start (suc left) r
    table_of_fields left r h =
        let m : ℕ = steps_tables tables (fields_steps schema.variants t S V start (fields_of schema t)) in
        answers_as (Of (Refers schema t S V start))
        (λ trail. LeadsWithin schema Ends (suc n) trail t S V start) (1 + m) (1 + m) (suc left) r
        leads_on leads_from (omega arith)
        (one_more (Of (Refers schema t S V start)) m left r h)

  -- the table to which a reference leads
  reference_back :
      (at : FieldPlace) (here : ErrorKind → Fault) (t : ℕ) (S : List ℕ) (start f : ℕ)
      (trail : List FieldPlace)
      → Of (λ p. EntersAfter (fault.Field p) (reference_steps here t S start f)) trail
      → (first : FieldPlace) × (rest : List FieldPlace) × (trail ≡ first ∷ rest)
      × LeadsWithin schema Ends n rest t (drop (target S f) S) (slots_of S (target S f))
      (start + target S f)
  reference_back at here t S start f [] h = absurd h
  reference_back at here t S start f (first ∷ rest) (i, o, v, b, inl (e, holds, (it, io, iv, ib)), h) = (
    first,
    rest,
    refl,
    subst
        (λ k. LeadsWithin schema Ends n rest k (drop (target S f) S) (slots_of S (target S f))
        (start + target S f)) it
        (subst
        (λ k. LeadsWithin schema Ends n rest i k (slots_of S (target S f)) (start + target S f)) io
        (subst (λ k. LeadsWithin schema Ends n rest i o k (start + target S f)) iv
        (subst (λ k. LeadsWithin schema Ends n rest i o v k) ib h))),
  )
  reference_back at here t S start f (first ∷ rest) (i, o, v, b, inr never, h) = absurd never

  module _ (at : FieldPlace) (t : ℕ) (S : List ℕ) (start f : ℕ)
      (holds : AllHold (table_clauses S f)) where
    abbrev Here : List FieldPlace → Type 0
    Here trail =
        LeadsWithin schema Ends n trail t (drop (target S f) S) (slots_of S (target S f))
        (start + target S f)

    abbrev Reached : Wanted
    Reached = Of (λ p. EntersAfter (fault.Field p) (reference_steps (fault.Field at) t S start f))

    reaches : (trail : List FieldPlace) → Here trail → Reached (at ∷ trail)
    reaches trail h = (_, _, _, _, inl (refl, holds, (refl, refl, refl, refl)), h)

    reference_extended :
        (left : ℕ) (r s : Result ℕ SearchEnd)
        → AnswersSearch Here (tables t (drop (target S f) S) (slots_of S (target S f)) (start + target S f))
        left r → Extends at r s
        → SearchesSteps schema Ends n (reference_steps (fault.Field at) t S start f) left s
    reference_extended left (Ok rest) s h same =
        subst (SearchesSteps schema Ends n (reference_steps (fault.Field at) t S start f) left)
        (sym same) (
          (λ trail reached. let back = reference_back at (fault.Field at) t S start f trail reached in
              h.0 back.1 back.3),
          let one = h.1 in omega (arith, one),
        )
    reference_extended left (Err TooMany) s h same =
        subst (SearchesSteps schema Ends n (reference_steps (fault.Field at) t S start f) left)
        (sym same) (omega (arith, h))
    reference_extended left (Err NoMemory) s h same =
        subst (SearchesSteps schema Ends n (reference_steps (fault.Field at) t S start f) left)
        (sym same) (at ∷ h.0, reaches h.0 h.1)
    reference_extended left (Err (Found trail)) (Ok rest) h puts = absurd puts
    reference_extended left (Err (Found trail)) (Err (Found longer)) h puts =
        let same : reverse longer.items ≡ at ∷ reverse trail.items =
        ap reverse puts ∙ reverse-append trail.items (at ∷ []) in
        subst Reached (sym same) (reaches (reverse trail.items) h)
    reference_extended left (Err (Found trail)) (Err TooMany) h puts = absurd puts
    reference_extended left (Err (Found trail)) (Err NoMemory) h puts =
        (at ∷ reverse trail.items, reaches (reverse trail.items) h)

  pub reference_found :
      (at : FieldPlace) (t : ℕ) (S : List ℕ) (start f : ℕ) (table : Table) (left : ℕ)
      (r s : Result ℕ SearchEnd) → IsTableAt S start f table
      → SearchesTable schema Ends n t (table_object table) (table_slots table) (table_start table)
      left r → Extends at r s
      → SearchesSteps schema Ends n (reference_steps (fault.Field at) t S start f) left s
  reference_found at t S start f table left r s is h extends =
      reference_extended at t S start f is.holds left r s
      (subst (λ o. SearchesTable schema Ends n t o (slots_of S (target S f)) (start + target S f)
      left r) is.object
      (subst (λ v. SearchesTable schema Ends n t (table_object table) v (start + target S f)
      left r) is.slots
      (subst (λ k. SearchesTable schema Ends n t (table_object table) (table_slots table) k left r)
      is.begins h)))
      extends

  pub reference_fails :
      (at : FieldPlace) (t : ℕ) (S : List ℕ) (start f left : ℕ)
      → (AllHold (table_clauses S f) → ⊥)
      → SearchesSteps schema Ends n (reference_steps (fault.Field at) t S start f) left (Ok left)
  reference_fails at t S start f left fails =
      none_wanted _ _ left
      (through_none (λ p. EntersAfter (fault.Field p) (reference_steps (fault.Field at) t S start f))
      (λ p i o v b. either (λ (first : _ × _ × _). fails first.1) (λ never. never)))

  pub reference_field :
      (here : ErrorKind → Fault) (t : ℕ) (S : List ℕ) (start f left : ℕ) (r : Result ℕ SearchEnd)
      → SearchesSteps schema Ends n (reference_steps here t S start f) left r
      → SearchesField schema Ends n (reference_steps here t S start f) left r
  reference_field here t S start f left r h =
      answers_as (Of (λ p. EntersAfter (fault.Field p) (reference_steps here t S start f)))
      (Of (FieldRefers (reference_steps here t S start f))) _ _ left r
      (through_as (λ p. EntersAfter (fault.Field p) (reference_steps here t S start f))
      (FieldRefers (reference_steps here t S start f))
      (λ p i o v b. either (λ (first : _ × _ × _). (first.1, inl first)) (λ never. absurd never)))
      (through_as (FieldRefers (reference_steps here t S start f))
      (λ p. EntersAfter (fault.Field p) (reference_steps here t S start f))
      (λ p i o v b h. h.1))
      (omega arith) h

  pub no_reference :
      (steps : List Step) (left : ℕ)
      → ((at : FieldPlace) (t : ℕ) (S V : List ℕ) (start : ℕ) → FieldRefers steps at t S V start → ⊥)
      → SearchesField schema Ends n steps left (Ok left)
  no_reference steps left none = none_wanted _ _ left (through_none (FieldRefers steps) none)

  -- a field's own test, and what follows it
  module _ (here : ErrorKind → Fault) (clauses : List Clause) (steps : List Step) (left : ℕ) where
    pub test_fails :
        (AllHold clauses → ⊥)
        → SearchesField schema Ends n (Tests here clauses ∷ steps) left (Ok left)
    test_fails fails =
        no_reference (Tests here clauses ∷ steps) left (λ p i o v b h. fails h.0)

    pub test_holds :
        (r : Result ℕ SearchEnd) → AllHold clauses
        → ((t : ℕ) (S V : List ℕ) (start : ℕ) → EntersFirst steps t S V start → ⊥)
        → SearchesSteps schema Ends n steps left r
        → SearchesField schema Ends n (Tests here clauses ∷ steps) left r
    test_holds r holds later h =
        answers_as (Of (λ p. EntersAfter (fault.Field p) steps))
        (Of (FieldRefers (Tests here clauses ∷ steps))) _ _ left r
        (through_as (λ p. EntersAfter (fault.Field p) steps)
        (FieldRefers (Tests here clauses ∷ steps)) (λ p i o v b h. (holds, inr h)))
        (through_as (FieldRefers (Tests here clauses ∷ steps))
        (λ p. EntersAfter (fault.Field p) steps)
        (λ p i o v b h. either (λ (first : _ × _ × _). absurd (later i o v b first.2)) (λ e. e) h.1))
        (omega arith) h

  pub nothing : (left : ℕ) → SearchesField schema Ends n [] left (Ok left)
  nothing left = no_reference [] left (λ p i o v b h. h)

tables_append :
    (count : OfTables) (steps more : List Step)
    → steps_tables count (steps ++ more) ≡ steps_tables count steps + steps_tables count more
tables_append count [] more = omega arith
tables_append count (step ∷ steps) more =
    let e = tables_append count steps more in omega (arith, e)

-- an item, and those after it
module _ (at here : ErrorKind → Fault) (S : List ℕ) (start f : ℕ) (more : List Step) (i : ℕ)
    (o v : List ℕ) (b : ℕ) where
  enters_either :
      (one : Option VariantKind) → (EntersFirst more i o v b → ⊥)
      → EntersAfter at (variant_steps here one S start f ++ more) i o v b
      → EntersAfter at (variant_steps here one S start f) i o v b ⊎ EntersAfter at more i o v b
  enters_either None none h = inr h
  enters_either (Some (variant.Table t)) none (inl h) = inl (inl h)
  enters_either (Some (variant.Table t)) none (inr h) = inr h
  enters_either (Some variant.Text) none (inl h) = absurd (none h.2)
  enters_either (Some variant.Text) none (inr h) = inr h
  enters_either (Some (variant.Struct size)) none (inl h) = absurd (none h.2)
  enters_either (Some (variant.Struct size)) none (inr h) = inr h

  enters_here :
      (one : Option VariantKind) → EntersAfter at (variant_steps here one S start f) i o v b
      → EntersAfter at (variant_steps here one S start f ++ more) i o v b
  enters_here None h = absurd h
  enters_here (Some (variant.Table t)) (inl h) = inl h
  enters_here (Some (variant.Table t)) (inr h) = absurd h
  enters_here (Some variant.Text) (inl h) = absurd h.2
  enters_here (Some variant.Text) (inr h) = absurd h
  enters_here (Some (variant.Struct size)) (inl h) = absurd h.2
  enters_here (Some (variant.Struct size)) (inr h) = absurd h

  enters_later :
      (one : Option VariantKind) → EntersAfter at more i o v b
      → EntersAfter at (variant_steps here one S start f ++ more) i o v b
  enters_later None h = h
  enters_later (Some (variant.Table t)) h = inr h
  enters_later (Some variant.Text) h = inr h
  enters_later (Some (variant.Struct size)) h = inr h

  first_later :
      (one : Option VariantKind) → (EntersFirst more i o v b → ⊥)
      → EntersFirst (variant_steps here one S start f ++ more) i o v b → ⊥
  first_later None none h = none h
  first_later (Some (variant.Table t)) none h = h
  first_later (Some variant.Text) none h = h
  first_later (Some (variant.Struct size)) none h = h

module _ (here : ℕ → ErrorKind → Fault) (kind_of : ℕ → Option VariantKind) (S : List ℕ) (start : ℕ) where
  abbrev pub item_steps : ℕ → List Step
  item_steps i = variant_steps (here i) (kind_of i) S start (i * 4)

  pub no_first_item :
      (i m t : ℕ) (o v : List ℕ) (b : ℕ) → EntersFirst (items_from i m item_steps) t o v b → ⊥
  no_first_item i zero t o v b h = h
  no_first_item i (suc m) t o v b h =
      first_later (here i) (here i) S start (i * 4) (items_from (i + 1) m item_steps) t o v b
      (kind_of i) (no_first_item (i + 1) m t o v b) h

module _ (schema : Shapes) (Ends : OfPlace) (n : ℕ) (count : ℕ)
    (here : ℕ → ErrorKind → Fault) (kind_of : ℕ → Option VariantKind) (S : List ℕ) (start : ℕ) where
  abbrev steps_at : ℕ → List Step
  steps_at = item_steps here kind_of S start

  -- Whatever the items from the one at i on answer, all items do.
  abbrev pub ItemsSoFar : ℕ → ℕ → ℕ → Type 0
  ItemsSoFar i before left =
      (r : Result ℕ SearchEnd)
      → SearchesSteps schema Ends n (items_from i (count - i) steps_at) left r
      → SearchesSteps schema Ends n (items_from 0 count steps_at) before r

  pub items_begin : (before : ℕ) → ItemsSoFar 0 before before
  items_begin before r h =
      let e : count - 0 ≡ count = omega arith in
      subst (λ k. SearchesSteps schema Ends n (items_from 0 k steps_at) before r) e h

  item_first :
      (i left : ℕ) (r : Result ℕ SearchEnd) → i < count
      → SearchesSteps schema Ends n
      (steps_at i ++ items_from (i + 1) (count - (i + 1)) steps_at) left r
      → SearchesSteps schema Ends n (items_from i (count - i) steps_at) left r
  item_first i left r below h =
      let e : suc (count - (i + 1)) ≡ count - i = omega (arith, below) in
      subst (λ k. SearchesSteps schema Ends n (items_from i k steps_at) left r) e h

  abbrev Entered : List Step → FieldPlace → OfTable
  Entered steps p = EntersAfter (fault.Field p) steps

  pub item_passes :
      (i before left next : ℕ) → i < count → ItemsSoFar i before left
      → SearchesSteps schema Ends n (steps_at i) left (Ok next) → ItemsSoFar (i + 1) before next
  item_passes i before left next below so_far passed r h =
      let more : List Step = items_from (i + 1) (count - (i + 1)) steps_at in
      let e = tables_append (tables_in schema n) (steps_at i) more in
      so_far r (item_first i left r below
      (continues (Through schema Ends n (Entered (steps_at i))) (Through schema Ends n (Entered more))
      (Through schema Ends n (Entered (steps_at i ++ more))) _ _ _ left next r
      (through_either schema Ends n (Entered (steps_at i)) (Entered more)
      (Entered (steps_at i ++ more))
      (λ p t o v b. enters_either (fault.Field p) (here i) S start (i * 4) more t o v b (kind_of i)
      (no_first_item here kind_of S start (i + 1) (count - (i + 1)) t o v b)))
      (through_as schema Ends n (Entered more) (Entered (steps_at i ++ more))
      (λ p t o v b. enters_later (fault.Field p) (here i) S start (i * 4) more t o v b (kind_of i)))
      (omega (arith, e)) passed h))

  pub item_stops :
      (i before left : ℕ) (end : SearchEnd) → i < count → ItemsSoFar i before left
      → SearchesSteps schema Ends n (steps_at i) left (Err end)
      → SearchesSteps schema Ends n (items_from 0 count steps_at) before (Err end)
  item_stops i before left end below so_far stopped =
      let more : List Step = items_from (i + 1) (count - (i + 1)) steps_at in
      let e = tables_append (tables_in schema n) (steps_at i) more in
      so_far (Err end) (item_first i left (Err end) below
      (stops (Through schema Ends n (Entered (steps_at i)))
      (Through schema Ends n (Entered (steps_at i ++ more))) _ _ left end
      (through_as schema Ends n (Entered (steps_at i)) (Entered (steps_at i ++ more))
      (λ p t o v b. enters_here (fault.Field p) (here i) S start (i * 4) more t o v b (kind_of i)))
      (omega (arith, e)) stopped))

  pub items_end :
      (i before left : ℕ) → count ≤ i → ItemsSoFar i before left
      → SearchesSteps schema Ends n (items_from 0 count steps_at) before (Ok left)
  items_end i before left past so_far =
      let e : 0 ≡ count - i = omega (arith, past) in
      so_far (Ok left)
      (subst (λ k. SearchesSteps schema Ends n (items_from i k steps_at) left (Ok left)) e
      (none_wanted _ _ left (through_none schema Ends n (Entered []) (λ p t o v b h. h))))

-- some fields, one after the other
module _ (schema : Shapes) (Ends : OfPlace) (n t : ℕ) (S V : List ℕ) (start : ℕ)
    (fields : List FieldShape) (before : ℕ) where
  abbrev pub FieldsSoFar : List FieldShape → ℕ → Type 0
  FieldsSoFar rest left =
      (r : Result ℕ SearchEnd) → SearchesFields schema Ends n t S V start rest left r
      → SearchesFields schema Ends n t S V start fields before r

  abbrev Referred : List FieldShape → FieldPlace → OfTable
  Referred = FieldsRefer schema.variants t S V start

  abbrev steps_of : FieldShape → List Step
  steps_of = field_steps schema.variants t S V start

  abbrev all_steps : List FieldShape → List Step
  all_steps = fields_steps schema.variants t S V start

  pub field_passes :
      (rest more : List FieldShape) (field : FieldShape) (left next : ℕ) → rest ≡ field ∷ more
      → FieldsSoFar rest left → SearchesField schema Ends n (steps_of field) left (Ok next)
      → FieldsSoFar more next
  field_passes rest more field left next is so_far passed r h =
      let e = tables_append (tables_in schema n) (steps_of field) (all_steps more) in
      so_far r
      (subst (λ l. SearchesFields schema Ends n t S V start l left r) (sym is)
      (continues (Through schema Ends n (FieldRefers (steps_of field)))
      (Through schema Ends n (Referred more)) (Through schema Ends n (Referred (field ∷ more)))
      _ _ _ left next r
      (through_either schema Ends n (FieldRefers (steps_of field)) (Referred more)
      (Referred (field ∷ more)) (λ p i o v b h. h))
      (through_as schema Ends n (Referred more) (Referred (field ∷ more)) (λ p i o v b h. inr h))
      (omega (arith, e)) passed h))

  pub field_stops :
      (rest more : List FieldShape) (field : FieldShape) (left : ℕ) (end : SearchEnd)
      → rest ≡ field ∷ more → FieldsSoFar rest left
      → SearchesField schema Ends n (steps_of field) left (Err end)
      → SearchesFields schema Ends n t S V start fields before (Err end)
  field_stops rest more field left end is so_far stopped =
      let e = tables_append (tables_in schema n) (steps_of field) (all_steps more) in
      so_far (Err end)
      (subst (λ l. SearchesFields schema Ends n t S V start l left (Err end)) (sym is)
      (stops (Through schema Ends n (FieldRefers (steps_of field)))
      (Through schema Ends n (Referred (field ∷ more))) _ _ left end
      (through_as schema Ends n (FieldRefers (steps_of field)) (Referred (field ∷ more))
      (λ p i o v b h. inl h))
      (omega (arith, e)) stopped))

  pub fields_end :
      (rest : List FieldShape) (left : ℕ) → rest ≡ [] → FieldsSoFar rest left
      → SearchesFields schema Ends n t S V start fields before (Ok left)
  fields_end rest left none so_far =
      so_far (Ok left)
      (subst (λ l. SearchesFields schema Ends n t S V start l left (Ok left)) (sym none)
      (none_wanted _ _ left (through_none schema Ends n (Referred []) (λ p i o v b h. h))))

-- a table that is entered and counted
pub table_searched :
    (schema : Shapes) (Ends : OfPlace) (depth t : ℕ) (S V : List ℕ) (start : ℕ)
    (fields : List FieldShape) (left : ℕ) (r : Result ℕ SearchEnd) → (depth ≡ 0 → ⊥)
    → (left ≡ 0 → ⊥) → ((last : FieldPlace) → Ends last t S V start → ⊥)
    → fields ≡ fields_of schema t
    → SearchesFields schema Ends (depth - 1) t S V start fields (left - 1) r
    → SearchesTable schema Ends depth t S V start left r
table_searched schema Ends zero t S V start fields left r deep some elsewhere all h =
    absurd (deep refl)
table_searched schema Ends (suc n) t S V start fields zero r deep some elsewhere all h =
    absurd (some refl)
table_searched schema Ends (suc n) t S V start fields (suc left) r deep some elsewhere all h =
    let one : suc n - 1 ≡ n = omega arith in
    let rest : suc left - 1 ≡ left = omega arith in
    table_of_fields schema Ends n t S V start elsewhere left r
    (subst (λ l. SearchesFields schema Ends n t S V start l left r) all
    (subst (λ k. SearchesFields schema Ends n t S V start fields k r) rest
    (subst (λ k. SearchesFields schema Ends k t S V start fields (suc left - 1) r) one h)))

pub table_found :
    (schema : Shapes) (Ends : OfPlace) (depth t : ℕ) (S V : List ℕ) (start left : ℕ)
    (places : List FieldPlace) (last : FieldPlace) (end : SearchEnd) → (depth ≡ 0 → ⊥)
    → Ends last t S V start → places ≡ [] → Puts places last end
    → SearchesTable schema Ends depth t S V start left (Err end)
table_found schema Ends zero t S V start left places last end deep here none puts =
    absurd (deep refl)
table_found schema Ends (suc n) t S V start left places last end deep here none puts =
    put_alone (λ trail. LeadsWithin schema Ends (suc n) trail t S V start) _ left places last end
    none (inl (refl, here), omega arith) puts

no_length :
    (schema : Shapes) (Ends : OfPlace) (t : ℕ) (S V : List ℕ) (start : ℕ)
    (trail : List FieldPlace) → LeadsWithin schema Ends 0 trail t S V start → ⊥
no_length schema Ends t S V start [] h = h.0
no_length schema Ends t S V start (first ∷ rest) h = let long = h.1 in omega (arith, long)

pub too_deep :
    (schema : Shapes) (Ends : OfPlace) (depth t : ℕ) (S V : List ℕ) (start left : ℕ)
    → depth ≡ 0 → SearchesTable schema Ends depth t S V start left (Ok left)
too_deep schema Ends zero t S V start left none =
    none_wanted _ _ left (no_length schema Ends t S V start)
too_deep schema Ends (suc n) t S V start left none = absurd (let e : suc n ≡ 0 = none in cc)

pub too_many :
    (schema : Shapes) (Ends : OfPlace) (depth t : ℕ) (S V : List ℕ) (start left : ℕ)
    → (depth ≡ 0 → ⊥) → left ≡ 0 → SearchesTable schema Ends depth t S V start left (Err TooMany)
too_many schema Ends zero t S V start left deep none = absurd (deep refl)
too_many schema Ends (suc n) t S V start left deep none = omega (arith, none)
