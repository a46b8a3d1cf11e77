-- Searches of a field, by what is read of it.
use Prim.Native.Nat.{zero, suc}
use Rattle.std.proofs.Common.{◌≡◌, ℕ, ◌+◌, ◌*◌, ◌≤◌, ◌<◌, ◌⊎◌, List, [], ◌∷◌, length, take, drop, slice_index, subst, ◌∙◌, inl, inr, Bool, true, false, Option, None, Some, Result, Ok}
use Rattle.planus_read.specs.Clauses.{Answer, shown, Clause, clause, FirstBroken}
use Rattle.planus_read.specs.Reading.{text_clauses, byte_list_clauses, vector_clauses}
use Rattle.planus_read.specs.Reading.{union_vector_clauses, vector_reading, union_vector_reading}
use Rattle.planus_read.specs.Reading.{ByteListThere, count_at, items_at}
use Rattle.planus_read.specs.Tables.{Slot, UnionThere, UnionAbsent, UnionBroken, HalfVector}
use Rattle.planus_read.specs.Tables.{UnionVectorSlots, UnionVectorAnswer, slot_of, table_object}
use Rattle.planus_read.specs.Tables.{table_slots, table_start}
use Rattle.planus_read.specs.declared.errors.ErrorKind.{ErrorKind}
use Rattle.planus_read.specs.declared.errors.ErrorKind.TheVariants.{InvalidOffset, MissingRequired}
use Rattle.planus_read.specs.declared.table_reader.Table.{Table}
use Rattle.planus_read.proofs.Reading.{byte_list_holds}
use Rattle.planus_view.specs.UnionViews.{UnionView}
use Rattle.planus_view.specs.Views.{View}
use Rattle.planus_view.specs.declared.union_vector.UnionSliceView.{UnionSliceView}
use Rattle.planus_view.specs.declared.vector_of.VectorOf.{VectorOf}
use Rattle.planus_verify.specs.Schemas.{Shapes, variant_in}
use Rattle.planus_verify.specs.Searches.{SearchesField, SearchesSteps}
use Rattle.planus_verify.specs.Steps.{Step, Tests, Faults, absent_steps, items_from, text_steps}
use Rattle.planus_verify.specs.Steps.{plain_clauses, union_clauses, reference_steps, variant_steps}
use Rattle.planus_verify.specs.Steps.{value_steps, union_field_steps, unions_field_steps, place_faults}
use Rattle.planus_verify.specs.Trails.{EntersFirst, EntersAfter, OfPlace}
use Rattle.planus_verify.specs.declared.fault.Fault.{Fault}
use Rattle.planus_verify.specs.declared.fault.Fault.TheVariants as fault
use Rattle.planus_verify.specs.declared.fault.FieldPlace.{FieldPlace}
use Rattle.planus_verify.specs.declared.schema.ValueKind.TheVariants as value
use Rattle.planus_verify.specs.declared.schema.Variant.{Variant}
use Rattle.planus_verify.specs.declared.schema.VariantKind.{VariantKind}
use Rattle.planus_verify.specs.declared.schema.VariantKind.TheVariants as variant
use Rattle.planus_verify.specs.declared.search_end.SearchEnd.{SearchEnd}
use Rattle.planus_verify.proofs.FieldReadings.{union_missing, union_damaged, unions_missing}
use Rattle.planus_verify.proofs.FieldReadings.{unions_damaged, vector_read, union_read, unions_read}
use Rattle.planus_verify.proofs.Outcomes.{broken}
use Rattle.planus_verify.proofs.Searches.{either, no_reference, nothing, test_fails}
use Rattle.planus_verify.proofs.Searches.{test_holds, item_steps, no_first_item}
use Rattle.planus_verify.proofs.Unions.{items_steps, reads_unions}

-- strings lead to no table
module _ (here : ℕ → ErrorKind → Fault) (S : List ℕ) (t : ℕ) (o v : List ℕ) (b : ℕ) where
  no_first : (i m : ℕ) → EntersFirst (items_from i m (λ k. text_steps (here k) S (k * 4))) t o v b → ⊥
  no_first i zero h = h
  no_first i (suc m) h = h

  no_text :
      (at : ErrorKind → Fault) (i m : ℕ)
      → EntersAfter at (items_from i m (λ k. text_steps (here k) S (k * 4))) t o v b → ⊥
  no_text at i zero h = h
  no_text at i (suc m) (inl first) = no_first (i + 1) m first.2
  no_text at i (suc m) (inr later) = no_text at (i + 1) m later

module _ (schema : Shapes) (Ends : OfPlace) (n left : ℕ) where
  abbrev Passed : List Step → Type 0
  Passed steps = SearchesField schema Ends n steps left (Ok left)

  pub absent_passed : (at : Faults) (required : Bool) → Passed (absent_steps at required)
  absent_passed at true =
      test_fails schema Ends n (at None) (clause ⊥ MissingRequired ∷ []) [] left
      (λ holds. holds.0)
  absent_passed at false = nothing schema Ends n left

  lone_passed : (here : ErrorKind → Fault) (clauses : List Clause) → Passed (Tests here clauses ∷ [])
  lone_passed here clauses =
      no_reference schema Ends n (Tests here clauses ∷ []) left
      (λ p t o v b h. either (λ first. first.2) (λ never. never) h.1)

  absent_behind :
      (at : Faults) (required : Bool) (here : ErrorKind → Fault) (clauses : List Clause)
      → Passed (Tests here clauses ∷ absent_steps at required)
  absent_behind at true here clauses =
      no_reference schema Ends n
      (Tests here clauses ∷ Tests (at None) (clause ⊥ MissingRequired ∷ []) ∷ []) left
      (λ p t o v b h. either (λ first. first.2)
      (either (λ second. second.1.0) (λ never. never)) h.1)
  absent_behind at false here clauses = lone_passed here clauses

  pub plain_passed :
      (at : Faults) (size : ℕ) (S : List ℕ) (start f : ℕ)
      → Passed (value_steps at (value.Plain size) S start f)
  plain_passed at size S start f = lone_passed (at None) (plain_clauses S f size)

  pub text_passed :
      (at : Faults) (S : List ℕ) (start f : ℕ) → Passed (value_steps at value.Text S start f)
  text_passed at S start f = lone_passed (at None) (text_clauses S f)

  pub bytes_passed :
      (at : Faults) (S : List ℕ) (start f : ℕ) → Passed (value_steps at value.Bytes S start f)
  bytes_passed at S start f = lone_passed (at None) (byte_list_clauses S f)

  pub plains_passed :
      (at : Faults) (size : ℕ) (S : List ℕ) (start f : ℕ)
      → Passed (value_steps at (value.Plains size) S start f)
  plains_passed at size S start f = lone_passed (at None) (vector_clauses S f size)

  pub texts_passed :
      (at : Faults) (S : List ℕ) (start f : ℕ) → Passed (value_steps at value.Texts S start f)
  texts_passed at S start f =
      no_reference schema Ends n (value_steps at value.Texts S start f) left
      (λ p t o v b h. either
      (λ first. no_first (λ i. at (Some i)) _ t o v b 0 _ first.2)
      (no_text (λ i. at (Some i)) _ t o v b _ 0 _) h.1)

  module _ (variants : List Variant) (at : FieldPlace) (required : Bool) (u i : ℕ) (table : Table)
    where
      abbrev S : List ℕ
      S = table_object table

      abbrev V : List ℕ
      V = table_slots table

      pub union_absent :
          UnionAbsent table i
          → Passed (union_field_steps variants (place_faults at) required u i S V (table_start table))
      union_absent none =
          union_missing Passed variants at required u i table none
          (absent_passed (place_faults at) required)
          (absent_behind (place_faults at) required (place_faults at None) (union_clauses i S V))

      pub union_fails :
          (e : ErrorKind)
          → UnionBroken table i e ⊎ ((tag : ℕ) × UnionThere table i tag × FirstBroken [] e)
          → Passed (union_field_steps variants (place_faults at) required u i S V (table_start table))
      union_fails e (inl fails) =
          union_damaged Passed variants at required u i table e fails
          (λ steps fails. test_fails schema Ends n (place_faults at None) (union_clauses i S V) steps
          left fails)
      union_fails e (inr (tag, there, never)) = absurd never

      pub unions_absent :
          (length V < 2 * i + 4)
          ⊎ ((2 * i + 4 ≤ length V) × (Slot V i ≡ 0) × (Slot V (i + 1) ≡ 0))
          → Passed (unions_field_steps variants (place_faults at) required u i S V (table_start table))
      unions_absent none =
          unions_missing Passed variants at required u i table none
          (absent_passed (place_faults at) required)

      pub unions_fail :
          (e : ErrorKind)
          → (HalfVector table i × (e ≡ InvalidOffset))
          ⊎ (UnionVectorSlots table i
          × FirstBroken (union_vector_clauses S (Slot V i) (Slot V (i + 1))) e)
          → Passed (unions_field_steps variants (place_faults at) required u i S V (table_start table))
      unions_fail e fails =
          unions_damaged Passed variants at required u i table e fails
          (λ clauses steps. test_fails schema Ends n (place_faults at None) clauses steps left)

-- No vector of unions is there.
pub vector_absent :
    {T E : _} (table : Table) (i : ℕ) (found : Option (VectorOf (UnionSliceView T E)))
    → found ≡ None → UnionVectorAnswer (reads_unions {T = T} {E = E}) table i (Ok found)
    → (length (table_slots table) < 2 * i + 4)
    ⊎ ((2 * i + 4 ≤ length (table_slots table)) × (Slot (table_slots table) i ≡ 0)
    × (Slot (table_slots table) (i + 1) ≡ 0))
vector_absent {T} {E} table i found is answer =
    subst (λ o. UnionVectorAnswer (reads_unions {T = T} {E = E}) table i (Ok o)) is answer

variant_first :
    (here : ErrorKind → Fault) (one : Option VariantKind) (S : List ℕ) (start f t : ℕ)
    (o v : List ℕ) (b : ℕ) → EntersFirst (variant_steps here one S start f) t o v b → ⊥
variant_first here None S start f t o v b h = h
variant_first here (Some (variant.Table index)) S start f t o v b h = h
variant_first here (Some variant.Text) S start f t o v b h = h
variant_first here (Some (variant.Struct size)) S start f t o v b h = h

module _ (schema : Shapes) (Ends : OfPlace) (n left : ℕ) (at : FieldPlace) where
  abbrev Searched : Result ℕ SearchEnd → List Step → Type 0
  Searched r steps = SearchesField schema Ends n steps left r

  -- a vector of tables
  pub vector_fails :
      (t : ℕ) (S : List ℕ) (start f : ℕ) (e : ErrorKind) → FirstBroken (vector_clauses S f 4) e
      → Searched (Ok left) (value_steps (place_faults at) (value.Tables t) S start f)
  vector_fails t S start f e fails =
      test_fails schema Ends n (place_faults at None) (vector_clauses S f 4) _ left
      (broken (vector_clauses S f 4) e fails)

  pub vector_searched :
      (t : ℕ) (S : List ℕ) (start f : ℕ) (view : View) (r : Result ℕ SearchEnd)
      → Answer (shown (λ items v. v ≡ record {
        bytes = drop items.position S;
        start = start + items.position;
        count = items.count;
      }) (vector_reading S f 4)) (Ok view)
      → SearchesSteps schema Ends n (items_from 0 view.count
      (item_steps (λ i. place_faults at (Some i)) (λ i. Some (variant.Table t)) view.bytes view.start)) left r
      → Searched r (value_steps (place_faults at) (value.Tables t) S start f)
  vector_searched t S start f view r there h =
      vector_read (Searched r) (place_faults at)
      (λ i. reference_steps (place_faults at (Some i)) t) S start f view there
      (λ holds. test_holds schema Ends n (place_faults at None) (vector_clauses S f 4) _ left r
      holds
      (no_first_item (λ i. place_faults at (Some i)) (λ i. Some (variant.Table t)) view.bytes view.start 0 view.count)
      h)

  -- a buffer in a byte vector
  pub nested_fails :
      (t : ℕ) (S : List ℕ) (start f : ℕ) (e : ErrorKind) → FirstBroken (byte_list_clauses S f) e
      → Searched (Ok left) (value_steps (place_faults at) (value.Nested t) S start f)
  nested_fails t S start f e fails =
      test_fails schema Ends n (place_faults at None) (byte_list_clauses S f)
      (reference_steps (place_faults at None) t (take (count_at S f) (drop (items_at S f) S)) 0 0)
      left (broken (byte_list_clauses S f) e fails)

  pub nested_searched :
      (t : ℕ) (S : List ℕ) (start f : ℕ) (content B : List ℕ) (begin k : ℕ)
      (r : Result ℕ SearchEnd) → ByteListThere S f content → B ≡ content → begin ≡ 0 → k ≡ 0
      → SearchesSteps schema Ends n (reference_steps (fault.Field at) t B begin k) left r
      → Searched r (value_steps (place_faults at) (value.Nested t) S start f)
  nested_searched t S start f content B begin k r there bytes begins offset h =
      let holds = byte_list_holds S f content there in
      let found = subst
      (λ l. SearchesSteps schema Ends n (reference_steps (fault.Field at) t l 0 0) left r)
      (bytes ∙ holds.1)
      (subst (λ m. SearchesSteps schema Ends n (reference_steps (fault.Field at) t B m 0) left r)
      begins
      (subst
      (λ m. SearchesSteps schema Ends n (reference_steps (fault.Field at) t B begin m) left r)
      offset h)) in
      test_holds schema Ends n (place_faults at None) (byte_list_clauses S f)
      (reference_steps (place_faults at None) t (take (count_at S f) (drop (items_at S f) S)) 0 0)
      left r holds.0
      (λ t o v b h. h) found

  module _ (variants : List Variant) (required : Bool) (u i : ℕ) (table : Table)
      (r : Result ℕ SearchEnd) where
    pub union_searched :
        (tag given begin f : ℕ) (B : List ℕ) → UnionThere table i tag → given ≡ tag
        → B ≡ table_object table → begin ≡ table_start table → f ≡ slot_of table (i + 1)
        → SearchesSteps schema Ends n
        (variant_steps (fault.Field at) (variant_in variants u given) B begin f) left r
        → Searched r (union_field_steps variants (place_faults at) required u i (table_object table)
        (table_slots table) (table_start table))
    union_searched tag given begin f B there is bytes begins offset h =
        union_read (Searched r) variants at required u i table tag given begin f B there is bytes
        begins offset
        (λ holds. test_holds schema Ends n (fault.Field at)
        (union_clauses i (table_object table) (table_slots table)) _ left r holds
        (variant_first (fault.Field at) (variant_in variants u given) B begin f) h)

    pub unions_searched :
        (view : UnionView) → UnionVectorSlots table i
        → Answer (shown (λ items v. v ≡ record {
          tags = drop items.tags (table_object table);
          references = drop items.references (table_object table);
          start = table_start table + items.references;
          count = items.count;
        }) (union_vector_reading (table_object table) (Slot (table_slots table) i)
        (Slot (table_slots table) (i + 1)))) (Ok view)
        → SearchesSteps schema Ends n
        (items_from 0 view.count (items_steps variants at u view)) left r
        → Searched r (unions_field_steps variants (place_faults at) required u i
        (table_object table) (table_slots table) (table_start table))
    unions_searched view slots there h =
        unions_read (Searched r) variants at required u i table view slots there
        (λ holds. test_holds schema Ends n (place_faults at None)
        (union_vector_clauses (table_object table) (Slot (table_slots table) i)
        (Slot (table_slots table) (i + 1))) _ left r holds
        (no_first_item (λ k. place_faults at (Some k))
        (λ k. variant_in variants u (slice_index view.tags k)) view.references view.start 0
        view.count) h)
