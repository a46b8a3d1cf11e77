-- Every list of steps has a result.
use Rattle.std.proofs.Common.{◌≡◌, ℕ, ◌+◌, List, [], ◌∷◌, ◌++◌, length, replicate, map, refl, sym}
use Rattle.std.proofs.Common.{ap, ◌∙◌, subst, Option, Some, None, Ok, Err, Bool, true, false}
use Rattle.std.proofs.Common.{inl, inr, append_assoc, append-nil}
use Rattle.std.specs.Prelude.{◌⊎◌, ◌==◌, if◌then◌else◌}
use Rattle.std.specs.List.{list_all}
use Rattle.std.specs.Option.{option_map}
use Rattle.std.specs.Int.{Width, byte_len, to_le_bytes}
use Rattle.std.proofs.lemmas.Bool.{cases_lt}
use Rattle.planus_back.specs.Promises.{IsPowerOfTwo}
use Rattle.planus_back.specs.Padding.{greatest_place, promise_of}
use Rattle.planus_back.specs.Parts.{Part, Written, Placed, IsTooLarge}
use Rattle.planus_back.proofs.PaddingLaws.{exists}
use Rattle.planus_read.specs.Values as value
use Rattle.planus_read.specs.Values.{Value}
use Rattle.planus_write.specs.Shared.{Contents, CacheSettings, shared_as, and_cached}
use Rattle.planus_write.specs.History.{History, Entry, PutsAfter, PutsAll, part_after, found_before}
use Rattle.planus_write.specs.History.{ComesToTooLarge as ComesToTooLargeEntry}
use Rattle.planus_write.specs.Parts.{Named, entries_of}
use Rattle.planus_write.specs.lemmas.PartBytes.{finish_size, sized_finish_size}
use Rattle.planus.specs.Steps.{Step, text, bytes, numbers, refs, unions, struct, plains, table, finish, clear}
use Rattle.planus.specs.Steps.{root_first, size_first}
use Rattle.planus.specs.Kinds.{StepKind, a_value, a_union_vector, kind_of, kind_named, naming_fault}
use Rattle.planus.specs.Runs.{struct_width}
use Rattle.planus.proofs.Structs.{struct_there, plains_there}
use Rattle.planus.specs.Runs.{RunState, nothing_written, cleared, Advances, LeadsTo, Writes, StepTooLarge}
use Rattle.planus.specs.Runs.{named_at, value_at, union_of, all_of, width_of, fits_width, numbers_value, value_of}
use Rattle.planus.specs.Runs.{entries_put, finish_of, values_added, finishes_added}
use Rattle.planus.specs.Replays.{is_clear, named_step, fault_of, first_fault, union_fault, numbers_fault}
use Rattle.planus.specs.Replays.{broken_check, first_bad, AnAnswerIsThere, IsAnswered}
use Rattle.planus.specs.declared.replaying.faults.Why.{Why}
use Rattle.planus.specs.declared.replaying.faults.Why.TheVariants.{ValueTooBig, ZeroTag}
use Rattle.planus.specs.declared.replaying.faults.ReplayError.TheVariants.{TooLarge, BadStep}
use Rattle.planus.proofs.FieldFaults.{none_of}
use Rattle.planus.proofs.Kept.{Kept, run_kept, values_are_written, leads_on}
use Rattle.planus.proofs.NamedKinds.{GoodAreNamed, good_value}
use Rattle.planus.proofs.Placed.{IsPlacedInTurn, AreFit, put_in_turn, values_are_fit, greatest_power}
use Rattle.planus.proofs.TableFields.{table_are}
use Rattle.planus.proofs.Walking.{still_clean, too_large, bad_step}

placed_or_not : (part : Part) (history : History) → IsPlacedInTurn history → IsPowerOfTwo part.alignment
    → IsTooLarge part history.written ⊎ ((after : Written) × Placed part history.written after)
placed_or_not part history h power =
    let before : Written = history.written in
    let found = exists (length before.bytes) h.described.0.delayed h.described.0.mask before.promises part.size part.alignment h.described.1 power in
    let place : ℕ = length before.bytes + found.0 + part.size in
    elim (cases_lt greatest_place place) as (λ _. IsTooLarge part before ⊎ ((after : Written) × Placed part before after)) [
      | inl far ↦ inl (record { padding = found.0; is_least = found.1; too_great = far })
      | inr fits ↦ inr (
        record { bytes = part.bytes_at place ++ replicate found.0 0 ++ before.bytes; promises = promise_of place part.alignment ∷ before.promises },
        record { padding = found.0; place = place; is_least = found.1; is_place = refl; fits = fits; bytes = refl; promises = refl },
      )
    ]

abbrev IsPutOrNot : Option ℕ → Part → Option Contents → History → Type 0
IsPutOrNot earlier part shared history =
    ((earlier ≡ None) × IsTooLarge part history.written) ⊎ ((distance : ℕ) × (after : History) × PutsAfter earlier part shared history distance after)

put_or_not : (earlier : Option ℕ) (part : Part) (shared : Option Contents) (history : History) → IsPlacedInTurn history → IsPowerOfTwo part.alignment → IsPutOrNot earlier part shared history
put_or_not (Some earlier) part shared history h power = inr (earlier, history, (refl, refl))
put_or_not None part shared history h power =
    elim (placed_or_not part history h power) as (λ _. IsPutOrNot None part shared history) [
      | inl far ↦ inl (refl, far)
      | inr placed ↦
          let place : ℕ = placed.1.place in
          inr (
            place,
            record { written = placed.0; cached = and_cached shared place history.cached; parts = history.parts ++ part ∷ []; places = history.places ++ place ∷ [] },
            record { placed = placed.1; at = refl; cached = refl; parts = refl; places = refl },
          )
    ]

all_or_not : (settings : CacheSettings) (entries : List Entry) (got : List ℕ) (history : History) → AreFit entries → IsPlacedInTurn history
    → ComesToTooLargeEntry settings entries got history ⊎ ((all : List ℕ) × (after : History) × PutsAll settings entries got history all after)
all_or_not settings [] got history fit h = inr (got, history, (refl, refl))
all_or_not settings (entry ∷ entries) got history fit h =
    let here = fit.0 got history h in
    elim (put_or_not (found_before settings entry history) (part_after entry got history) (shared_as settings entry.contents) history h here.power) as
    (λ _. ComesToTooLargeEntry settings (entry ∷ entries) got history ⊎ ((all : List ℕ) × (after : History) × PutsAll settings (entry ∷ entries) got history all after)) [
      | inl far ↦ inl (inl (record { is_new = far.0; too_large = far.1 }))
      | inr put ↦
          let between : IsPlacedInTurn put.1
          = put_in_turn (found_before settings entry history) (part_after entry got history) (shared_as settings entry.contents) history put.0 put.1 put.2 here.sized here.power h in
          elim (all_or_not settings entries (got ++ put.0 ∷ []) put.1 fit.1 between) as
          (λ _. ComesToTooLargeEntry settings (entry ∷ entries) got history ⊎ ((all : List ℕ) × (after : History) × PutsAll settings (entry ∷ entries) got history all after)) [
            | inl far ↦ inl (inr (put.0, put.1, put.2, far))
            | inr all ↦ inr (all.0, all.1, (put.0, put.1, put.2, all.2))
          ]
    ]

is_of_kind : (kind : StepKind) (of : Option StepKind) → naming_fault kind (Some of) ≡ None → of ≡ Some kind
is_of_kind kind None e = (cc)
is_of_kind a_value (Some a_value) e = refl
is_of_kind a_value (Some a_union_vector) e = (cc)
is_of_kind a_union_vector (Some a_value) e = (cc)
is_of_kind a_union_vector (Some a_union_vector) e = refl

numbers_there : (width : Option Width) (items : List ℕ) → numbers_fault width items ≡ None → (v : Value) × (numbers_value width items ≡ Some v)
numbers_there None items e = (cc)
numbers_there (Some width) items e = by_test (list_all (fits_width width) items) e
  where
    list : Value
    list = value.plain_list (byte_len width) (byte_len width) (map (to_le_bytes width) items)

    by_test : (fit : Bool) → (if fit then None else Some ValueTooBig) ≡ None → (v : Value) × ((if fit then Some list else None) ≡ Some v)
    by_test true e = (list, refl)
    by_test false e = (cc)

all_are : {X Y : Type 0} (there : X → Option Y) (fault : X → Option Why) → ((x : X) → fault x ≡ None → (y : Y) × (there x ≡ Some y))
    → (xs : List X) → first_fault fault xs ≡ None → (ys : List Y) × (all_of there xs ≡ Some ys)
all_are is_there fault made [] e = ([], refl)
all_are is_there fault made (x ∷ xs) e =
    let both = none_of (fault x) (first_fault fault xs) e in
    let here = made x both.0 in
    let rest = all_are is_there fault made xs both.1 in
    (here.0 ∷ rest.0, rw (here.1, rest.1) refl)

module _ (settings : CacheSettings) (cs : List Step) (state : RunState) (run : LeadsTo settings nothing_written cs state) where
  kept : Kept settings cs cs state
  kept = run_kept settings cs state run

  abbrev fault_here : StepKind → ℕ → Option Why
  fault_here kind number = fault_of kind (named_step cs number)

  good : GoodAreNamed state.listed fault_here
  good kind number e = by_step (named_step cs number) refl e
    where
      by_step : (step : Option Step) → named_step cs number ≡ step → fault_of kind step ≡ None
          → (named : Named) × (named_at state.listed number ≡ Some named) × (kind_named named ≡ kind)
      by_step None is e = (cc)
      by_step (Some step) is e = kept.lists number step kind is (is_of_kind kind (kind_of step) e)

  value_there : (number : ℕ) → fault_here a_value number ≡ None → (distance : ℕ) × (value_at state.listed number ≡ Some distance)
  value_there = good_value state.listed fault_here good

  union_there : (item : ℕ × ℕ) → union_fault (fault_here a_value) item ≡ None → (union : ℕ × ℕ) × (union_of state.listed item ≡ Some union)
  union_there item e = by_test (item.0 == 0) e
    where
      by_test : (zero : Bool) → (if zero then Some ZeroTag else fault_here a_value item.1) ≡ None
          → (union : ℕ × ℕ) × ((if zero then None else option_map (λ distance. (item.0, distance)) (value_at state.listed item.1)) ≡ Some union)
      by_test true e = (cc)
      by_test false e = let there = value_there item.1 e in ((item.0, there.0), ap (option_map (λ distance. (item.0, distance))) there.1)

  abbrev PutsFit : Step → Type 0
  PutsFit step = (entries : List Entry) × (entries_put state.listed step ≡ Some entries) × AreFit entries

  fit : (step : Step) (v : Value) → value_of state.listed step ≡ Some v → AreFit (entries_of v)
  fit step v is = values_are_fit (length state.history.written.bytes) v (values_are_written settings cs cs step state kept v is).0

  puts : (step : Step) → is_clear step ≡ false → broken_check cs step ≡ None → PutsFit step
  puts (text content) kind e = (entries_of (value.text content), refl, fit (text content) (value.text content) refl)
  puts (bytes content) kind e = (entries_of (value.byte_list content), refl, fit (bytes content) (value.byte_list content) refl)
  puts (numbers width items) kind e =
      let made = numbers_there (width_of width) items e in
      (entries_of made.0, ap (option_map entries_of) made.1, fit (numbers width items) made.0 made.1)
  puts (refs steps) kind e =
      let made = all_are (value_at state.listed) (fault_here a_value) value_there steps e in
      let is : value_of state.listed (refs steps) ≡ Some (value.reference_list made.0) = ap (option_map value.reference_list) made.1 in
      (entries_of (value.reference_list made.0), ap (option_map entries_of) is, fit (refs steps) (value.reference_list made.0) is)
  puts (unions items) kind e =
      let made = all_are (union_of state.listed) (union_fault (fault_here a_value)) union_there items e in
      let is : value_of state.listed (unions items) ≡ Some (value.union_vector made.0) = ap (option_map value.union_vector) made.1 in
      (entries_of (value.union_vector made.0), ap (option_map entries_of) is, fit (unions items) (value.union_vector made.0) is)
  puts (struct alignment content) kind e =
      let made = struct_there (struct_width alignment) content e in
      let is : value_of state.listed (struct alignment content) ≡ Some (value.apart made.0) = ap (option_map value.apart) made.1 in
      (entries_of (value.apart made.0), ap (option_map entries_of) is, fit (struct alignment content) (value.apart made.0) is)
  puts (plains alignment size content) kind e =
      let made = plains_there (struct_width alignment) size content e in
      (entries_of made.0, ap (option_map entries_of) made.1, fit (plains alignment size content) made.0 made.1)
  puts (table fields) kind e =
      let made = table_are state.listed fault_here good fields e in
      let is : value_of state.listed (table fields) ≡ Some (value.table made.0) = ap (option_map value.table) made.1 in
      (entries_of (value.table made.0), ap (option_map entries_of) is, fit (table fields) (value.table made.0) is)
  puts (finish root_first root identifier) kind e =
      let made = value_there root e in (
        finish_of root_first identifier made.0,
        ap (option_map (finish_of root_first identifier)) made.1,
        ((λ got history h. record { sized = λ place. finish_size made.0 identifier history.written place; power = greatest_power 4 history.written.promises (2, refl) h.powers }), tt),
      )
  puts (finish size_first root identifier) kind e =
      let made = value_there root e in (
        finish_of size_first identifier made.0,
        ap (option_map (finish_of size_first identifier)) made.1,
        ((λ got history h. record { sized = λ place. sized_finish_size made.0 identifier history.written place; power = greatest_power 4 history.written.promises (2, refl) h.powers }), tt),
      )
  puts clear kind e = (cc)

  written_or_not : (step : Step) → PutsFit step → StepTooLarge settings state step ⊎ ((after : RunState) × Writes settings state step after)
  written_or_not step put = elim (all_or_not settings put.0 [] state.history put.2 kept.placed) as (λ _. StepTooLarge settings state step ⊎ ((after : RunState) × Writes settings state step after)) [
    | inl far ↦ inl (record { entries = put.0; are = put.1; too_large = far })
    | inr all ↦ inr (
      record {
        history = all.1;
        listed = state.listed ++ values_added (value_of state.listed step) state.next all.0;
        next = state.next + 1;
        finished = state.finished ++ finishes_added step state all.1;
      },
      record { entries = put.0; are = put.1; got = all.0; puts = all.2; listed = refl; next = refl; finished = refl },
    )
  ]

  pub on_or_too_large : (step : Step) → broken_check cs step ≡ None → StepTooLarge settings state step ⊎ ((after : RunState) × Advances settings state step after)
  on_or_too_large (text content) e = written_or_not (text content) (puts (text content) refl e)
  on_or_too_large (bytes content) e = written_or_not (bytes content) (puts (bytes content) refl e)
  on_or_too_large (numbers width items) e = written_or_not (numbers width items) (puts (numbers width items) refl e)
  on_or_too_large (refs steps) e = written_or_not (refs steps) (puts (refs steps) refl e)
  on_or_too_large (unions items) e = written_or_not (unions items) (puts (unions items) refl e)
  on_or_too_large (struct alignment content) e = written_or_not (struct alignment content) (puts (struct alignment content) refl e)
  on_or_too_large (plains alignment size content) e = written_or_not (plains alignment size content) (puts (plains alignment size content) refl e)
  on_or_too_large (table fields) e = written_or_not (table fields) (puts (table fields) refl e)
  on_or_too_large (finish front root identifier) e = written_or_not (finish front root identifier) (puts (finish front root identifier) refl e)
  on_or_too_large clear e = inr (cleared state, refl)

module _ (settings : CacheSettings) (all : List Step) where
  answer_from : (cs rest : List Step) → all ≡ cs ++ rest → (state : RunState) → LeadsTo settings nothing_written cs state → first_bad cs ≡ None → IsAnswered settings all
  answer_from cs [] whole state run clean =
      let same : all ≡ cs = whole ∙ append-nil cs in
      (Ok state.finished, (ap first_bad same ∙ clean, (state, subst (λ steps. LeadsTo settings nothing_written steps state) (sym same) run, refl)), λ wants. wants)
  answer_from cs (step ∷ rest) whole state run clean = by_check (broken_check cs step) refl
      (λ after on. answer_from (cs ++ step ∷ []) rest (whole ∙ sym (append_assoc cs (step ∷ []) rest)) after
      (leads_on settings nothing_written state after cs step run on) (still_clean settings all cs step rest whole state run clean after on))
    where
      by_check : (check : Option Why) → broken_check cs step ≡ check → ((after : RunState) → Advances settings state step after → IsAnswered settings all) → IsAnswered settings all
      by_check (Some why) is further = (Err (BadStep (length cs) why), bad_step settings all cs step rest whole state run clean (length cs) why refl is, λ wants. wants)
      by_check None is further = elim (on_or_too_large settings cs state run step is) as (λ _. IsAnswered settings all) [
        | inl far ↦ (Err TooLarge, too_large settings all cs step rest whole state run clean far, λ wants. wants)
        | inr on ↦ further on.0 on.1
      ]

pub an_answer_is_there : AnAnswerIsThere
an_answer_is_there settings steps = answer_from settings steps [] steps refl nothing_written refl refl
