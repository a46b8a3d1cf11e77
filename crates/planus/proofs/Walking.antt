-- The steps of a replay, one by one.
use Rattle.std.proofs.Common.{◌≡◌, ℕ, zero, suc, ◌+◌, List, [], ◌∷◌, ◌++◌, length, take, map, refl}
use Rattle.std.proofs.Common.{sym, ap, ◌∙◌, subst, arith, Option, Some, None, append_assoc}
use Rattle.std.proofs.Common.{append-nil, length-append, Err}
use Rattle.std.specs.Prelude.{slice_get}
use Rattle.std.specs.Str.{IsUtf8}
use Rattle.std.specs.String.{string_bytes}
use Rattle.std.proofs.lemmas.Str.{IsUtf8-string_bytes}
use Rattle.planus.specs.Steps.{Step, text, bytes, numbers, refs, unions, struct, plains, table, finish, clear}
use Rattle.planus.specs.Steps.{bare_step}
use Rattle.planus.specs.Kinds.{StepKind, a_value, a_union_vector, kind_named, naming_fault}
use Rattle.planus_read.specs.Values.{Value}
use Rattle.planus_write.specs.Shared.{CacheSettings}
use Rattle.planus_write.specs.History.{Entry}
use Rattle.planus.specs.Runs.{RunState, Advances, LeadsTo, StepTooLarge, nothing_written}
use Rattle.planus.specs.Runs.{value_at, union_of, all_of, entries_put, finish_of}
use Rattle.planus.specs.Runs.{width_of, fits_width, numbers_value}
use Rattle.planus.specs.Runs.{struct_width, struct_of, plains_value, table_of}
use Rattle.planus.proofs.Structs.{struct_good, plains_good}
use Rattle.planus_write.specs.Parts.{entries_of}
use Rattle.planus_read.specs.Values as value
use Rattle.std.specs.Option.{option_map}
use Rattle.std.specs.List.{list_all}
use Rattle.std.specs.Int.{Width, byte_len, to_le_bytes}
use Rattle.std.specs.Prelude.{Bool, true, false, if◌then◌else◌}
use Rattle.planus.specs.Replays.{first_bad, first_bad_after, first_bad_or, broken_check, fault_of}
use Rattle.planus.specs.Replays.{named_step, numbers_fault, first_fault, union_fault, Replays}
use Rattle.planus.specs.declared.replaying.faults.Why.TheVariants.{ValueTooBig, ZeroTag}
use Rattle.planus.specs.declared.replaying.faults.ReplayError.TheVariants.{TooLarge, BadStep}
use Rattle.planus.specs.declared.replaying.faults.Why.{Why}
use Rattle.planus.specs.declared.replaying.steps.Step as code
use Rattle.planus.specs.declared.replaying.steps.Step.TheVariants.{Text, Bytes, Numbers, Refs, Unions}
use Rattle.planus.specs.declared.replaying.steps.Step.TheVariants.{Struct, Plains, Table, Finish, FinishSized, Clear}
use Rattle.planus.proofs.Kept.{AllUtf8, run_value}
use Rattle.planus.proofs.Lists.{get_last, made_of, all_made, union_made}
use Rattle.planus.proofs.NamedKinds.{NamedAreGood, value_good}
use Rattle.planus.proofs.TableFields.{table_good}
use Rattle.std.proofs.Math.Seq.{take-append_seam}

none_after : (n : ℕ) (check : Option Why) (later : Option (ℕ × Why)) → first_bad_or n check later ≡ None → (check ≡ None) × (later ≡ None)
none_after n None later h = (refl, h)
none_after n (Some why) later h = (cc)

pub next_check : (earlier steps : List Step) (step : Step) (rest : List Step) → first_bad_after earlier steps ≡ None
    → first_bad_after earlier (steps ++ step ∷ rest) ≡ first_bad_or (length earlier + length steps) (broken_check (earlier ++ steps) step) (first_bad_after (earlier ++ (steps ++ step ∷ [])) rest)
next_check earlier [] step rest h =
    ap (λ n. first_bad_or n (broken_check earlier step) (first_bad_after (earlier ++ step ∷ []) rest)) (let e : length earlier ≡ length earlier + 0 = omega arith in e)
    ∙ ap (λ xs. first_bad_or (length earlier + 0) (broken_check xs step) (first_bad_after (earlier ++ step ∷ []) rest)) (sym (append-nil earlier))
next_check earlier (first ∷ steps) step rest h =
    let parts = none_after (length earlier) (broken_check earlier first) (first_bad_after (earlier ++ first ∷ []) steps) h in
    rw parts.0 (next_check (earlier ++ first ∷ []) steps step rest parts.1
    ∙ rw (append_assoc earlier (first ∷ []) steps, append_assoc earlier (first ∷ []) (steps ++ step ∷ []), length-append earlier (first ∷ []))
    (ap (λ n. first_bad_or n (broken_check (earlier ++ (first ∷ steps)) step) (first_bad_after (earlier ++ (first ∷ (steps ++ step ∷ []))) rest)) (omega arith)))

is_utf8 : (step : code.Step) (content : List ℕ) → bare_step step ≡ text content → IsUtf8 content
is_utf8 (Text words) content e = let same : string_bytes words ≡ content = cc in subst IsUtf8 same (IsUtf8-string_bytes words)
is_utf8 (Bytes list) content e = (cc)
is_utf8 (Numbers width items) content e = (cc)
is_utf8 (Refs steps) content e = (cc)
is_utf8 (Unions items) content e = (cc)
is_utf8 (Struct alignment list) content e = (cc)
is_utf8 (Plains alignment size list) content e = (cc)
is_utf8 (Table fields) content e = (cc)
is_utf8 (Finish root id) content e = (cc)
is_utf8 (FinishSized root id) content e = (cc)
is_utf8 Clear content e = (cc)

pub all_utf8 : (steps : List code.Step) → AllUtf8 (map bare_step steps)
all_utf8 [] i content e = (cc)
all_utf8 (step ∷ steps) zero content e = is_utf8 step content (let same : bare_step step ≡ text content = cc in same)
all_utf8 (step ∷ steps) (suc i) content e = all_utf8 steps i content e

no_wrong_kind : (kind : StepKind) → naming_fault kind (Some (Some kind)) ≡ None
no_wrong_kind a_value = refl
no_wrong_kind a_union_vector = refl

numbers_good : (width : Option Width) (items : List ℕ) (v : Value) → numbers_value width items ≡ Some v → numbers_fault width items ≡ None
numbers_good None items v h = (cc)
numbers_good (Some width) items v h = by_test (list_all (fits_width width) items) h
  where
    by_test : (fit : Bool) → (if fit then Some (value.plain_list (byte_len width) (byte_len width) (map (to_le_bytes width) items)) else None) ≡ Some v → (if fit then None else Some ValueTooBig) ≡ None
    by_test true h = refl
    by_test false h = (cc)

module _ (settings : CacheSettings) (all cs : List Step) (c : Step) (rest : List Step) (whole : all ≡ cs ++ c ∷ rest) (state : RunState)
    (run : LeadsTo settings nothing_written cs state) (clean : first_bad cs ≡ None) where
  there : slice_get all (length cs) ≡ Some c
  there = ap (λ xs. slice_get xs (length cs)) whole ∙ get_last cs c rest

  before_is : take (length cs) all ≡ cs
  before_is = ap (take (length cs)) whole ∙ take-append_seam cs (c ∷ rest)

  abbrev fault_here : StepKind → ℕ → Option Why
  fault_here kind number = fault_of kind (named_step cs number)

  name_good : NamedAreGood state.listed fault_here
  name_good number named h =
      let v = run_value settings cs state run number named h in
      ap (fault_of (kind_named named)) v.named ∙ ap (λ k. naming_fault (kind_named named) (Some k)) v.kind ∙ no_wrong_kind (kind_named named)

  value_named : (number distance : ℕ) → value_at state.listed number ≡ Some distance → fault_here a_value number ≡ None
  value_named = value_good state.listed fault_here name_good

  all_good : {X Y : Type 0} (there : X → Option Y) (fault : X → Option Why) → ((x : X) (y : Y) → there x ≡ Some y → fault x ≡ None)
      → (xs : List X) (ys : List Y) → all_of there xs ≡ Some ys → first_fault fault xs ≡ None
  all_good is_there fault good [] ys h = refl
  all_good is_there fault good (x ∷ xs) ys h =
      let both = all_made (is_there x) (all_of is_there xs) ys h in
      rw (good x both.0 both.2) (all_good is_there fault good xs both.1 both.3)

  union_good : (item union : ℕ × ℕ) → union_of state.listed item ≡ Some union → union_fault (fault_here a_value) item ≡ None
  union_good item union h =
      let made = union_made state.listed item union h in
      ap (λ zero. if zero then Some ZeroTag else fault_here a_value item.1) made.1 ∙ value_named item.1 made.0 made.2

  put_fault : (step : Step) (entries : List Entry) → entries_put state.listed step ≡ Some entries → broken_check cs step ≡ None
  put_fault (text content) entries h = refl
  put_fault (bytes content) entries h = refl
  put_fault (numbers width items) entries h =
      let made = made_of entries_of (numbers_value (width_of width) items) entries h in
      numbers_good (width_of width) items made.0 made.1
  put_fault (refs steps) entries h =
      let made = made_of entries_of (option_map value.reference_list (all_of (value_at state.listed) steps)) entries h in
      let of_all = made_of value.reference_list (all_of (value_at state.listed) steps) made.0 made.1 in
      all_good (value_at state.listed) (fault_here a_value) value_named steps of_all.0 of_all.1
  put_fault (unions items) entries h =
      let made = made_of entries_of (option_map value.union_vector (all_of (union_of state.listed) items)) entries h in
      let of_all = made_of value.union_vector (all_of (union_of state.listed) items) made.0 made.1 in
      all_good (union_of state.listed) (union_fault (fault_here a_value)) union_good items of_all.0 of_all.1
  put_fault (struct alignment content) entries h =
      let made = made_of entries_of (option_map value.apart (struct_of (struct_width alignment) content)) entries h in
      let of_item = made_of value.apart (struct_of (struct_width alignment) content) made.0 made.1 in
      struct_good (struct_width alignment) content of_item.0 of_item.1
  put_fault (plains alignment size content) entries h =
      let made = made_of entries_of (plains_value (struct_width alignment) size content) entries h in
      plains_good (struct_width alignment) size content made.0 made.1
  put_fault (table fields) entries h =
      let made = made_of entries_of (option_map value.table (table_of state.listed fields)) entries h in
      let of_all = made_of value.table (table_of state.listed fields) made.0 made.1 in
      table_good state.listed fault_here name_good fields of_all.0 of_all.1
  put_fault (finish front root identifier) entries h =
      let made = made_of (finish_of front identifier) (value_at state.listed root) entries h in
      value_named root made.0 made.1
  put_fault clear entries h = refl

  no_fault : (step : Step) (after : RunState) → Advances settings state step after → broken_check cs step ≡ None
  no_fault (text content) after h = refl
  no_fault (bytes content) after h = refl
  no_fault (numbers width items) after h = put_fault (numbers width items) h.entries h.are
  no_fault (refs steps) after h = put_fault (refs steps) h.entries h.are
  no_fault (unions items) after h = put_fault (unions items) h.entries h.are
  no_fault (struct alignment content) after h = put_fault (struct alignment content) h.entries h.are
  no_fault (plains alignment size content) after h = put_fault (plains alignment size content) h.entries h.are
  no_fault (table fields) after h = put_fault (table fields) h.entries h.are
  no_fault (finish front root identifier) after h = put_fault (finish front root identifier) h.entries h.are
  no_fault clear after h = refl

  pub still_clean : (after : RunState) → Advances settings state c after → first_bad (cs ++ c ∷ []) ≡ None
  still_clean after h = next_check [] cs c [] clean ∙ ap (λ check. first_bad_or (0 + length cs) check None) (no_fault c after h)

  up_to : take (length cs + 1) all ≡ cs ++ c ∷ []
  up_to = ap (take (length cs + 1)) (whole ∙ sym (append_assoc cs (c ∷ []) rest))
      ∙ ap (λ n. take n ((cs ++ c ∷ []) ++ rest)) (let e : length cs + 1 ≡ length (cs ++ c ∷ []) = sym (length-append cs (c ∷ [])) in e) ∙ take-append_seam (cs ++ c ∷ []) rest

  pub too_large : StepTooLarge settings state c → Replays settings all (Err TooLarge)
  too_large h = (
    length cs,
    ap first_bad up_to ∙ next_check [] cs c [] clean ∙ ap (λ check. first_bad_or (0 + length cs) check None) (put_fault c h.entries h.are),
    record { step = c; there = there; before = state; run = subst (λ xs. LeadsTo settings nothing_written xs state) (sym before_is) run; too_large = h },
  )

  pub bad_step : (number : ℕ) (why : Why) → number ≡ length cs → broken_check cs c ≡ Some why → Replays settings all (Err (BadStep number why))
  bad_step number why same check = (
    ap first_bad whole ∙ next_check [] cs c rest clean ∙ ap (λ o. first_bad_or (0 + length cs) o (first_bad_after ([] ++ (cs ++ c ∷ [])) rest)) check
        ∙ ap (λ n. Some (n, why)) (let e : 0 + length cs ≡ number = omega arith in e),
    (state, subst (λ xs. LeadsTo settings nothing_written xs state) (sym (ap (λ n. take n all) same ∙ before_is)) run),
  )
