-- Invariants of every run.
use Rattle.std.proofs.Common.{◌≡◌, ℕ, ◌+◌, ◌-◌, ◌≤◌, List, [], ◌∷◌, ◌++◌, length, take, drop}
use Rattle.std.proofs.Common.{replicate}
use Rattle.std.proofs.Common.{refl, sym, ap, ◌∙◌, subst, arith, Option, Some, None, append_assoc}
use Rattle.std.proofs.Common.{append-nil, length-append, lit≤, false, inl, inr}
use Rattle.std.specs.Prelude.{slice_get}
use Rattle.std.specs.Option.{option_map}
use Rattle.std.specs.List.{AllByRecursion}
use Rattle.std.specs.Str.{IsUtf8}
use Rattle.std.specs.Int.{w32}
use Rattle.std.proofs.Math.Seq.{take-append_seam}
use Rattle.planus_back.specs.Promises.{Promise, IsPowerOfTwo, Keep, greatest_alignment}
use Rattle.planus_back.specs.Padding.{promise_of}
use Rattle.planus_back.specs.Parts.{Part, Written, Placed}
use Rattle.planus_back.proofs.PaddingLaws.{keeps_all}
use Rattle.planus_read.specs.Values as value
use Rattle.planus_read.specs.Values.{Value}
use Rattle.planus_read.specs.Bytes.{BytesStand}
use Rattle.planus_read.specs.Stands.{ReferenceStands}
use Rattle.planus_read.specs.Aligned.{AlignedAt}
use Rattle.planus_read.specs.ReadsBack.{WellFormed}
use Rattle.planus_read.proofs.Reading.{num_inside}
use Rattle.planus_read.proofs.SliceLaws.{bytes_in_slice, fields_stand_in_slices}
use Rattle.planus_read.proofs.ReadsBack.{fields_read_back, what_stands_reads_back}
use Rattle.planus_write.specs.Shared.{CacheSettings}
use Rattle.planus_write.specs.History.{History, Adds, PutsAll}
use Rattle.planus_write.specs.State.{Extends}
use Rattle.planus_write.specs.Parts.{finish_part, sized_finish_part, front_part, root_words}
use Rattle.planus_write.specs.Parts.{sized_words, identifier_bytes, entries_of, IsWritten}
use Rattle.planus_write.specs.Parts.{named_by, Named, position_in}
use Rattle.planus_write.specs.Kept.{IsKept, AllCachedKept}
use Rattle.planus_write.specs.lemmas.Laws.{added_extends}
use Rattle.planus_write.specs.Standing.{SizedFinishStands}
use Rattle.planus_write.specs.lemmas.PartBytes.{length_after, finish_size, sized_finish_size}
use Rattle.planus_write.specs.lemmas.Staying.{kept_stays, cached_stays}
use Rattle.planus_write.specs.lemmas.StandingLaws.{values_are_kept, finishes_lead}
use Rattle.planus_write.specs.lemmas.StandingLaws.{finishes_are_identified, sized_finishes_stand}
use Rattle.planus.specs.Steps.{Step, text, bytes, numbers, refs, unions, struct, plains, table, finish, clear}
use Rattle.planus.specs.Steps.{Front, root_first, size_first}
use Rattle.planus.specs.Kinds.{StepKind, kind_of, kind_named}
use Rattle.planus.specs.inner.Names.{IsReached}
use Rattle.planus.specs.Runs.{struct_width}
use Rattle.planus.specs.Runs.{Listed, Finish, RunState, nothing_written, Advances, LeadsTo, cleared}
use Rattle.planus.specs.Runs.{named_at, value_of, finish_of, Writes, values_added, finishes_added}
use Rattle.planus.specs.Runs.{value_distance, value_at, union_of, all_of, width_of, table_of}
use Rattle.planus.specs.Replays.{is_clear, named_step}
use Rattle.planus.specs.FinishHolds.{ValueHolds, IsFewest, FinishHolds, ValueInSlice, root_at}
use Rattle.planus.specs.FinishHolds.{HoldsBySize, IsFinishOf, AreFinishesOf, finishes_of}
use Rattle.planus.proofs.FinishNumbers.{is_no_finish, as_many, one_more, are_push}
use Rattle.planus.proofs.Turns.{InTurn, fewest}
use Rattle.planus.proofs.NamedKinds.{kind_written}
use Rattle.planus.proofs.Placed.{IsPlacedInTurn, nothing_in_turn, added_in_turn, all_in_turn}
use Rattle.planus.proofs.Placed.{values_are_fit, greatest_power}
use Rattle.planus.proofs.WrittenValues.{numbers_are_written, structs_are_written, plains_are_written, value_behind, references_behind}
use Rattle.planus.proofs.WrittenValues.{unions_behind}
use Rattle.planus.proofs.TableFields.{table_more}
use Rattle.planus.proofs.WrittenTables.{tables_are_written}
use Rattle.planus.proofs.Lists.{all_weaker, all_push, all_named, get_last, made_of}
use Rattle.planus.proofs.Lists.{all_more, distance_more, union_more, named_more, named_new}
use Rattle.planus.proofs.Naming.{named_push, named_last, named_back, named_inside, none_named}
use Rattle.planus.proofs.Naming.{not_behind_clear}
use Rattle.planus.proofs.FinishedValues.{moved_nowhere}

abbrev pub AllUtf8 : List Step → Type 0
AllUtf8 all = (i : ℕ) (content : List ℕ) → slice_get all i ≡ Some (text content) → IsUtf8 content

abbrev TextIsUtf8 : Step → Type 0
TextIsUtf8 step = (content : List ℕ) → step ≡ text content → IsUtf8 content

-- No clear is after the step of a stored value.
pub record ValueKept (all done : List Step) (history : History) (listed : List Listed) (one : Listed) : Type 0 where
  pub step : Step
  pub value : Value
  pub there : slice_get all one.step ≡ Some step
  pub named : named_step done one.step ≡ Some step
  pub is_value : value_of listed step ≡ Some value
  pub kind : kind_of step ≡ Some (kind_named one.named)
  pub well_formed : AllUtf8 all → WellFormed value
  pub kept : IsKept history value one.named

pub value_reaches : (all done : List Step) (history : History) (listed : List Listed) (one : Listed) → ValueKept all done history listed one → IsReached (length history.written.bytes) one.named
value_reaches all done history listed one h = record { distance = h.kept.reached; tags = h.kept.tags_reached }

abbrev pub ListsAll : List Step → List Listed → Type 0
ListsAll done listed = (n : ℕ) (step : Step) (kind : StepKind) → named_step done n ≡ Some step → kind_of step ≡ Some kind
    → (named : Named) × (named_at listed n ≡ Some named) × (kind_named named ≡ kind)

pub record Kept (settings : CacheSettings) (all done : List Step) (state : RunState) : Type 0 where
  pub numbered : state.next ≡ length done
  pub placed : IsPlacedInTurn state.history
  pub cached : AllCachedKept state.history
  pub values : AllByRecursion (ValueKept all done state.history state.listed) state.listed
  pub lists : ListsAll done state.listed
  pub run : LeadsTo settings nothing_written done state
  pub finished : AllUtf8 all → AreFinishesOf settings all (finishes_of done) state.finished

pub leads_on : (settings : CacheSettings) (before between after : RunState) (steps : List Step) (step : Step) → LeadsTo settings before steps between → Advances settings between step after
    → LeadsTo settings before (steps ++ step ∷ []) after
leads_on settings before between after [] step leads advances = (after, subst (λ s. Advances settings s step after) leads advances, refl)
leads_on settings before between after (first ∷ steps) step leads advances = (leads.0, leads.1, leads_on settings leads.0 between after steps step leads.2 advances)

counted : (done : List Step) (step : Step) (before after : ℕ) → after ≡ before + 1 → before ≡ length done → after ≡ length (done ++ step ∷ [])
counted done step before after next h = omega (arith, next, h, length-append done (step ∷ []))

value_stays : (listed more : List Listed) (step : Step) (v : Value) → value_of listed step ≡ Some v → value_of (listed ++ more) step ≡ Some v
value_stays listed more (text content) v e = e
value_stays listed more (bytes content) v e = e
value_stays listed more (numbers width items) v e = e
value_stays listed more (refs steps) v e =
    let made = made_of value.reference_list (all_of (value_at listed) steps) v e in
    rw (all_more (value_at listed) (value_at (listed ++ more)) (distance_more value_distance listed more) steps made.0 made.1) (ap Some made.2)
value_stays listed more (unions items) v e =
    let made = made_of value.union_vector (all_of (union_of listed) items) v e in
    rw (all_more (union_of listed) (union_of (listed ++ more)) (union_more listed more) items made.0 made.1) (ap Some made.2)
value_stays listed more (struct alignment content) v e = e
value_stays listed more (plains alignment size content) v e = e
value_stays listed more (table fields) v e =
    let made = made_of value.table (table_of listed fields) v e in
    rw (table_more listed more fields made.0 made.1) (ap Some made.2)
value_stays listed more (finish front root identifier) v e = (cc)
value_stays listed more clear v e = (cc)

value_moves : (all done : List Step) (step : Step) (before after : History) (listed more : List Listed) → is_clear step ≡ false → Extends before after → (one : Listed)
    → ValueKept all done before listed one → ValueKept all (done ++ step ∷ []) after (listed ++ more) one
value_moves all done step before after listed more kind extends one v = record {
  step = v.step;
  value = v.value;
  there = v.there;
  named = named_push done step v.step one.step kind v.named;
  is_value = value_stays listed more v.step v.value v.is_value;
  kind = v.kind;
  well_formed = v.well_formed;
  kept = kept_stays before after v.value one.named extends v.kept;
}

module _ (settings : CacheSettings) (all done : List Step) (step : Step) (v : Value) (before after : RunState) (kind : is_clear step ≡ false) (there : slice_get all (length done) ≡ Some step)
    (is_value : value_of before.listed step ≡ Some v) (written : IsWritten (length before.history.written.bytes) v) (well_formed : AllUtf8 all → WellFormed v) (got : List ℕ)
    (puts : PutsAll settings (entries_of v) [] before.history got after.history) (listed : after.listed ≡ before.listed ++ record { step = before.next; named = named_by v got } ∷ [])
    (next : after.next ≡ before.next + 1) (finished : after.finished ≡ before.finished ++ []) (run : LeadsTo settings nothing_written (done ++ step ∷ []) after)
    (h : Kept settings all done before) where
  law : IsKept after.history v (named_by v got) × AllCachedKept after.history × Extends before.history after.history
  law = values_are_kept settings v before.history got after.history written h.cached puts

  abbrev added : Listed
  added = record { step = before.next; named = named_by v got }

  new_value : ValueKept all (done ++ step ∷ []) after.history (before.listed ++ added ∷ []) added
  new_value = record {
    step = step;
    value = v;
    there = subst (λ n. slice_get all n ≡ Some step) (sym h.numbered) there;
    named = subst (λ n. named_step (done ++ step ∷ []) n ≡ Some step) (sym h.numbered) (named_last done step kind);
    is_value = value_stays before.listed (added ∷ []) step v is_value;
    kind = kind_written before.listed step v got is_value;
    well_formed = well_formed;
    kept = law.0;
  }

  all_values : AllByRecursion (ValueKept all (done ++ step ∷ []) after.history (before.listed ++ added ∷ [])) (before.listed ++ added ∷ [])
  all_values =
      all_push (ValueKept all (done ++ step ∷ []) after.history (before.listed ++ added ∷ [])) before.listed added
      (all_weaker (ValueKept all done before.history before.listed) (ValueKept all (done ++ step ∷ []) after.history (before.listed ++ added ∷ []))
      (value_moves all done step before.history after.history before.listed (added ∷ []) kind law.2) before.listed h.values) new_value

  none_yet : named_at before.listed (length done) ≡ None
  none_yet = by_name (named_at before.listed (length done)) refl
    where
      by_name : (name : Option Named) → named_at before.listed (length done) ≡ name → name ≡ None
      by_name None e = refl
      by_name (Some named) e =
          let v = all_named (ValueKept all done before.history before.listed) before.listed (length done) named h.values e in
          let inside = named_inside done v.step (length done) v.named in
          absurd (omega (arith, inside))

  lists_new : ListsAll (done ++ step ∷ []) (before.listed ++ added ∷ [])
  lists_new n c of named is_kind = elim (named_back done step c n named) as (λ _. (name : Named) × (named_at (before.listed ++ added ∷ []) n ≡ Some name) × (kind_named name ≡ of)) [
    | inl earlier ↦
        let there = h.lists n c of earlier is_kind in
        (there.0, named_more before.listed (added ∷ []) n there.0 there.1, there.2)
    | inr last ↦
        let number : before.next ≡ n = h.numbered ∙ sym last.0 in
        let same : Some (kind_named (named_by v got)) ≡ Some of = sym (kind_written before.listed step v got is_value) ∙ ap kind_of last.1 ∙ is_kind in (
          named_by v got,
          named_new before.listed added n number (ap (named_at before.listed) last.0 ∙ none_yet),
          (let kinds : kind_named (named_by v got) ≡ of = cc in kinds),
        )
  ]

  pub value_kept : Kept settings all (done ++ step ∷ []) after
  value_kept = record {
    numbered = counted done step before.next after.next next h.numbered;
    placed = all_in_turn settings (entries_of v) [] before.history got after.history (values_are_fit (length before.history.written.bytes) v written) puts h.placed;
    cached = law.1;
    values = subst (λ vs. AllByRecursion (ValueKept all (done ++ step ∷ []) after.history vs) vs) (sym listed) all_values;
    lists = subst (ListsAll (done ++ step ∷ [])) (sym listed) lists_new;
    run = run;
    finished = λ utf8. subst (λ numbers. AreFinishesOf settings all numbers after.finished) (sym (as_many 0 done step (is_no_finish before.listed step v is_value)))
        (subst (AreFinishesOf settings all (finishes_of done)) (sym (finished ∙ append-nil before.finished)) (h.finished utf8));
  }

greatest_rises : (promises : List Promise) → greatest_alignment 1 promises ≤ greatest_alignment 4 promises
greatest_rises [] = lit≤ tt
greatest_rises (p ∷ promises) = let rest = greatest_rises promises in omega (arith, rest)

pub root_behind : (all done : List Step) (before : RunState) (root to : ℕ) → AllByRecursion (ValueKept all done before.history before.listed) before.listed → value_at before.listed root ≡ Some to
    → to ≤ length before.history.written.bytes
root_behind all done before root to values found =
    value_behind (ValueKept all done before.history before.listed) (length before.history.written.bytes) (value_reaches all done before.history before.listed) before.listed values root to found

abbrev pub FrontHolds : Front → List Step → ℕ → ℕ → Option (List ℕ) → Finish → Type 0
FrontHolds front all root to identifier given =
    ReferenceStands given.bytes (root_at front) to × BytesStand given.bytes (root_at front + 4) (identifier_bytes identifier) × HoldsBySize front all root identifier given

module _ (all done : List Step) (root to : ℕ) (identifier : Option (List ℕ)) (before after : RunState) (found : value_at before.listed root ≡ Some to)
    (distance : ℕ) (adds : Adds (sized_finish_part to identifier before.history.written.promises) None before.history distance after.history)
    (values : AllByRecursion (ValueKept all done before.history before.listed) before.listed) where
  abbrev whole : List ℕ
  whole = after.history.written.bytes

  behind_size : drop 4 whole ≡ (root_words to identifier (adds.placed.place - 4) ++ replicate adds.placed.padding 0) ++ before.history.written.bytes
  behind_size = ap (drop 4) adds.placed.bytes

  abbrev slice_past : History
  slice_past = record after.history { written = record after.history.written { bytes = drop 4 whole } }

  slice_extends : Extends before.history slice_past
  slice_extends =
      let extends : Extends before.history after.history = added_extends (sized_finish_part to identifier before.history.written.promises) None before.history distance after.history adds in
      record {
        bytes = (root_words to identifier (adds.placed.place - 4) ++ replicate adds.placed.padding 0, behind_size);
        promises = extends.promises;
        cached = extends.cached;
      }

  in_slice : AllUtf8 all → (one : Listed) → ValueKept all done before.history before.listed one → ValueInSlice all before.listed (drop 4 whole) one
  in_slice utf8 one v =
      let kept : IsKept slice_past v.value one.named = kept_stays before.history slice_past v.value one.named slice_extends v.kept in
      record {
        step = v.step;
        value = v.value;
        there = v.there;
        is_value = v.is_value;
        stands = kept.stands;
        reads_back = what_stands_reads_back (drop 4 whole) (position_in (drop 4 whole) one.named) v.value (v.well_formed utf8) kept.stands;
      }

  pub sized_front_holds : AllUtf8 all → FrontHolds size_first all root to identifier (record { bytes = whole; places = before.listed })
  sized_front_holds utf8 =
      let stood : SizedFinishStands to identifier before.history.written after.history.written = sized_finishes_stand to identifier before.history.written after.history.written adds.placed in
      let leads : ReferenceStands whole 4 to = stood.leads (root_behind all done before root to values found) in
      let long : 4 ≤ length whole = num_inside whole 0 w32 (length (drop 4 whole)) stood.size in (
        leads,
        stood.identified,
        record {
          size = stood.size;
          leads = (to, found, fields_stand_in_slices whole 4 0 (value.reference to) long leads, fields_read_back whole 4 0 (value.reference to) leads);
          identified = bytes_in_slice whole 4 4 (identifier_bytes identifier) stood.identified;
          values = all_weaker (ValueKept all done before.history before.listed) (ValueInSlice all before.listed (drop 4 whole)) (in_slice utf8) before.listed values;
        },
      )

module _ (settings : CacheSettings) (all done : List Step) (front : Front) (root to : ℕ) (identifier : Option (List ℕ)) (before after : RunState) (found : value_at before.listed root ≡ Some to)
    (size : ℕ) (words : ℕ → List ℕ) (as_many : (place : ℕ) → length (words place) ≡ size)
    (distance : ℕ) (adds : Adds (front_part size words before.history.written.promises) None before.history distance after.history)
    (in_front : AllUtf8 all → FrontHolds front all root to identifier (record { bytes = after.history.written.bytes; places = before.listed }))
    (listed : after.listed ≡ before.listed ++ []) (next : after.next ≡ before.next + 1)
    (finished : after.finished ≡ before.finished ++ record { bytes = after.history.written.bytes; places = before.listed } ∷ [])
    (there : slice_get all (length done) ≡ Some (finish front root identifier)) (up_to : take (length done + 1) all ≡ done ++ finish front root identifier ∷ [])
    (run : LeadsTo settings nothing_written (done ++ finish front root identifier ∷ []) after) (h : Kept settings all done before) where
  abbrev old : Written
  old = before.history.written

  abbrev new : Written
  new = after.history.written

  abbrev part : Part
  part = front_part size words old.promises

  abbrev placed : Placed part old new
  placed = adds.placed

  sized : length (part.bytes_at placed.place) ≡ part.size
  sized = as_many placed.place

  at_end : length new.bytes ≡ placed.place
  at_end = length_after part old new placed sized

  power : IsPowerOfTwo part.alignment
  power = greatest_power 4 old.promises (2, refl) h.placed.powers

  keep : Keep new.promises (length new.bytes)
  keep =
      let keep_all : Keep (promise_of (length old.bytes + placed.padding + part.size) part.alignment ∷ old.promises) (length old.bytes + placed.padding + part.size)
      = keeps_all (length old.bytes) old.promises part.size part.alignment placed.padding h.placed.powers h.placed.reached power (greatest_rises old.promises) placed.is_least in
      let keep_there : Keep (promise_of placed.place part.alignment ∷ old.promises) placed.place
      = subst (λ n. Keep (promise_of n part.alignment ∷ old.promises) n) (sym placed.is_place) keep_all in
      subst (λ n. Keep new.promises n) (sym at_end) (subst (λ ps. Keep ps placed.place) (sym placed.promises) keep_there)

  extends : Extends before.history after.history
  extends = added_extends part None before.history distance after.history adds

  in_turn : IsPlacedInTurn after.history
  in_turn = added_in_turn part None before.history distance after.history adds sized power h.placed

  few : IsFewest after.history.parts after.history.places new.bytes
  few =
      let last : distance ≡ length new.bytes = adds.at ∙ sym at_end in
      subst (λ ps. IsFewest after.history.parts ps new.bytes) (sym adds.places)
      (fewest new after.history.parts before.history.places distance last keep (subst (λ ps. InTurn new after.history.parts ps) adds.places in_turn.turns))

  value_holds : AllUtf8 all → (one : Listed) → ValueKept all done before.history before.listed one → ValueHolds all (record { bytes = new.bytes; places = before.listed }) one
  value_holds utf8 one v =
      let kept : IsKept after.history v.value one.named = kept_stays before.history after.history v.value one.named extends v.kept in
      record {
        step = v.step;
        value = v.value;
        there = v.there;
        is_value = v.is_value;
        reached = kept.reached;
        tags_reached = kept.tags_reached;
        stands = kept.stands;
        aligned = subst (λ p. AlignedAt new.bytes p v.value) (moved_nowhere (position_in new.bytes one.named)) (kept.aligned [] keep);
        reads_back = what_stands_reads_back new.bytes (position_in new.bytes one.named) v.value (v.well_formed utf8) kept.stands;
      }

  holds : AllUtf8 all → FinishHolds settings all (record { bytes = new.bytes; places = before.listed })
  holds utf8 =
      let words_hold = in_front utf8 in
      record {
        number = length done;
        front = front;
        root = root;
        identifier = identifier;
        step = there;
        state = after;
        run = subst (λ steps. LeadsTo settings nothing_written steps after) (sym up_to) run;
        bytes = refl;
        places = sym (listed ∙ append-nil before.listed);
        values = all_weaker (ValueKept all done before.history before.listed) (ValueHolds all (record { bytes = new.bytes; places = before.listed })) (value_holds utf8) before.listed h.values;
        leads = (to, found, words_hold.0);
        identified = words_hold.1;
        sized = words_hold.2;
        keeps = keep;
        fewest = few;
      }

  lists_still : ListsAll (done ++ finish front root identifier ∷ []) (before.listed ++ [])
  lists_still n c of named is_kind = elim (named_back done (finish front root identifier) c n named) as (λ _. (name : Named) × (named_at (before.listed ++ []) n ≡ Some name) × (kind_named name ≡ of)) [
    | inl earlier ↦
        let there = h.lists n c of earlier is_kind in
        (there.0, named_more before.listed [] n there.0 there.1, there.2)
    | inr last ↦ (let none : None ≡ Some of = ap kind_of last.1 ∙ is_kind in cc)
  ]

  is_finish_of : AllUtf8 all → IsFinishOf settings all (0 + length done) (record { bytes = new.bytes; places = before.listed })
  unfolding holds
  is_finish_of utf8 = record { holds = holds utf8; of_step = (let e : length done ≡ 0 + length done = omega arith in e) }

  pub finish_kept : Kept settings all (done ++ finish front root identifier ∷ []) after
  finish_kept = record {
    numbered = counted done (finish front root identifier) before.next after.next next h.numbered;
    placed = in_turn;
    cached = subst (AllByRecursion (Rattle.planus_write.specs.Kept.CachedIsKept after.history)) (sym adds.cached) (cached_stays before.history after.history extends before.history.cached h.cached);
    values = subst (λ vs. AllByRecursion (ValueKept all (done ++ finish front root identifier ∷ []) after.history vs) vs) (sym listed)
        (subst (λ vs. AllByRecursion (ValueKept all (done ++ finish front root identifier ∷ []) after.history (before.listed ++ [])) vs) (sym (append-nil before.listed))
        (all_weaker (ValueKept all done before.history before.listed) (ValueKept all (done ++ finish front root identifier ∷ []) after.history (before.listed ++ []))
        (value_moves all done (finish front root identifier) before.history after.history before.listed [] refl extends) before.listed h.values));
    lists = subst (ListsAll (done ++ finish front root identifier ∷ [])) (sym listed) lists_still;
    run = run;
    finished = λ utf8. subst (λ numbers. AreFinishesOf settings all numbers after.finished) (sym (one_more 0 done front root identifier))
        (subst (AreFinishesOf settings all (finishes_of done ++ (0 + length done) ∷ [])) (sym finished)
        (are_push settings all (finishes_of done) before.finished (0 + length done) (record { bytes = new.bytes; places = before.listed }) (h.finished utf8) (is_finish_of utf8)));
  }

clear_kept : (settings : CacheSettings) (all done : List Step) (before : RunState) → Kept settings all done before → Kept settings all (done ++ clear ∷ []) (cleared before)
clear_kept settings all done before h = record {
  numbered = counted done clear before.next (before.next + 1) refl h.numbered;
  placed = nothing_in_turn;
  cached = tt;
  values = tt;
  lists = λ n c of named is_kind. absurd (not_behind_clear done c n named);
  run = leads_on settings nothing_written before (cleared before) done clear h.run refl;
  finished = λ utf8. subst (λ numbers. AreFinishesOf settings all numbers before.finished) (sym (as_many 0 done clear refl)) (h.finished utf8);
}

pub values_are_written : (settings : CacheSettings) (all done : List Step) (step : Step) (before : RunState) → Kept settings all done before
    → (v : Value) → value_of before.listed step ≡ Some v → IsWritten (length before.history.written.bytes) v × (TextIsUtf8 step → WellFormed v)
values_are_written settings all done (text content) before h v e =
    let same : value.text content ≡ v = cc in
    subst (λ v. IsWritten (length before.history.written.bytes) v × (TextIsUtf8 (text content) → WellFormed v)) same (tt, λ utf8. utf8 content refl)
values_are_written settings all done (bytes content) before h v e =
    let same : value.byte_list content ≡ v = cc in
    subst (λ v. IsWritten (length before.history.written.bytes) v × (TextIsUtf8 (bytes content) → WellFormed v)) same (tt, λ _. tt)
values_are_written settings all done (numbers width items) before h v e =
    let good = numbers_are_written (length before.history.written.bytes) (width_of width) items v e in (good.0, λ _. good.1)
values_are_written settings all done (refs steps) before h v e =
    let made = made_of value.reference_list (all_of (value_at before.listed) steps) v e in
    subst (λ v. IsWritten (length before.history.written.bytes) v × (TextIsUtf8 (refs steps) → WellFormed v)) made.2
    (references_behind (ValueKept all done before.history before.listed) (length before.history.written.bytes) (value_reaches all done before.history before.listed) before.listed h.values steps made.0 made.1, λ _. tt)
values_are_written settings all done (unions items) before h v e =
    let made = made_of value.union_vector (all_of (union_of before.listed) items) v e in
    subst (λ v. IsWritten (length before.history.written.bytes) v × (TextIsUtf8 (unions items) → WellFormed v)) made.2
    (unions_behind (ValueKept all done before.history before.listed) (length before.history.written.bytes) (value_reaches all done before.history before.listed) before.listed h.values items made.0 made.1, λ _. tt)
values_are_written settings all done (struct alignment content) before h v e =
    let good = structs_are_written (length before.history.written.bytes) (struct_width alignment) content v e in (good.0, λ _. good.1)
values_are_written settings all done (plains alignment size content) before h v e =
    let good = plains_are_written (length before.history.written.bytes) (struct_width alignment) size content v e in (good.0, λ _. good.1)
values_are_written settings all done (table fields) before h v e =
    let made = made_of value.table (table_of before.listed fields) v e in
    subst (λ v. IsWritten (length before.history.written.bytes) v × (TextIsUtf8 (table fields) → WellFormed v)) made.2
    (tables_are_written (ValueKept all done before.history before.listed) (length before.history.written.bytes) (value_reaches all done before.history before.listed) before.listed h.values fields made.0 made.1, λ _. tt)
values_are_written settings all done (finish front root identifier) before h v e = (cc)
values_are_written settings all done clear before h v e = (cc)

written_kept : (settings : CacheSettings) (all done : List Step) (step : Step) (before after : RunState) → is_clear step ≡ false
    → ((s : RunState) (history : History) → finishes_added step s history ≡ []) → (writes : Writes settings before step after) → Advances settings before step after
    → option_map entries_of (value_of before.listed step) ≡ Some writes.entries → slice_get all (length done) ≡ Some step
    → Kept settings all done before → Kept settings all (done ++ step ∷ []) after
written_kept settings all done step before after kind gives writes advances are there h =
    let run = leads_on settings nothing_written before after done step h.run advances in
    let made = made_of entries_of (value_of before.listed step) writes.entries are in
    let good = values_are_written settings all done step before h made.0 made.1 in
    value_kept settings all done step made.0 before after kind there made.1 good.0 (λ utf8. good.1 (λ content is. utf8 (length done) content (there ∙ ap Some is))) writes.got
    (subst (λ entries. PutsAll settings entries [] before.history writes.got after.history) (sym made.2) writes.puts)
    (writes.listed ∙ ap (λ v. before.listed ++ values_added v before.next writes.got) made.1) writes.next
    (writes.finished ∙ ap (λ fs. before.finished ++ fs) (gives before after.history)) run h

pub step_kept : (settings : CacheSettings) (all done : List Step) (step : Step) (before after : RunState) → slice_get all (length done) ≡ Some step → take (length done + 1) all ≡ done ++ step ∷ []
    → Advances settings before step after → Kept settings all done before → Kept settings all (done ++ step ∷ []) after
step_kept settings all done (text content) before after there up_to writes h =
    written_kept settings all done (text content) before after refl (λ s history. refl) writes writes writes.are there h
step_kept settings all done (bytes content) before after there up_to writes h =
    written_kept settings all done (bytes content) before after refl (λ s history. refl) writes writes writes.are there h
step_kept settings all done (numbers width items) before after there up_to writes h =
    written_kept settings all done (numbers width items) before after refl (λ s history. refl) writes writes writes.are there h
step_kept settings all done (refs steps) before after there up_to writes h =
    written_kept settings all done (refs steps) before after refl (λ s history. refl) writes writes writes.are there h
step_kept settings all done (unions items) before after there up_to writes h =
    written_kept settings all done (unions items) before after refl (λ s history. refl) writes writes writes.are there h
step_kept settings all done (struct alignment content) before after there up_to writes h =
    written_kept settings all done (struct alignment content) before after refl (λ s history. refl) writes writes writes.are there h
step_kept settings all done (plains alignment size content) before after there up_to writes h =
    written_kept settings all done (plains alignment size content) before after refl (λ s history. refl) writes writes writes.are there h
step_kept settings all done (table fields) before after there up_to writes h =
    written_kept settings all done (table fields) before after refl (λ s history. refl) writes writes writes.are there h
step_kept settings all done (finish root_first root identifier) before after there up_to writes h =
    let run = leads_on settings nothing_written before after done (finish root_first root identifier) h.run writes in
    let made = made_of (finish_of root_first identifier) (value_at before.listed root) writes.entries writes.are in
    let puts : PutsAll settings (finish_of root_first identifier made.0) [] before.history writes.got after.history
    = subst (λ entries. PutsAll settings entries [] before.history writes.got after.history) (sym made.2) writes.puts in
    let adds : Adds (finish_part made.0 identifier before.history.written.promises) None before.history puts.0 after.history
    = subst (Adds (finish_part made.0 identifier before.history.written.promises) None before.history puts.0) (sym puts.3.1) puts.2 in
    finish_kept settings all done root_first root made.0 identifier before after made.1
    (length (identifier_bytes identifier) + 4) (root_words made.0 identifier) (finish_size made.0 identifier before.history.written) puts.0 adds
    (λ utf8. (
      finishes_lead made.0 identifier before.history.written after.history.written (root_behind all done before root made.0 h.values made.1) adds.placed,
      finishes_are_identified made.0 identifier before.history.written after.history.written adds.placed,
      tt,
    ))
    writes.listed writes.next writes.finished there up_to run h
step_kept settings all done (finish size_first root identifier) before after there up_to writes h =
    let run = leads_on settings nothing_written before after done (finish size_first root identifier) h.run writes in
    let made = made_of (finish_of size_first identifier) (value_at before.listed root) writes.entries writes.are in
    let puts : PutsAll settings (finish_of size_first identifier made.0) [] before.history writes.got after.history
    = subst (λ entries. PutsAll settings entries [] before.history writes.got after.history) (sym made.2) writes.puts in
    let adds : Adds (sized_finish_part made.0 identifier before.history.written.promises) None before.history puts.0 after.history
    = subst (Adds (sized_finish_part made.0 identifier before.history.written.promises) None before.history puts.0) (sym puts.3.1) puts.2 in
    finish_kept settings all done size_first root made.0 identifier before after made.1
    (length (identifier_bytes identifier) + 8) (sized_words made.0 identifier) (sized_finish_size made.0 identifier before.history.written) puts.0 adds
    (sized_front_holds all done root made.0 identifier before after made.1 puts.0 adds h.values)
    writes.listed writes.next writes.finished there up_to run h
step_kept settings all done clear before after there up_to is_clear h = subst (λ s. Kept settings all (done ++ clear ∷ []) s) (sym is_clear) (clear_kept settings all done before h)

leads_kept : (settings : CacheSettings) (all done rest : List Step) → all ≡ done ++ rest → (before after : RunState) → LeadsTo settings before rest after → Kept settings all done before
    → Kept settings all all after
leads_kept settings all done [] e before after leads h = subst (λ s. Kept settings all all s) (sym leads) (subst (λ d. Kept settings all d before) (sym (e ∙ append-nil done)) h)
leads_kept settings all done (step ∷ rest) e before after leads h =
    let there : slice_get all (length done) ≡ Some step = ap (λ xs. slice_get xs (length done)) e ∙ get_last done step rest in
    let again : all ≡ (done ++ step ∷ []) ++ rest = e ∙ sym (append_assoc done (step ∷ []) rest) in
    let count : length done + 1 ≡ length (done ++ step ∷ []) = sym (length-append done (step ∷ [])) in
    let up_to : take (length done + 1) all ≡ done ++ step ∷ [] = ap (take (length done + 1)) again ∙ ap (λ n. take n ((done ++ step ∷ []) ++ rest)) count ∙ take-append_seam (done ++ step ∷ []) rest in
    leads_kept settings all (done ++ step ∷ []) rest again leads.0 after leads.2
    (step_kept settings all done step before leads.0 there up_to leads.1 h)

pub nothing_kept : (settings : CacheSettings) (all : List Step) → Kept settings all [] nothing_written
nothing_kept settings all = record { numbered = refl; placed = nothing_in_turn; cached = tt; values = tt; lists = λ n c of named is_kind. absurd (none_named n c named); run = refl; finished = λ _. tt }

pub run_kept : (settings : CacheSettings) (steps : List Step) (end : RunState) → LeadsTo settings nothing_written steps end → Kept settings steps steps end
run_kept settings steps end leads = leads_kept settings steps [] steps refl nothing_written end leads (nothing_kept settings steps)

pub run_value : (settings : CacheSettings) (steps : List Step) (end : RunState) → LeadsTo settings nothing_written steps end → (n : ℕ) (named : Named) → named_at end.listed n ≡ Some named
    → ValueKept steps steps end.history end.listed (record { step = n; named = named })
run_value settings steps end leads n named found =
    all_named (ValueKept steps steps end.history end.listed) end.listed n named (run_kept settings steps end leads).values found
