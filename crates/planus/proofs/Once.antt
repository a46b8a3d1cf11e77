-- Steps of equal contents have one distance.
use Rattle.std.proofs.Common.{◌≡◌, ℕ, zero, suc, ◌+◌, List, [], ◌∷◌, ◌++◌, length, refl, sym, ap, ◌∙◌, subst, arith, Option, Some, None, Bool, true, false, append_assoc, length-append}
use Rattle.std.specs.Prelude.{slice_get, ◌&&◌, ◌||◌, if◌then◌else◌}
use Rattle.std.specs.Str.{bytes_eq}
use Rattle.std.specs.List.{AllByRecursion, list_any}
use Rattle.std.specs.Option.{is_none, option_and_then}
use Rattle.std.proofs.lemmas.Slice.Eq.{bytes_eq-Decides}
use Rattle.planus_back.specs.Parts.{Part}
use Rattle.planus_read.specs.Values.{Value}
use Rattle.planus_write.specs.Shared.{ContentsKind, texts, byte_lists, vtables, same_kind, Contents, same_contents, CacheSettings, is_on, shared_as}
use Rattle.planus_write.specs.Shared.{Cached, distance_cached, earlier_distance, and_cached}
use Rattle.planus_write.specs.History.{History, Entry, PutsAfter, PutsAll, part_after, found_before}
use Rattle.planus_write.specs.Parts.{Named, last_of, text_entry, byte_list_entry}
use Rattle.planus.specs.Steps.{Step, text, bytes, numbers, refs, unions, struct, plains, table, finish, clear}
use Rattle.planus.specs.Runs.{Finish, Listed, RunState, nothing_written, Writes, Advances, LeadsTo, value_distance, value_of, values_added}
use Rattle.planus.specs.Runs.{named_at, finishes_added}
use Rattle.planus.specs.Replays.{is_clear}
use Rattle.planus.specs.Once.{contents_of, contents_at, AreOnce, EqualContentsHaveOneDistance, Gets, EqualEntriesGetOneDistance}
use Rattle.planus.proofs.Lists.{all_weaker, all_named, get_last, get_push, made_after}

both_true : (a b : Bool) → (a && b) ≡ true → (a ≡ true) × (b ≡ true)
both_true true b e = (refl, e)
both_true false b e = (cc)

kind_itself : (kind : ContentsKind) → same_kind kind kind ≡ true
kind_itself texts = refl
kind_itself byte_lists = refl
kind_itself vtables = refl

one_kind : (a b : ContentsKind) → same_kind a b ≡ true → a ≡ b
one_kind texts texts e = refl
one_kind texts byte_lists e = (cc)
one_kind texts vtables e = (cc)
one_kind byte_lists texts e = (cc)
one_kind byte_lists byte_lists e = refl
one_kind byte_lists vtables e = (cc)
one_kind vtables texts e = (cc)
one_kind vtables byte_lists e = (cc)
one_kind vtables vtables e = refl

same_itself : (contents : Contents) → same_contents contents contents ≡ true
same_itself contents =
    ap (λ b. b && bytes_eq contents.bytes contents.bytes) (kind_itself contents.kind) ∙ (bytes_eq-Decides contents.bytes contents.bytes).1 refl

one_contents : (a b : Contents) → same_contents a b ≡ true → a ≡ b
one_contents a b e =
    let both = both_true (same_kind a.kind b.kind) (bytes_eq a.bytes b.bytes) e in
    ap (λ kind. record { kind = kind; bytes = a.bytes }) (one_kind a.kind b.kind both.0)
    ∙ ap (λ content. record { kind = b.kind; bytes = content }) ((bytes_eq-Decides a.bytes b.bytes).0 both.1)

abbrev Stays : List Cached → List Cached → Type 0
Stays before after = (contents : Contents) (d : ℕ) → distance_cached before contents ≡ Some d → distance_cached after contents ≡ Some d

not_both : (o : Option ℕ) (d : ℕ) → o ≡ None → o ≡ Some d → ⊥
not_both None d e f = (cc)
not_both (Some n) d e f = (cc)

added_stays : (shared : Option Contents) (distance : ℕ) (cached : List Cached) → earlier_distance cached shared ≡ None → Stays cached (and_cached shared distance cached)
added_stays None distance cached is_new contents d h = h
added_stays (Some shared) distance cached is_new contents d h = by_test (same_contents shared contents) refl
  where
    by_test : (same : Bool) → same_contents shared contents ≡ same → (if same then Some distance else distance_cached cached contents) ≡ Some d
    by_test true is = absurd (not_both (distance_cached cached contents) d (ap (distance_cached cached) (sym (one_contents shared contents is)) ∙ is_new) h)
    by_test false is = h

after_stays : (earlier : Option ℕ) (part : Part) (shared : Option Contents) (before : History) (d : ℕ) (after : History) → earlier_distance before.cached shared ≡ earlier
    → PutsAfter earlier part shared before d after → Stays before.cached after.cached
after_stays (Some n) part shared before d after is puts = subst (λ (history : History). Stays before.cached history.cached) (sym puts.1) (λ contents d h. h)
after_stays None part shared before d after is puts = subst (Stays before.cached) (sym puts.cached) (added_stays shared d before.cached is)

all_stays : (settings : CacheSettings) (entries : List Entry) (got : List ℕ) (before : History) (ds : List ℕ) (after : History) → PutsAll settings entries got before ds after
    → Stays before.cached after.cached
all_stays settings [] got before ds after puts = subst (λ (history : History). Stays before.cached history.cached) (sym puts.1) (λ contents d h. h)
all_stays settings (entry ∷ entries) got before ds after puts = λ contents d h.
    all_stays settings entries (got ++ puts.0 ∷ []) puts.1 ds after puts.3 contents d
    (after_stays (found_before settings entry before) (part_after entry got before) (shared_as settings entry.contents) before puts.0 puts.1 refl puts.2 contents d h)

after_found : (earlier : Option ℕ) (part : Part) (shared : Option Contents) (contents : Contents) (before : History) (d : ℕ) (after : History) → shared ≡ Some contents
    → earlier_distance before.cached shared ≡ earlier → PutsAfter earlier part shared before d after → distance_cached after.cached contents ≡ Some d
after_found (Some n) part shared contents before d after same is puts =
    ap (λ (history : History). distance_cached history.cached contents) puts.1 ∙ sym (ap (earlier_distance before.cached) same) ∙ is ∙ ap (λ (n : ℕ). Some n) (sym puts.0)
after_found None part shared contents before d after same is puts =
    ap (λ cached. distance_cached cached contents) (puts.cached ∙ ap (λ o. and_cached o d before.cached) same)
    ∙ ap (λ b. if b then Some d else distance_cached before.cached contents) (same_itself contents)

single_found : (settings : CacheSettings) (entry : Entry) (contents : Contents) (before : History) (ds : List ℕ) (after : History) → entry.contents ≡ Some contents
    → is_on settings contents.kind ≡ true → PutsAll settings (entry ∷ []) [] before ds after → distance_cached after.cached contents ≡ Some (last_of ds)
single_found settings entry contents before ds after same on puts =
    let shared : shared_as settings entry.contents ≡ Some contents = ap (shared_as settings) same ∙ ap (λ b. if b then Some contents else None) on in
    ap (λ (history : History). distance_cached history.cached contents) puts.3.1
    ∙ after_found (found_before settings entry before) (part_after entry [] before) (shared_as settings entry.contents) contents before puts.0 puts.1 shared refl puts.2
    ∙ ap (λ ds. Some (last_of ds)) (sym puts.3.0)

all_append : {X : Type 0} (P : X → Type 0) (xs ys : List X) → AllByRecursion P xs → AllByRecursion P ys → AllByRecursion P (xs ++ ys)
all_append P [] ys h more = more
all_append P (x ∷ xs) ys h more = (h.0, all_append P xs ys h.1 more)

distance_of : (named : Named) (d : ℕ) → value_distance named ≡ Some d → named.distance ≡ d
distance_of named d e = by_tags named.tags e
  where
    by_tags : (tags : Option ℕ) → (if is_none tags then Some named.distance else None) ≡ Some d → named.distance ≡ d
    by_tags None e = (cc)
    by_tags (Some tags) e = (cc)

module _ (settings : CacheSettings) (all : List Step) where
  abbrev IsFound : List Cached → Listed → Type 0
  IsFound cached one =
      (contents : Contents) → contents_at all one.step ≡ Some contents → is_on settings contents.kind ≡ true → distance_cached cached contents ≡ Some one.named.distance

  are_once : (cached : List Cached) (listed : List Listed) → AllByRecursion (IsFound cached) listed → AreOnce settings all listed
  are_once cached listed h contents on i j d e at_i at_j is_i is_j =
      let a = made_after value_distance (named_at listed i) d is_i in
      let b = made_after value_distance (named_at listed j) e is_j in
      let f : distance_cached cached contents ≡ Some a.0.distance = all_named (IsFound cached) listed i a.0 h a.1 contents at_i on in
      let g : distance_cached cached contents ≡ Some b.0.distance = all_named (IsFound cached) listed j b.0 h b.1 contents at_j on in
      let both : Some a.0.distance ≡ Some b.0.distance = sym f ∙ g in
      let same : a.0.distance ≡ b.0.distance = cc in
      sym (distance_of a.0 d a.2) ∙ same ∙ distance_of b.0 e b.2

  record Once (done : List Step) (state : RunState) : Type 0 where
    numbered : state.next ≡ length done
    found : AllByRecursion (IsFound state.history.cached) state.listed
    finished : AllByRecursion (λ (given : Finish). AreOnce settings all given.places) state.finished

  module _ (done : List Step) (step : Step) (before after : RunState) (there : slice_get all (length done) ≡ Some step) (writes : Writes settings before step after) (h : Once done before) where
    contents_there : contents_at all before.next ≡ contents_of step
    contents_there = ap (λ n. contents_at all n) h.numbered ∙ ap (λ o. option_and_then contents_of o) there

    none_found : contents_of step ≡ None → (v : Option Value) → AllByRecursion (IsFound after.history.cached) (values_added v before.next writes.got)
    none_found none None = tt
    none_found none (Some v) = (λ contents at on. absurd (no_contents contents (sym none ∙ sym contents_there ∙ at)), tt)
      where
        no_contents : (contents : Contents) → None ≡ Some contents → ⊥
        no_contents contents e = (cc)

    once_with : AllByRecursion (IsFound after.history.cached) (values_added (value_of before.listed step) before.next writes.got)
        → AllByRecursion (λ (given : Finish). AreOnce settings all given.places) (finishes_added step before after.history) → Once (done ++ step ∷ []) after
    once_with new given = record {
      numbered = let next = writes.next in let counted = h.numbered in omega (arith, next, counted, length-append done (step ∷ []));
      found = subst (AllByRecursion (IsFound after.history.cached)) (sym writes.listed)
          (all_append (IsFound after.history.cached) before.listed (values_added (value_of before.listed step) before.next writes.got)
          (all_weaker (IsFound before.history.cached) (IsFound after.history.cached)
          (λ one was contents at on. all_stays settings writes.entries [] before.history writes.got after.history writes.puts contents one.named.distance (was contents at on)) before.listed h.found) new);
      finished = subst (AllByRecursion (λ (given : Finish). AreOnce settings all given.places)) (sym writes.finished)
          (all_append (λ (given : Finish). AreOnce settings all given.places) before.finished (finishes_added step before after.history) h.finished given);
    }

    one_found : (entry : Entry) (of_step : Contents) → contents_of step ≡ Some of_step → entry.contents ≡ Some of_step → entry ∷ [] ≡ writes.entries → (contents : Contents)
        → contents_at all before.next ≡ Some contents → is_on settings contents.kind ≡ true → distance_cached after.history.cached contents ≡ Some (last_of writes.got)
    one_found entry of_step is_of in_entry entries contents at on =
        let both : Some of_step ≡ Some contents = sym is_of ∙ sym contents_there ∙ at in
        let same : of_step ≡ contents = cc in
        single_found settings entry contents before.history writes.got after.history (in_entry ∙ ap (λ (c : Contents). Some c) same) on
        (subst (λ es. PutsAll settings es [] before.history writes.got after.history) (sym entries) writes.puts)

  step_once : (done : List Step) (step : Step) (before after : RunState) → slice_get all (length done) ≡ Some step → Advances settings before step after → Once done before
      → Once (done ++ step ∷ []) after
  step_once done (text content) before after there writes h =
      let entries : text_entry content ∷ [] ≡ writes.entries = (let are : Some (text_entry content ∷ []) ≡ Some writes.entries = writes.are in cc) in
      once_with done (text content) before after there writes h
      (one_found done (text content) before after there writes h (text_entry content) (record { kind = texts; bytes = content }) refl refl entries, tt) tt
  step_once done (bytes content) before after there writes h =
      let entries : byte_list_entry content ∷ [] ≡ writes.entries = (let are : Some (byte_list_entry content ∷ []) ≡ Some writes.entries = writes.are in cc) in
      once_with done (bytes content) before after there writes h
      (one_found done (bytes content) before after there writes h (byte_list_entry content) (record { kind = byte_lists; bytes = content }) refl refl entries, tt) tt
  step_once done (numbers width items) before after there writes h =
      once_with done (numbers width items) before after there writes h (none_found done (numbers width items) before after there writes h refl (value_of before.listed (numbers width items))) tt
  step_once done (refs steps) before after there writes h =
      once_with done (refs steps) before after there writes h (none_found done (refs steps) before after there writes h refl (value_of before.listed (refs steps))) tt
  step_once done (unions items) before after there writes h =
      once_with done (unions items) before after there writes h (none_found done (unions items) before after there writes h refl (value_of before.listed (unions items))) tt
  step_once done (struct alignment content) before after there writes h =
      once_with done (struct alignment content) before after there writes h (none_found done (struct alignment content) before after there writes h refl (value_of before.listed (struct alignment content))) tt
  step_once done (plains alignment size content) before after there writes h =
      once_with done (plains alignment size content) before after there writes h (none_found done (plains alignment size content) before after there writes h refl (value_of before.listed (plains alignment size content))) tt
  step_once done (table fields) before after there writes h =
      once_with done (table fields) before after there writes h (none_found done (table fields) before after there writes h refl (value_of before.listed (table fields))) tt
  step_once done (finish front root identifier) before after there writes h =
      once_with done (finish front root identifier) before after there writes h tt (are_once before.history.cached before.listed h.found, tt)
  step_once done clear before after there is_clear h =
      subst (Once (done ++ clear ∷ [])) (sym is_clear)
      (record { numbered = let counted = h.numbered in omega (arith, counted, length-append done (clear ∷ [])); found = tt; finished = h.finished })

  leads_once : (done rest : List Step) → all ≡ done ++ rest → (before after : RunState) → LeadsTo settings before rest after → Once done before
      → AllByRecursion (λ (given : Finish). AreOnce settings all given.places) after.finished
  leads_once done [] e before after leads h =
      subst (λ (s : RunState). AllByRecursion (λ (given : Finish). AreOnce settings all given.places) s.finished) (sym leads) h.finished
  leads_once done (step ∷ rest) e before after leads h =
      let there : slice_get all (length done) ≡ Some step = ap (λ xs. slice_get xs (length done)) e ∙ get_last done step rest in
      leads_once (done ++ step ∷ []) rest (e ∙ sym (append_assoc done (step ∷ []) rest)) leads.0 after leads.2 (step_once done step before leads.0 there leads.1 h)

pub equal_contents_have_one_distance : EqualContentsHaveOneDistance
equal_contents_have_one_distance settings steps finished runs =
    subst (AllByRecursion (λ (given : Finish). AreOnce settings steps given.places)) (sym runs.2)
    (leads_once settings steps [] steps refl nothing_written runs.0 runs.1 (record { numbered = refl; found = tt; finished = tt }))

got_stays : (settings : CacheSettings) (entries : List Entry) (got : List ℕ) (before : History) (ds : List ℕ) (after : History) → PutsAll settings entries got before ds after → (k d : ℕ)
    → slice_get got k ≡ Some d → slice_get ds k ≡ Some d
got_stays settings [] got before ds after puts k d h = subst (λ xs. slice_get xs k ≡ Some d) (sym puts.0) h
got_stays settings (entry ∷ entries) got before ds after puts k d h =
    got_stays settings entries (got ++ puts.0 ∷ []) puts.1 ds after puts.3 k d (get_push got puts.0 d k h)

got_found : (settings : CacheSettings) (entries : List Entry) (got : List ℕ) (before : History) (ds : List ℕ) (after : History) → PutsAll settings entries got before ds after
    → (contents : Contents) → is_on settings contents.kind ≡ true → (n : ℕ) (entry : Entry) → slice_get entries n ≡ Some entry → entry.contents ≡ Some contents → (d : ℕ)
    → slice_get ds (length got + n) ≡ Some d → distance_cached after.cached contents ≡ Some d
got_found settings [] got before ds after puts contents on n entry there same d at = (cc)
got_found settings (first ∷ entries) got before ds after puts contents on zero entry there same d at =
    let is : first ≡ entry = cc in
    let shared : shared_as settings first.contents ≡ Some contents
    = ap (shared_as settings) (ap (λ (entry : Entry). entry.contents) is ∙ same) ∙ ap (λ b. if b then Some contents else None) on in
    let here : distance_cached puts.1.cached contents ≡ Some puts.0
    = after_found (found_before settings first before) (part_after first got before) (shared_as settings first.contents) contents before puts.0 puts.1 shared refl puts.2 in
    let kept : slice_get ds (length got) ≡ Some puts.0 = got_stays settings entries (got ++ puts.0 ∷ []) puts.1 ds after puts.3 (length got) puts.0 (get_last got puts.0 []) in
    let number : length got + 0 ≡ length got = omega arith in
    all_stays settings entries (got ++ puts.0 ∷ []) puts.1 ds after puts.3 contents puts.0 here
    ∙ sym kept ∙ ap (slice_get ds) (sym number) ∙ at
got_found settings (first ∷ entries) got before ds after puts contents on (suc n) entry there same d at =
    let number : length got + suc n ≡ length (got ++ puts.0 ∷ []) + n = omega (arith, length-append got (puts.0 ∷ [])) in
    got_found settings entries (got ++ puts.0 ∷ []) puts.1 ds after puts.3 contents on n entry there same d (ap (slice_get ds) (sym number) ∙ at)

got_first : (settings : CacheSettings) (entries : List Entry) (before : History) (ds : List ℕ) (after : History) → PutsAll settings entries [] before ds after
    → (contents : Contents) → is_on settings contents.kind ≡ true → (d : ℕ) → Gets contents entries ds d → distance_cached after.cached contents ≡ Some d
got_first settings entries before ds after puts contents on d gets =
    let number : 0 + gets.0 ≡ gets.0 = omega arith in
    got_found settings entries [] before ds after puts contents on gets.0 gets.1 gets.2 gets.3 d (ap (slice_get ds) number ∙ gets.4)

both_false : (a b : Bool) → (a || b) ≡ false → (a ≡ false) × (b ≡ false)
both_false true b e = (cc)
both_false false b e = (refl, e)

module _ (settings : CacheSettings) where
  step_stays : (before : RunState) (step : Step) (after : RunState) → is_clear step ≡ false → Advances settings before step after → Stays before.history.cached after.history.cached
  step_stays before (text content) after kind w = all_stays settings w.entries [] before.history w.got after.history w.puts
  step_stays before (bytes content) after kind w = all_stays settings w.entries [] before.history w.got after.history w.puts
  step_stays before (numbers width items) after kind w = all_stays settings w.entries [] before.history w.got after.history w.puts
  step_stays before (refs steps) after kind w = all_stays settings w.entries [] before.history w.got after.history w.puts
  step_stays before (unions items) after kind w = all_stays settings w.entries [] before.history w.got after.history w.puts
  step_stays before (struct alignment content) after kind w = all_stays settings w.entries [] before.history w.got after.history w.puts
  step_stays before (plains alignment size content) after kind w = all_stays settings w.entries [] before.history w.got after.history w.puts
  step_stays before (table fields) after kind w = all_stays settings w.entries [] before.history w.got after.history w.puts
  step_stays before (finish front root identifier) after kind w = all_stays settings w.entries [] before.history w.got after.history w.puts
  step_stays before clear after kind w = (cc)

  leads_stay : (before : RunState) (steps : List Step) (after : RunState) → LeadsTo settings before steps after → list_any is_clear steps ≡ false → Stays before.history.cached after.history.cached
  leads_stay before [] after leads none = subst (λ (s : RunState). Stays before.history.cached s.history.cached) (sym leads) (λ contents d h. h)
  leads_stay before (step ∷ steps) after leads none =
      let both = both_false (is_clear step) (list_any is_clear steps) none in
      λ contents d h. leads_stay leads.0 steps after leads.2 both.1 contents d (step_stays before step leads.0 both.0 leads.1 contents d h)

pub equal_entries_get_one_distance : EqualEntriesGetOneDistance
equal_entries_get_one_distance settings before between next after step later steps first leads none second contents on d e gets again =
    let here : distance_cached between.history.cached contents ≡ Some d = got_first settings first.entries before.history first.got between.history first.puts contents on d gets in
    let still : distance_cached after.history.cached contents ≡ Some d
    = all_stays settings second.entries [] next.history second.got after.history second.puts contents d (leads_stay settings between steps next leads none contents d here) in
    let there : distance_cached after.history.cached contents ≡ Some e = got_first settings second.entries next.history second.got after.history second.puts contents on e again in
    let both : Some d ≡ Some e = sym still ∙ there in
    (cc)
