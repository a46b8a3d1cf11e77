-- Each step leads to one state at most.
use Rattle.std.proofs.Common.{◌≡◌, ℕ, zero, suc, ◌+◌, ◌<◌, ◌≤◌, List, [], ◌∷◌, ◌++◌, length, take}
use Rattle.std.proofs.Common.{replicate, refl, sym, ap, ◌∙◌, subst, arith, Option, Some, None, inl}
use Rattle.std.proofs.Common.{inr, Result, Ok, Err, length-append}
use Rattle.std.specs.Prelude.{slice_get, ◌⊎◌}
use Rattle.planus_back.specs.Padding.{promise_of}
use Rattle.planus_back.specs.Parts.{Part, Written, Placed, IsTooLarge}
use Rattle.planus_write.specs.Shared.{Contents, CacheSettings, and_cached, shared_as}
use Rattle.planus_write.specs.History.{History, Entry, Adds, PutsAfter, Puts, PutsAll}
use Rattle.planus_write.specs.History.{ComesToTooLarge as ComesToTooLargeEntry, part_after}
use Rattle.planus_write.specs.History.{found_before}
use Rattle.planus.specs.Steps.{Step, text, bytes, numbers, refs, unions, struct, plains, table, finish, clear}
use Rattle.planus.specs.Runs.{Finish, RunState, Writes, Advances, LeadsTo, StepTooLarge}
use Rattle.planus.specs.Runs.{nothing_written, value_of, values_added}
use Rattle.planus.specs.Runs.{finishes_added}
use Rattle.planus.specs.Replays.{first_bad, first_bad_after, first_bad_or, broken_check, Replays}
use Rattle.planus.specs.Replays.{AnswersAreOne}
use Rattle.planus.specs.declared.replaying.faults.ReplayError.{ReplayError}
use Rattle.planus.specs.declared.replaying.faults.ReplayError.TheVariants.{OutOfMemory, TooLarge, BadStep}
use Rattle.planus.specs.declared.replaying.faults.Why.{Why}

written_of : (a b : Written) → a.bytes ≡ b.bytes → a.promises ≡ b.promises → a ≡ b
written_of a b same_bytes promises = ap (λ xs. record { bytes = xs; promises = a.promises }) same_bytes ∙ ap (λ ps. record { bytes = b.bytes; promises = ps }) promises

history_of : (a b : History) → a.written ≡ b.written → a.cached ≡ b.cached → a.parts ≡ b.parts → a.places ≡ b.places → a ≡ b
history_of a b written cached parts places =
    ap (λ w. record { written = w; cached = a.cached; parts = a.parts; places = a.places }) written
    ∙ ap (λ s. record { written = b.written; cached = s; parts = a.parts; places = a.places }) cached
    ∙ ap (λ ps. record { written = b.written; cached = b.cached; parts = ps; places = a.places }) parts
    ∙ ap (λ ps. record { written = b.written; cached = b.cached; parts = b.parts; places = ps }) places

module _ (part : Part) (before a b : Written) (x : Placed part before a) (y : Placed part before b) where
  same_padding : x.padding ≡ y.padding
  same_padding =
      let le = x.is_least.least y.padding y.is_least.holds in
      let ge = y.is_least.least x.padding x.is_least.holds in
      omega (arith, le, ge)

  pub same_place : x.place ≡ y.place
  same_place = let p = same_padding in let e = x.is_place in let f = y.is_place in omega (arith, p, e, f)

  pub same_written : a ≡ b
  same_written =
      written_of a b
      (x.bytes ∙ ap (λ place. part.bytes_at place ++ replicate x.padding 0 ++ before.bytes) same_place
      ∙ ap (λ padding. part.bytes_at y.place ++ replicate padding 0 ++ before.bytes) same_padding ∙ sym y.bytes)
      (x.promises ∙ ap (λ place. promise_of place part.alignment ∷ before.promises) same_place ∙ sym y.promises)

abbrev Same : ℕ → History → ℕ → History → Type 0
Same d a e b = (d ≡ e) × (a ≡ b)

added_once : (part : Part) (shared : Option Contents) (before : History) (d e : ℕ) (a b : History) → Adds part shared before d a → Adds part shared before e b → Same d a e b
added_once part shared before d e a b x y =
    let same : d ≡ e = x.at ∙ same_place part before.written a.written b.written x.placed y.placed ∙ sym y.at in (
      same,
      history_of a b (same_written part before.written a.written b.written x.placed y.placed)
          (x.cached ∙ ap (λ n. and_cached shared n before.cached) same ∙ sym y.cached) (x.parts ∙ sym y.parts) (x.places ∙ ap (λ n. before.places ++ n ∷ []) same ∙ sym y.places),
    )

after_once : (earlier : Option ℕ) (part : Part) (shared : Option Contents) (before : History) (d e : ℕ) (a b : History) → PutsAfter earlier part shared before d a → PutsAfter earlier part shared before e b
    → Same d a e b
after_once (Some earlier) part shared before d e a b x y = (x.0 ∙ sym y.0, x.1 ∙ sym y.1)
after_once None part shared before d e a b x y = added_once part shared before d e a b x y

put_once : (settings : CacheSettings) (entry : Entry) (got : List ℕ) (before : History) (d e : ℕ) (a b : History) → Puts settings entry got before d a → Puts settings entry got before e b → Same d a e b
put_once settings entry got before d e a b x y =
    after_once (found_before settings entry before) (part_after entry got before) (shared_as settings entry.contents) before d e a b x y

all_once : (settings : CacheSettings) (entries : List Entry) (got : List ℕ) (before : History) (ds es : List ℕ) (a b : History) → PutsAll settings entries got before ds a → PutsAll settings entries got before es b
    → (ds ≡ es) × (a ≡ b)
all_once settings [] got before ds es a b x y = (x.0 ∙ sym y.0, x.1 ∙ sym y.1)
all_once settings (entry ∷ entries) got before ds es a b x y =
    let first = put_once settings entry got before x.0 y.0 x.1 y.1 x.2 y.2 in
    all_once settings entries (got ++ x.0 ∷ []) x.1 ds es a b x.3
    (subst (λ n. PutsAll settings entries (got ++ n ∷ []) x.1 es b) (sym first.0) (subst (λ history. PutsAll settings entries (got ++ y.0 ∷ []) history es b) (sym first.1) y.3))

not_both : (part : Part) (before after : Written) → IsTooLarge part before → Placed part before after → ⊥
not_both part before after far placed =
    let le = far.is_least.least placed.padding placed.is_least.holds in
    let fits = placed.fits in
    let place = placed.is_place in
    let great = far.too_great in
    absurd (omega (arith, le, fits, place, great))

not_put : (earlier : Option ℕ) (part : Part) (shared : Option Contents) (before : History) (d : ℕ) (after : History) → earlier ≡ None → IsTooLarge part before.written
    → PutsAfter earlier part shared before d after → ⊥
not_put None part shared before d after none far puts = not_both part before.written after.written far puts.placed
not_put (Some earlier) part shared before d after none far puts = (cc)

not_all : (settings : CacheSettings) (entries : List Entry) (got : List ℕ) (before : History) (ds : List ℕ) (after : History) → ComesToTooLargeEntry settings entries got before
    → PutsAll settings entries got before ds after → ⊥
not_all settings [] got before ds after far puts = far
not_all settings (entry ∷ entries) got before ds after far puts = elim far as (λ _. ⊥) [
  | inl here ↦ not_put (found_before settings entry before) (part_after entry got before) (shared_as settings entry.contents) before puts.0 puts.1 here.is_new here.too_large puts.2
  | inr later ↦
      let first = put_once settings entry got before later.0 puts.0 later.1 puts.1 later.2 puts.2 in
      not_all settings entries (got ++ puts.0 ∷ []) puts.1 ds after
      (subst (λ n. ComesToTooLargeEntry settings entries (got ++ n ∷ []) puts.1) first.0 (subst (λ history. ComesToTooLargeEntry settings entries (got ++ later.0 ∷ []) history) first.1 later.3)) puts.3
]

state_of : (a b : RunState) → a.history ≡ b.history → a.listed ≡ b.listed → a.next ≡ b.next → a.finished ≡ b.finished → a ≡ b
state_of a b history listed next finished =
    ap (λ p. record { history = p; listed = a.listed; next = a.next; finished = a.finished }) history
    ∙ ap (λ l. record { history = b.history; listed = l; next = a.next; finished = a.finished }) listed
    ∙ ap (λ n. record { history = b.history; listed = b.listed; next = n; finished = a.finished }) next
    ∙ ap (λ fs. record { history = b.history; listed = b.listed; next = b.next; finished = fs }) finished

module _ (settings : CacheSettings) where
  same_entries : (xs ys : List Entry) (o : Option (List Entry)) → o ≡ Some xs → o ≡ Some ys → xs ≡ ys
  same_entries xs ys o e f = (let g : Some xs ≡ Some ys = sym e ∙ f in cc)

  written_once : (before : RunState) (step : Step) (a b : RunState) → Writes settings before step a → Writes settings before step b → a ≡ b
  written_once before step a b x y =
      let entries : x.entries ≡ y.entries = same_entries x.entries y.entries _ x.are y.are in
      let same = all_once settings y.entries [] before.history x.got y.got a.history b.history (subst (λ es. PutsAll settings es [] before.history x.got a.history) entries x.puts) y.puts in
      state_of a b same.1
      (x.listed ∙ ap (λ got. before.listed ++ values_added (value_of before.listed step) before.next got) same.0 ∙ sym y.listed)
      (x.next ∙ sym y.next)
      (x.finished ∙ ap (λ history. before.finished ++ finishes_added step before history) same.1 ∙ sym y.finished)

  advanced_once : (before : RunState) (step : Step) (a b : RunState) → Advances settings before step a → Advances settings before step b → a ≡ b
  advanced_once before (text content) a b x y = written_once before (text content) a b x y
  advanced_once before (bytes content) a b x y = written_once before (bytes content) a b x y
  advanced_once before (numbers width items) a b x y = written_once before (numbers width items) a b x y
  advanced_once before (refs steps) a b x y = written_once before (refs steps) a b x y
  advanced_once before (unions items) a b x y = written_once before (unions items) a b x y
  advanced_once before (struct alignment content) a b x y = written_once before (struct alignment content) a b x y
  advanced_once before (plains alignment size content) a b x y = written_once before (plains alignment size content) a b x y
  advanced_once before (table fields) a b x y = written_once before (table fields) a b x y
  advanced_once before (finish front root identifier) a b x y = written_once before (finish front root identifier) a b x y
  advanced_once before clear a b x y = x ∙ sym y

  led_once : (before : RunState) (steps : List Step) (a b : RunState) → LeadsTo settings before steps a → LeadsTo settings before steps b → a ≡ b
  led_once before [] a b x y = x ∙ sym y
  led_once before (step ∷ steps) a b x y =
      led_once x.0 steps a b x.2 (subst (λ s. LeadsTo settings s steps b) (sym (advanced_once before step x.0 y.0 x.1 y.1)) y.2)

  stuck : (before : RunState) (step : Step) (after : RunState) → StepTooLarge settings before step → Writes settings before step after → ⊥
  stuck before step after far writes =
      not_all settings writes.entries [] before.history writes.got after.history
      (subst (λ es. ComesToTooLargeEntry settings es [] before.history) (same_entries far.entries writes.entries _ far.are writes.are) far.too_large) writes.puts

  leads_nowhere : (before : RunState) (step : Step) (after : RunState) → StepTooLarge settings before step → Advances settings before step after → ⊥
  leads_nowhere before (text content) after far h = stuck before (text content) after far h
  leads_nowhere before (bytes content) after far h = stuck before (bytes content) after far h
  leads_nowhere before (numbers width items) after far h = stuck before (numbers width items) after far h
  leads_nowhere before (refs steps) after far h = stuck before (refs steps) after far h
  leads_nowhere before (unions items) after far h = stuck before (unions items) after far h
  leads_nowhere before (struct alignment content) after far h = stuck before (struct alignment content) after far h
  leads_nowhere before (plains alignment size content) after far h = stuck before (plains alignment size content) after far h
  leads_nowhere before (table fields) after far h = stuck before (table fields) after far h
  leads_nowhere before (finish front root identifier) after far h = stuck before (finish front root identifier) after far h
  leads_nowhere before clear after far h = (let e : None ≡ Some far.entries = far.are in cc)

  passed : (start : RunState) (steps : List Step) (n m : ℕ) (step : Step) (before end : RunState) → n < m → slice_get steps n ≡ Some step → LeadsTo settings start (take n steps) before
      → StepTooLarge settings before step → LeadsTo settings start (take m steps) end → ⊥
  passed start [] n m step before end lt there leads far run = (cc)
  passed start (first ∷ steps) n zero step before end lt there leads far run = absurd (omega (arith, lt))
  passed start (first ∷ steps) zero (suc m) step before end lt there leads far run =
      let is_first : first ≡ step = cc in
      leads_nowhere start first run.0 (subst (λ s. StepTooLarge settings start s) (sym is_first) (subst (λ s. StepTooLarge settings s step) leads far)) run.1
  passed start (first ∷ steps) (suc n) (suc m) step before end lt there leads far run =
      let same = advanced_once start first leads.0 run.0 leads.1 run.1 in
      passed run.0 steps n m step before end (omega (arith, lt)) there (subst (λ s. LeadsTo settings s (take n steps) before) same leads.2) far run.2

none_some : (o : Option (ℕ × Why)) (p : ℕ × Why) → o ≡ None → o ≡ Some p → ⊥
none_some None p e f = (cc)
none_some (Some q) p e f = (cc)

take_whole : (steps : List Step) → take (length steps) steps ≡ steps
take_whole [] = refl
take_whole (step ∷ steps) = ap (λ xs. step ∷ xs) (take_whole steps)

get_inside : (steps : List Step) (n : ℕ) (step : Step) → slice_get steps n ≡ Some step → n < length steps
get_inside [] n step e = (cc)
get_inside (first ∷ steps) zero step e = omega arith
get_inside (first ∷ steps) (suc n) step e = let h = get_inside steps n step e in omega (arith, h)

first_of : (p q : ℕ × Why) → Some p ≡ Some q → p.0 ≡ q.0
first_of p q e = (let same : p ≡ q = cc in ap (λ r. r.0) same)

bad_from : (earlier steps : List Step) (m : ℕ) (why : Why) → first_bad_after earlier steps ≡ Some (m, why) → length earlier ≤ m
bad_from earlier [] m why e = (cc)
bad_from earlier (step ∷ steps) m why e = by_check (broken_check earlier step) (λ later. bad_from (earlier ++ step ∷ []) steps m why later) e
  where
    by_check : (check : Option Why) → (first_bad_after (earlier ++ step ∷ []) steps ≡ Some (m, why) → length (earlier ++ step ∷ []) ≤ m)
        → first_bad_or (length earlier) check (first_bad_after (earlier ++ step ∷ []) steps) ≡ Some (m, why) → length earlier ≤ m
    by_check (Some found) later e =
        let same : length earlier ≡ m = first_of (length earlier, found) (m, why) e in omega (arith, same)
    by_check None later e = let h = later e in omega (arith, h, length-append earlier (step ∷ []))

bad_among : (earlier steps : List Step) (k m : ℕ) (why : Why) → first_bad_after earlier steps ≡ Some (m, why) → m < length earlier + k → first_bad_after earlier (take k steps) ≡ Some (m, why)
bad_among earlier [] k m why e lt = (cc)
bad_among earlier (step ∷ steps) zero m why e lt = let ge = bad_from earlier (step ∷ steps) m why e in absurd (omega (arith, lt, ge))
bad_among earlier (step ∷ steps) (suc k) m why e lt =
    by_check (broken_check earlier step) (λ later. bad_among (earlier ++ step ∷ []) steps k m why later (omega (arith, lt, length-append earlier (step ∷ [])))) e
  where
    by_check : (check : Option Why)
        → (first_bad_after (earlier ++ step ∷ []) steps ≡ Some (m, why) → first_bad_after (earlier ++ step ∷ []) (take k steps) ≡ Some (m, why))
        → first_bad_or (length earlier) check (first_bad_after (earlier ++ step ∷ []) steps) ≡ Some (m, why)
        → first_bad_or (length earlier) check (first_bad_after (earlier ++ step ∷ []) (take k steps)) ≡ Some (m, why)
    by_check (Some found) later e = e
    by_check None later e = later e

module _ (settings : CacheSettings) (steps : List Step) where
  ran : (finished : List Finish) → Replays settings steps (Ok finished) → Replays settings steps (Err TooLarge) → ⊥
  ran finished x y =
      passed settings nothing_written steps y.0 (length steps) y.2.step y.2.before x.1.0 (get_inside steps y.0 y.2.step y.2.there) y.2.there y.2.run y.2.too_large
      (subst (λ xs. LeadsTo settings nothing_written xs x.1.0) (sym (take_whole steps)) x.1.1)

  ran_up_to : (step : ℕ) (why : Why) → Replays settings steps (Err (BadStep step why)) → Replays settings steps (Err TooLarge) → ⊥
  ran_up_to step why x y = by_order (Rattle.std.proofs.lemmas.Bool.cases_lt y.0 step)
    where
      by_order : (y.0 < step) ⊎ (step ≤ y.0) → ⊥
      by_order (inl lt) = passed settings nothing_written steps y.0 step y.2.step y.2.before x.1.0 lt y.2.there y.2.run y.2.too_large x.1.1
      by_order (inr ge) =
          let bad : first_bad (take (y.0 + 1) steps) ≡ Some (step, why) = bad_among [] steps (y.0 + 1) step why x.0 (omega (arith, ge)) in
          none_some (first_bad (take (y.0 + 1) steps)) (step, why) y.1 bad

abbrev bad_answer : ℕ × Why → Result (List Finish) ReplayError
bad_answer p = Err (BadStep p.0 p.1)

same_bad : (o : Option (ℕ × Why)) (p q : ℕ × Why) → o ≡ Some p → o ≡ Some q → bad_answer p ≡ bad_answer q
same_bad o p q e f = (let g : Some p ≡ Some q = sym e ∙ f in let same : p ≡ q = cc in ap bad_answer same)

pub answers_are_one : AnswersAreOne
answers_are_one settings steps (Err OutOfMemory) b x y = inl tt
answers_are_one settings steps (Ok fs) (Err OutOfMemory) x y = inr (inl tt)
answers_are_one settings steps (Err TooLarge) (Err OutOfMemory) x y = inr (inl tt)
answers_are_one settings steps (Err (BadStep step why)) (Err OutOfMemory) x y = inr (inl tt)
answers_are_one settings steps (Ok fs) (Ok gs) x y =
    inr (inr (ap Ok (x.1.2 ∙ ap (λ s. s.finished) (led_once settings nothing_written steps x.1.0 y.1.0 x.1.1 y.1.1) ∙ sym y.1.2)))
answers_are_one settings steps (Ok fs) (Err TooLarge) x y = absurd (ran settings steps fs x y)
answers_are_one settings steps (Err TooLarge) (Ok gs) x y = absurd (ran settings steps gs y x)
answers_are_one settings steps (Ok fs) (Err (BadStep step why)) x y =
    absurd (none_some (first_bad steps) (step, why) x.0 y.0)
answers_are_one settings steps (Err (BadStep step why)) (Ok gs) x y =
    absurd (none_some (first_bad steps) (step, why) y.0 x.0)
answers_are_one settings steps (Err TooLarge) (Err TooLarge) x y = inr (inr refl)
answers_are_one settings steps (Err (BadStep step why)) (Err TooLarge) x y = absurd (ran_up_to settings steps step why x y)
answers_are_one settings steps (Err TooLarge) (Err (BadStep step why)) x y = absurd (ran_up_to settings steps step why y x)
answers_are_one settings steps (Err (BadStep step why)) (Err (BadStep other what)) x y =
    inr (inr (same_bad (first_bad steps) (step, why) (other, what) x.0 y.0))
