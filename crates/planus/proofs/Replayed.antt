-- A replay's steps, as the definitions see them.
use Rattle.std.proofs.Common.{◌≡◌, ℕ, suc, ◌+◌, ◌≤◌, ◌<◌, List, [], ◌∷◌, ◌++◌, length, take, drop}
use Rattle.std.proofs.Common.{map, get_or, refl, sym, ap, ◌∙◌, subst, None, Ok, Err, drop-cons}
use Rattle.std.specs.List.{AllByRecursion}
use Rattle.std.proofs.lemmas.List.{take-append-drop, map-append, map_push, take_more, take_all}
use Rattle.std.proofs.lemmas.List.{length-map, length-take-le}
use Rattle.planus_write.specs.Shared.{CacheSettings}
use Rattle.planus_write.specs.History.{History}
use Rattle.planus_write.specs.State.{IsHistoryOf}
use Rattle.planus.specs.Steps.{Step, bare_step}
use Rattle.planus.specs.Runs.{nothing_written, LeadsTo, Advances, StepTooLarge}
use Rattle.planus.specs.Replays.{first_bad, Replays, finish_given}
use Rattle.planus.specs.FinishHolds.{FinishHolds, AreFinishesOf, finishes_of}
use Rattle.planus.specs.inner.Replaying.{state_with, names, HasTaken, Takes, Stopped}
use Rattle.planus.specs.inner.Replaying.{AreReached}
use Rattle.planus.specs.inner.Names.{IsReached}
use Rattle.planus.specs.declared.replaying.steps.Step as code
use Rattle.planus.specs.declared.replaying.state.ReplayState.{ReplayState}
use Rattle.planus.specs.declared.replaying.faults.ReplayError.{ReplayError}
use Rattle.planus.specs.declared.replaying.faults.ReplayError.TheVariants.{OutOfMemory, TooLarge, BadStep}
use Rattle.planus.proofs.FinishNumbers.{each_holds}
use Rattle.planus.proofs.Kept.{leads_on, run_kept, run_value}
use Rattle.planus.proofs.Lists.{found_at}
use Rattle.planus.proofs.Naming.{checked}
use Rattle.planus.proofs.Walking.{all_utf8, still_clean, too_large, bad_step}

abbrev pub first_steps : List code.Step → ℕ → List Step
first_steps steps i = map bare_step (take i steps)

pub record Reaches (settings : CacheSettings) (steps : List code.Step) (i : ℕ) (progress : ReplayState) : Type 0 where
  pub run : (history : History) × IsHistoryOf progress.builder history × LeadsTo settings nothing_written (first_steps steps i) (state_with progress history)
  pub switched : progress.builder.settings ≡ settings
  pub clean : first_bad (first_steps steps i) ≡ None
  pub taken : HasTaken progress (first_steps steps i)

pub are_reached : (settings : CacheSettings) (steps : List code.Step) (i : ℕ) (progress : ReplayState) → Reaches settings steps i progress → AreReached progress
are_reached settings steps i progress h step named e =
    let v = run_value settings (first_steps steps i) (state_with progress h.run.0) h.run.2 (progress.first + step) named
    (found_at progress.first (names progress) step named e) in
    subst (λ bytes. IsReached (length bytes) named) h.run.1.bytes (record { distance = v.kept.reached; tags = v.kept.tags_reached })

pub number_is : (settings : CacheSettings) (steps : List code.Step) (i : ℕ) (progress : ReplayState) → i ≤ length steps → Reaches settings steps i progress → progress.first + length progress.offsets.items ≡ i
number_is settings steps i progress within h =
    h.taken.counted ∙ length-map (take i steps) bare_step ∙ length-take-le i steps within

module _ (settings : CacheSettings) (steps : List code.Step) (i : ℕ) (item : code.Step) (inside : i < length steps) (there : item ≡ get_or steps i item) (progress : ReplayState) (h : Reaches settings steps i progress) where
  whole : map bare_step steps ≡ first_steps steps i ++ bare_step item ∷ map bare_step (drop (suc i) steps)
  whole = ap (map bare_step) (sym (take-append-drop i steps) ∙ ap (λ xs. take i steps ++ xs) (drop-cons steps i item inside ∙ ap (λ x. x ∷ drop (suc i) steps) (sym there)))
      ∙ map-append bare_step (take i steps) (item ∷ drop (suc i) steps)

  next : first_steps steps (i + 1) ≡ first_steps steps i ++ bare_step item ∷ []
  next = ap (map bare_step) (take_more steps i item inside ∙ ap (λ x. take i steps ++ x ∷ []) (sym there)) ∙ map_push bare_step (take i steps) item

  pub reaches_next : (after : ReplayState) → Takes progress (bare_step item) after → Reaches settings steps (i + 1) after
  reaches_next after advanced =
      let a = advanced.advances h.run.0 h.run.1 in
      let on : Advances settings (state_with progress h.run.0) (bare_step item) (state_with after a.0)
      = subst (λ s. Advances s (state_with progress h.run.0) (bare_step item) (state_with after a.0)) h.switched a.2 in
      record {
        run = (
          a.0,
          a.1,
          subst (λ cs. LeadsTo settings nothing_written cs (state_with after a.0)) (sym next)
              (leads_on settings nothing_written (state_with progress h.run.0) (state_with after a.0) (first_steps steps i) (bare_step item) h.run.2 on),
        );
        switched = advanced.settings ∙ h.switched;
        clean = ap first_bad next
            ∙ still_clean settings (map bare_step steps) (first_steps steps i) (bare_step item) (map bare_step (drop (suc i) steps)) whole (state_with progress h.run.0) h.run.2 h.clean (state_with after a.0) on;
        taken = subst (λ cs. HasTaken after cs) (sym next) (advanced.taken (first_steps steps i) h.taken);
      }

  stopped_at : (c : Step) → bare_step item ≡ c → (error : ReplayError) → Stopped progress c error → Replays settings (map bare_step steps) (Err error)
  stopped_at c is OutOfMemory stopped = tt
  stopped_at c is TooLarge stopped =
      too_large settings (map bare_step steps) (first_steps steps i) c (map bare_step (drop (suc i) steps)) (subst (λ x. map bare_step steps ≡ first_steps steps i ++ x ∷ map bare_step (drop (suc i) steps)) is whole)
      (state_with progress h.run.0) h.run.2 h.clean (subst (λ s. StepTooLarge s (state_with progress h.run.0) c) h.switched (stopped h.run.0 h.run.1))
  stopped_at c is (BadStep number why) stopped =
      bad_step settings (map bare_step steps) (first_steps steps i) c (map bare_step (drop (suc i) steps)) (subst (λ x. map bare_step steps ≡ first_steps steps i ++ x ∷ map bare_step (drop (suc i) steps)) is whole)
      (state_with progress h.run.0) h.run.2 h.clean number why (stopped.0 ∙ h.taken.counted) (sym (checked progress (first_steps steps i) h.taken c) ∙ stopped.1)

  pub stops : (error : ReplayError) → Stopped progress (bare_step item) error → Replays settings (map bare_step steps) (Err error)
  stops error stopped = stopped_at (bare_step item) refl error stopped

pub ran : (settings : CacheSettings) (steps : List code.Step) (i : ℕ) (progress : ReplayState) → length steps ≤ i → Reaches settings steps i progress → Replays settings (map bare_step steps) (Ok (map finish_given progress.finished.items))
ran settings steps i progress history h =
    let all : first_steps steps i ≡ map bare_step steps = ap (map bare_step) (take_all i steps history) in
    subst (λ cs. Replays settings cs (Ok (map finish_given progress.finished.items))) all (h.clean, (state_with progress h.run.0, h.run.2, refl))

pub all_finished : (settings : CacheSettings) (steps : List code.Step) (i : ℕ) (progress : ReplayState) → length steps ≤ i → Reaches settings steps i progress
    → AreFinishesOf settings (map bare_step steps) (finishes_of (map bare_step steps)) (map finish_given progress.finished.items)
all_finished settings steps i progress history h =
    let all : first_steps steps i ≡ map bare_step steps = ap (map bare_step) (take_all i steps history) in
    subst (λ cs. AreFinishesOf settings cs (finishes_of cs) (map finish_given progress.finished.items)) all
    ((run_kept settings (first_steps steps i) (state_with progress h.run.0) h.run.2).finished (all_utf8 (take i steps)))

pub all_hold : (settings : CacheSettings) (steps : List code.Step) (i : ℕ) (progress : ReplayState) → length steps ≤ i → Reaches settings steps i progress → AllByRecursion (FinishHolds settings (map bare_step steps)) (map finish_given progress.finished.items)
all_hold settings steps i progress history h =
    each_holds settings (map bare_step steps) (finishes_of (map bare_step steps)) (map finish_given progress.finished.items) (all_finished settings steps i progress history h)
