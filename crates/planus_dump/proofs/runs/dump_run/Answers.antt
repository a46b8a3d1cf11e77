use Rattle.std.proofs.Common.{◌≡◌, ℕ, ◌∷◌, [], List, map, length, ◌≤◌, get_or, sym, ap, subst, arith, Ok, Err, Result, Some, drop}
use Rattle.std.specs.Prelude.{Vec, String, slice_get}
use Rattle.std.specs.declared.alloc.Global.{Global}
use Rattle.planus_write.specs.Shared.{CacheSettings}
use Rattle.planus_write.specs.View.{settings_of}
use Rattle.planus.specs.Steps.{Step, bare_step, Front, root_first}
use Rattle.planus.specs.Runs.{Finish}
use Rattle.planus.specs.Replays.{Replays, finish_given}
use Rattle.planus.specs.FinishHolds.{FinishHolds, AreFinishesOf, finishes_of, root_at}
use Rattle.planus.specs.declared.replaying.finishes.Finished.{Finished}
use Rattle.planus_dump.specs.Dumped.{Dumped, events_of}
use Rattle.planus_dump.specs.Faults.{HaveNoFault}
use Rattle.planus_dump.specs.Laws.{slice_of}
use Rattle.planus_dump.specs.Runs.{DumpsFirst, DumpsFit}
use Rattle.planus_dump.specs.declared.schemas.Schema.{Schema}
use Rattle.planus_dump.specs.declared.dumps.DumpError.{DumpError}
use Rattle.planus_dump.proofs.CleanDumps.{finishes_have_no_fault}
use Rattle.planus_dump.proofs.runs.dump_run.Goals as goal

with_first : {X : Type 0} (xs : List X) (x : X) → 1 ≤ length xs → x ≡ get_or xs 0 x → (rest : List X) × (xs ≡ x ∷ rest)
with_first [] x h e = absurd (omega arith)
with_first (y ∷ rest) x h e = (rest, ap (λ z. z ∷ rest) (sym e))

first_dumped : (settings : CacheSettings) (steps : List Step) (schema : Schema) (budget : ℕ) (answer : Result (Vec (String Global) Global) DumpError) (finished : List Finished) (first : Finished)
    → (rest : List Finished) × (finished ≡ first ∷ rest) → Replays settings steps (Ok (map finish_given finished)) → Dumped schema (finish_given first).bytes budget answer
    → DumpsFirst settings steps schema budget answer
first_dumped settings steps schema budget answer finished first (rest, e) run dumped = record {
  given = finish_given first;
  others = map finish_given rest;
  run = subst (λ (all : List Finished). Replays settings steps (Ok (map finish_given all))) e run;
  dumped = dumped;
}

whole_slice : (settings : CacheSettings) (steps : List Step) (given : Finish) (holds : FinishHolds settings steps given) → holds.front ≡ root_first → slice_of settings steps given holds ≡ given.bytes
whole_slice settings steps given holds e = ap (λ (front : Front). drop (root_at front) given.bytes) e

first_is : (settings : CacheSettings) (steps : List Step) (numbers : List ℕ) (given : Finish) (rest : List Finish) → AreFinishesOf settings steps numbers (given ∷ rest)
    → (holds : FinishHolds settings steps given) × (slice_get numbers 0 ≡ Some holds.number)
first_is settings steps [] given rest h = absurd h
first_is settings steps (number ∷ numbers) given rest h = (h.0.holds, ap Some (sym h.0.of_step))

fit_dumped : (settings : CacheSettings) (steps : List Step) (schema : Schema) (budget : ℕ) (lines : Vec (String Global) Global) (finished : List Finished) (first : Finished)
    → (rest : List Finished) × (finished ≡ first ∷ rest) → Replays settings steps (Ok (map finish_given finished)) → AreFinishesOf settings steps (finishes_of steps) (map finish_given finished)
    → Dumped schema (finish_given first).bytes budget (Ok lines) → DumpsFit settings steps schema budget lines
unfolding first_dumped
fit_dumped settings steps schema budget lines finished first (rest, e) run all dumped =
    let is = first_is settings steps (finishes_of steps) (finish_given first) (map finish_given rest)
    (subst (λ (all : List Finished). AreFinishesOf settings steps (finishes_of steps) (map finish_given all)) e all) in
    record {
      first = first_dumped settings steps schema budget (Ok lines) finished first (rest, e) run dumped;
      holds = is.0;
      of_first = is.1;
      no_fault = λ front fits. subst (λ bytes. HaveNoFault (events_of schema bytes)) (whole_slice settings steps (finish_given first) is.0 front)
          (finishes_have_no_fault settings steps (finish_given first) is.0 schema dumped.0 fits);
    }

pub returns-in-Ok-dump : goal.returns-in-Ok-dump
returns-in-Ok-dump c =
    let there = with_first c.as_slice.result.now c.first-item.result c.in-len1-up.len_at_least c.first-item.is in
    let items = subst (λ (all : List Finished). (rest : List Finished) × (all ≡ c.first-item.result ∷ rest)) c.as_slice.ensures.value there in
    fit_dumped (settings_of c.args.caches) (map bare_step c.args.steps.now) c.args.schema.now c.args.budget c.in-Ok-dump.lines c.in-Ok.finished.items c.first-item.result items c.in-Ok.ensures.run c.in-Ok.ensures.of_steps
    (subst (λ bytes. Dumped c.args.schema.now bytes c.args.budget (Ok c.in-Ok-dump.lines)) c.as_slice-in-len1-up.ensures.value c.in-Ok-dump.ensures)

pub returns : goal.returns
returns c =
    let there = with_first c.as_slice.result.now c.first-item.result c.in-len1-up.len_at_least c.first-item.is in
    let items = subst (λ (all : List Finished). (rest : List Finished) × (all ≡ c.first-item.result ∷ rest)) c.as_slice.ensures.value there in
    first_dumped (settings_of c.args.caches) (map bare_step c.args.steps.now) c.args.schema.now c.args.budget (Err c.in-Err-dump.error) c.in-Ok.finished.items c.first-item.result items c.in-Ok.ensures.run
    (subst (λ bytes. Dumped c.args.schema.now bytes c.args.budget (Err c.in-Err-dump.error)) c.as_slice-in-len1-up.ensures.value c.in-Err-dump.ensures)
