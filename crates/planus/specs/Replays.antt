-- The result of a replay of steps.
use Rattle.std.specs.Prelude.{◌≡◌, ℕ, ◌+◌, ◌==◌, List, [], ◌∷◌, ◌++◌, length, take, drop}
use Rattle.std.specs.Prelude.{slice_get, map}
use Rattle.std.specs.Prelude.{Bool, true, false, if◌then◌else◌, Option, Some, None, Result, Ok, Err}
use Rattle.std.specs.Prelude.{⊤, ◌⊎◌}
use Rattle.std.specs.Prelude.{Vec}
use Rattle.std.specs.List.{list_any, list_all}
use Rattle.std.specs.Option.{option_or, option_map}
use Rattle.std.specs.Int.{Width, byte_len}
use Rattle.std.specs.declared.alloc.Global.{Global}
use Rattle.planus.specs.Steps.{Step, numbers, refs, unions, struct, plains, table, finish, clear}
use Rattle.planus.specs.Kinds.{StepKind, a_value, kind_of, naming_fault}
use Rattle.planus_write.specs.Shared.{CacheSettings}
use Rattle.planus.specs.Runs.{Finish, Listed, RunState, nothing_written, LeadsTo, Runs}
use Rattle.planus.specs.Runs.{ComesToTooLarge, width_of, fits_width}
use Rattle.planus.specs.Runs.{struct_width, fits_items}
use Rattle.planus.specs.TableChecks.{struct_fault, table_fault}
use Rattle.planus.specs.declared.replaying.faults.Why.{Why}
use Rattle.planus.specs.declared.replaying.faults.Why.TheVariants.{WidthUnknown, ValueTooBig}
use Rattle.planus.specs.declared.replaying.faults.Why.TheVariants.{ZeroTag, AlignmentUnknown, WrongSize}
use Rattle.planus.specs.declared.replaying.faults.ReplayError.{ReplayError}
use Rattle.planus.specs.declared.replaying.faults.ReplayError.TheVariants.{OutOfMemory, TooLarge, BadStep}
use Rattle.planus.specs.declared.replaying.finishes.Finished.{Finished}
use Rattle.planus_write.specs.declared.errors.BuildError.{BuildError}
use Rattle.planus_write.specs.declared.errors.BuildError.TheVariants as build
use Rattle.planus.specs.declared.replaying.finishes.StepPlace.{StepPlace}

abbrev pub is_clear : Step → Bool
is_clear clear = true
is_clear _ = false

-- the step that a number names: an earlier one, after the last clear
abbrev pub named_step : List Step → ℕ → Option Step
named_step earlier number =
    if list_any is_clear (drop number earlier) then None else slice_get earlier number

abbrev pub fault_of : StepKind → Option Step → Option Why
fault_of kind step = naming_fault kind (option_map kind_of step)

-- the first error of these
abbrev pub first_fault : {X : Type 0} → (X → Option Why) → List X → Option Why
first_fault fault [] = None
first_fault fault (x ∷ xs) = option_or (fault x) (first_fault fault xs)

-- a union's error: its tag is 0, or its value can't be named
abbrev pub union_fault : (ℕ → Option Why) → ℕ × ℕ → Option Why
union_fault fault item = if item.0 == 0 then Some ZeroTag else fault item.1

abbrev pub numbers_fault : Option Width → List ℕ → Option Why
numbers_fault None items = Some WidthUnknown
numbers_fault (Some width) items =
    if list_all (fits_width width) items then None else Some ValueTooBig

abbrev pub plains_fault : Option Width → ℕ → List ℕ → Option Why
plains_fault None size content = Some AlignmentUnknown
plains_fault (Some width) size content =
    if fits_items (byte_len width) size content then None else Some WrongSize

-- the first failed check of a step, by the errors of naming steps
abbrev pub check_by : (StepKind → ℕ → Option Why) → Step → Option Why
check_by fault (numbers width items) = numbers_fault (width_of width) items
check_by fault (refs steps) = first_fault (fault a_value) steps
check_by fault (unions items) = first_fault (union_fault (fault a_value)) items
check_by fault (struct alignment content) = struct_fault (struct_width alignment) content
check_by fault (plains alignment size content) =
    plains_fault (struct_width alignment) size content
check_by fault (table fields) = table_fault fault fields
check_by fault (finish front root identifier) = fault a_value root
check_by fault _ = None

-- the same, by the steps before it
abbrev pub broken_check : List Step → Step → Option Why
broken_check earlier step =
    check_by (λ kind number. fault_of kind (named_step earlier number)) step

-- this step if its check failed, else a later one
abbrev pub first_bad_or : ℕ → Option Why → Option (ℕ × Why) → Option (ℕ × Why)
first_bad_or n (Some why) later = Some (n, why)
first_bad_or n None later = later

-- the first step with a failed check; it depends on the steps alone
abbrev pub first_bad_after : List Step → List Step → Option (ℕ × Why)
first_bad_after earlier [] = None
first_bad_after earlier (step ∷ steps) =
    first_bad_or (length earlier) (broken_check earlier step)
    (first_bad_after (earlier ++ step ∷ []) steps)

abbrev pub first_bad : List Step → Option (ℕ × Why)
first_bad steps = first_bad_after [] steps

-- a value's step and its distances
abbrev pub place_of : StepPlace → Listed
place_of place = record {
  step = place.step;
  named = record
      { distance = place.distance; tags = place.tags };
}

-- a finish, without its location in memory
abbrev pub finish_given : Finished → Finish
finish_given finished =
    record { bytes = finished.bytes.items; places = map place_of finished.places.items }

-- The run's result: its finishes, the first bad step, or a part that is too large. Out of memory is
-- always allowed; `StepRefused` says when a step may return it.
abbrev pub Replays : CacheSettings → List Step → Result (List Finish) ReplayError → Type 0
Replays settings steps (Ok finished) = (first_bad steps ≡ None) × Runs settings steps finished
Replays settings steps (Err (BadStep step why)) =
    (first_bad steps ≡ Some (step, why))
    × ((before : RunState) × LeadsTo settings nothing_written (take step steps) before)
Replays settings steps (Err TooLarge) = (n : ℕ) × (first_bad (take (n + 1) steps) ≡ None)
    × ComesToTooLarge settings steps n
Replays settings steps (Err OutOfMemory) = ⊤

-- a builder's error, as a replay's
abbrev pub replay_error : BuildError → ReplayError
replay_error build.OutOfMemory = OutOfMemory
replay_error build.TooLarge = TooLarge

-- the result, without locations in memory
abbrev pub given_by : Result (Vec Finished Global) ReplayError → Result (List Finish) ReplayError
given_by (Ok finished) = Ok (map finish_given finished.items)
given_by (Err error) = Err error

-- out of memory, on which no clause depends
abbrev pub IsOutOfMemory : Result (List Finish) ReplayError → Type 0
IsOutOfMemory (Err OutOfMemory) = ⊤
IsOutOfMemory _ = ⊥

-- Out of memory aside, a list of steps has one result.
abbrev pub AnswersAreOne : Type 0
AnswersAreOne =
    (settings : CacheSettings) (steps : List Step) (a b : Result (List Finish) ReplayError)
    → Replays settings steps a → Replays settings steps b
    → IsOutOfMemory a ⊎ IsOutOfMemory b ⊎ (a ≡ b)

abbrev pub IsAnswered : CacheSettings → List Step → Type 0
IsAnswered settings steps = (answer : Result (List Finish) ReplayError)
    × Replays settings steps answer × (IsOutOfMemory answer → ⊥)

-- Every list of steps has a result other than out of memory.
abbrev pub AnAnswerIsThere : Type 0
AnAnswerIsThere = (settings : CacheSettings) (steps : List Step) → IsAnswered settings steps
