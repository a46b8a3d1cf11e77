-- The state of a replay, as the definitions see it.
use Rattle.std.specs.Prelude.{◌≡◌, ℕ, ◌+◌, ◌-◌, List, [], ◌∷◌, ◌++◌, map, length, drop, slice_get}
use Rattle.std.specs.Prelude.{Option, Some, None, Result, Ok, Err, ⊤, ◌⊎◌, Vec, true, false}
use Rattle.std.specs.Int.{Width}
use Rattle.std.specs.List.{list_all}
use Rattle.std.specs.declared.alloc.Global.{Global}
use Rattle.std.specs.Option.{option_map}
use Rattle.planus_write.specs.History.{History}
use Rattle.planus_write.specs.State as builder
use Rattle.planus_write.specs.State.{IsHistoryOf}
use Rattle.planus_write.specs.Placing.{Outcome}
use Rattle.planus_write.specs.declared.errors.BuildError.TheVariants as build
use Rattle.planus_write.specs.Parts.{Named}
use Rattle.planus_write.specs.Unions.{item_of}
use Rattle.planus_write.specs.declared.offset.Offset.{Offset}
use Rattle.planus_write.specs.declared.union_offset.UnionOffset.{UnionOffset}
use Rattle.planus.specs.Steps.{Step, clear}
use Rattle.planus.specs.Kinds.{StepKind, a_value, kind_of, kind_named}
use Rattle.planus.specs.Runs.{RunState, Listed, Advances, StepTooLarge, StepRefused, fits_width}
use Rattle.planus.specs.Runs.{value_at, union_of}
use Rattle.planus.specs.Runs.{all_of}
use Rattle.planus.specs.Replays.{finish_given, check_by, first_fault, union_fault, is_clear}
use Rattle.planus.specs.inner.Names.{written_named, name_of, listed_from, fault_since, IsReached}
use Rattle.planus.specs.declared.replaying.faults.Why.{Why}
use Rattle.planus.specs.declared.replaying.faults.ReplayError.{ReplayError}
use Rattle.planus.specs.declared.replaying.faults.ReplayError.TheVariants.{OutOfMemory, TooLarge, BadStep}
use Rattle.planus.specs.declared.replaying.state.ReplayState.{ReplayState}
use Rattle.planus.specs.declared.replaying.written.Written.{Written}

-- the name of what each step since the last clear wrote, if anything
abbrev pub names : ReplayState → List (Option Named)
names replay = map name_of replay.offsets.items

abbrev pub values_listed : ReplayState → List Listed
values_listed replay = listed_from replay.first (names replay)

-- the state of the run with this history
abbrev pub state_with : ReplayState → History → RunState
state_with replay history = record {
  history = history;
  listed = values_listed replay;
  next = replay.first + length replay.offsets.items;
  finished = map finish_given replay.finished.items;
}

abbrev pub name_fault : ReplayState → StepKind → ℕ → Option Why
name_fault replay kind step = fault_since replay.first (names replay) kind step

abbrev pub FindsAll : {X Y A : Type 0} → (X → Option Y) → (X → Option Why) → (A → Y) → ReplayState
    → List X → Result (Vec A Global) ReplayError → Type 0
FindsAll found fault given replay xs (Ok answers) =
    all_of found xs ≡ Some (map given answers.items)
FindsAll found fault given replay xs (Err OutOfMemory) = ⊤
FindsAll found fault given replay xs (Err TooLarge) = ⊥
FindsAll found fault given replay xs (Err (BadStep number why)) =
    (number ≡ replay.first + length replay.offsets.items) × (first_fault fault xs ≡ Some why)

abbrev pub FindsValues : ReplayState → List ℕ → Result (Vec (Offset (Unit {0})) Global) ReplayError
    → Type 0
FindsValues replay steps answer =
    FindsAll (value_at (values_listed replay)) (name_fault replay a_value) (λ o. o.distance) replay
    steps answer

abbrev pub FindsUnions : ReplayState → List (ℕ × ℕ)
    → Result (Vec (UnionOffset (Unit {0})) Global) ReplayError → Type 0
FindsUnions replay items answer =
    FindsAll (union_of (values_listed replay)) (union_fault (name_fault replay a_value)) item_of
    replay items answer

abbrev pub IsNarrowed : {A : Type 0} → (A → ℕ) → Width → ℕ → Option A → Type 0
IsNarrowed number_of width number (Some narrow) =
    (fits_width width number ≡ true) × (number_of narrow ≡ number)
IsNarrowed number_of width number None = fits_width width number ≡ false

-- the numbers, if all fit the width, or none
abbrev pub Narrowed : {A : Type 0} → (A → ℕ) → Width → List ℕ → Option (Vec A Global) → Type 0
Narrowed number_of width items (Some numbers) =
    (list_all (fits_width width) items ≡ true) × (map number_of numbers.items ≡ items)
Narrowed number_of width items None = list_all (fits_width width) items ≡ false

-- a value was written, and recorded by its name
pub record Noted {A : Type 0} (name : A → Named) (outcome : Outcome A)
    (old new : ReplayState) : Type 0 where
  pub answer : A
  pub noted : Written
  pub done : outcome old.builder (Ok answer) new.builder
  pub same : written_named noted ≡ name answer
  pub first : new.first ≡ old.first
  pub pushed : new.offsets.items ≡ old.offsets.items ++ Some noted ∷ []
  pub finished : new.finished.items ≡ old.finished.items

-- the same, or there is an error
abbrev pub WritesValue : {A : Type 0} → (A → Named) → Outcome A → ReplayState
    → Result (Unit {0}) ReplayError → ReplayState → Type 0
WritesValue {A} name outcome old (Ok done) new = Noted name outcome old new
WritesValue {A} name outcome old (Err OutOfMemory) new =
    ((after : builder.State) × outcome old.builder (Err build.OutOfMemory) after)
    ⊎ ((answer : A) × (after : builder.State) × outcome old.builder (Ok answer) after)
WritesValue {A} name outcome old (Err TooLarge) new =
    (after : builder.State) × outcome old.builder (Err build.TooLarge) after
WritesValue {A} name outcome old (Err (BadStep number why)) new = ⊥

-- why a step failed
abbrev pub Stopped : ReplayState → Step → ReplayError → Type 0
Stopped old step OutOfMemory = (history : History) → IsHistoryOf old.builder history
    → StepRefused old.builder.settings (state_with old history) step
Stopped old step TooLarge = (history : History) → IsHistoryOf old.builder history
    → StepTooLarge old.builder.settings (state_with old history) step
Stopped old step (BadStep number why) =
    (number ≡ old.first + length old.offsets.items) × (check_by (name_fault old) step ≡ Some why)

-- a finish writes no value, and a clear starts anew
abbrev pub Wrote : Step → Option Named → Type 0
Wrote step name = (is_clear step ≡ false) × (kind_of step ≡ option_map kind_named name)

abbrev pub AllWrote : List Step → List (Option Named) → Type 0
AllWrote [] [] = ⊤
AllWrote (step ∷ steps) (name ∷ rest) = Wrote step name × AllWrote steps rest
AllWrote [] (name ∷ rest) = ⊥
AllWrote (step ∷ steps) [] = ⊥

-- what each step since the last clear wrote
pub record HasTaken (replay : ReplayState) (steps : List Step) : Type 0 where
  pub counted : replay.first + length replay.offsets.items ≡ length steps
  pub behind_clear : (replay.first ≡ 0) ⊎ (slice_get steps (replay.first - 1) ≡ Some clear)
  pub wrote : AllWrote (drop replay.first steps) (names replay)

-- one step was taken, for any history
pub record Takes (old : ReplayState) (step : Step) (new : ReplayState) : Type 0 where
  pub taken : (steps : List Step) → HasTaken old steps → HasTaken new (steps ++ step ∷ [])
  pub advances : (history : History) → IsHistoryOf old.builder history
      → (after : History) × IsHistoryOf new.builder after
      × Advances old.builder.settings (state_with old history) step (state_with new after)
  pub settings : new.builder.settings ≡ old.builder.settings

-- one step was taken, or failed
abbrev pub Advanced : ReplayState → Step → Result (Unit {0}) ReplayError → ReplayState → Type 0
Advanced old step (Ok done) new = Takes old step new
Advanced old step (Err error) new = Stopped old step error

-- every value since the last clear is in the builder
abbrev pub AreReached : ReplayState → Type 0
AreReached replay = (step : ℕ) (named : Named) → slice_get (names replay) step ≡ Some (Some named)
    → IsReached (length replay.builder.bytes) named
