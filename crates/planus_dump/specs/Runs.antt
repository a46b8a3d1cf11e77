-- The dump of what steps finish.
use Rattle.std.specs.Prelude.{◌≡◌, ℕ, List, [], ◌∷◌, slice_get, Vec, String}
use Rattle.std.specs.Prelude.{Option, Some, None, Result, Ok, Err}
use Rattle.std.specs.declared.alloc.Global.{Global}
use Rattle.planus_write.specs.Shared.{CacheSettings}
use Rattle.planus.specs.Steps.{Step, root_first}
use Rattle.planus.specs.Runs.{Finish}
use Rattle.planus.specs.Replays.{Replays}
use Rattle.planus.specs.FinishHolds.{FinishHolds, finishes_of}
use Rattle.planus_dump.specs.Faults.{HaveNoFault}
use Rattle.planus_dump.specs.Describes.{Fits}
use Rattle.planus_dump.specs.Dumped.{Dumped, events_of}
use Rattle.planus_dump.specs.declared.schemas.Schema.{Schema}
use Rattle.planus_dump.specs.declared.dumps.DumpError.{DumpError}
use Rattle.planus_dump.specs.declared.runs.DumpRunError.{DumpRunError}
use Rattle.planus_dump.specs.declared.runs.DumpRunError.TheVariants.{Replay, Dump}

-- the result of the first finish's dump
pub record DumpsFirst
    (settings : CacheSettings) (steps : List Step) (schema : Schema) (budget : ℕ)
    (answer : Result (Vec (String Global) Global) DumpError) : Type 0 where
  pub given : Finish
  pub others : List Finish
  pub run : Replays settings steps (Ok (given ∷ others))
  pub dumped : Dumped schema given.bytes budget answer

-- no line of the dump states an error, if the schema fits the root's step
pub record DumpsFit
    (settings : CacheSettings) (steps : List Step) (schema : Schema) (budget : ℕ)
    (lines : Vec (String Global) Global) : Type 0 where
  pub first : DumpsFirst settings steps schema budget (Ok lines)
  pub holds : FinishHolds settings steps first.given
  pub of_first : slice_get (finishes_of steps) 0 ≡ Some holds.number
  pub no_fault :
      holds.front ≡ root_first → Fits schema steps holds.root
      → HaveNoFault (events_of schema first.given.bytes)

-- the error of the run, none without a finish, or the first finish's result
abbrev pub DumpsRun :
    CacheSettings → List Step → Schema → ℕ
    → Result (Option (Vec (String Global) Global)) DumpRunError → Type 0
DumpsRun settings steps schema budget (Err (Replay error)) = Replays settings steps (Err error)
DumpsRun settings steps schema budget (Err (Dump error)) =
    DumpsFirst settings steps schema budget (Err error)
DumpsRun settings steps schema budget (Ok None) = Replays settings steps (Ok [])
DumpsRun settings steps schema budget (Ok (Some lines)) =
    DumpsFit settings steps schema budget lines
