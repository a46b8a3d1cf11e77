-- The effects of a run.
use Rattle.std.specs.Prelude.{◌≡◌, ℕ, ◌+◌, ◌<◌, ◌≤◌, List, ◌++◌, length, Bool, true, false, Option}
use Rattle.std.specs.Prelude.{Result, Ok, Err, ⊤}
use Rattle.std.specs.Io.KnownBytes.{Appends, Consumes, Keeps}
use Rattle.planus_dump.specs.Writing.{WritesBeginning}
use Rattle.planus_script.specs.Printed.{greatest_script, PrintedOrOutOfMemory}
use Rattle.planus_script.specs.declared.run.RunError.{RunError}
use Rattle.planus_script.specs.declared.run.RunError.TheVariants.{OutOfMemory, Read, Write}

-- what is printed for the input was written, and nothing else
abbrev pub WritesPrinted : List ℕ → Bool → Option (List ℕ) → Option (List ℕ) → Type 0
WritesPrinted input clean before after = (printed : List ℕ)
    × PrintedOrOutOfMemory input clean printed × Appends before after printed

-- a beginning of what is printed for the input was written, and nothing else
abbrev pub BeginsPrinted : List ℕ → Option (List ℕ) → Option (List ℕ) → Type 0
BeginsPrinted input before after = (clean : Bool) × (printed : List ℕ)
    × PrintedOrOutOfMemory input clean printed × WritesBeginning printed before after

-- nothing was written, unless writing failed
abbrev pub LeavesUnwritten : RunError → Option (List ℕ) → Option (List ℕ) → Type 0
LeavesUnwritten Write before after = ⊤
LeavesUnwritten Read before after = Keeps before after
LeavesUnwritten OutOfMemory before after = Keeps before after

-- how many bytes can have been read before this error
abbrev pub FailsAt : RunError → ℕ → Type 0
FailsAt Read count = count ≤ greatest_script
FailsAt OutOfMemory count = (0 < count) × (count ≤ greatest_script + 1)
FailsAt Write count = ⊥

-- the reader is left after the bytes read before this error
abbrev pub StopsReading : RunError → Option (List ℕ) → Option (List ℕ) → Type 0
StopsReading error before after =
    (taken : List ℕ) × Consumes before after taken × FailsAt error (length taken)

-- the exit status: 0 clean, 1 after a printed error, 2 where the run failed
abbrev pub status_of : Result Bool RunError → ℕ
status_of (Ok true) = 0
status_of (Ok false) = 1
status_of (Err error) = 2
