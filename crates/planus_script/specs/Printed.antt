-- What the program prints for a script.
use Rattle.std.specs.Prelude.{◌≡◌, ℕ, ◌≤◌, Bool, true, false, nat_lt, List, [], ◌∷◌, ◌++◌}
use Rattle.std.specs.Prelude.{map, length, slice_get, Some, Result, Ok, Err, codes, ◌⊎◌}
use Rattle.std.specs.Bool.{MatchBool}
use Rattle.std.specs.List.{flat_map, join_with_byte}
use Rattle.std.specs.Fmt.{decimal}
use Rattle.planus_dump.specs.Lines.{hex_of}
use Rattle.planus_script.specs.Script.{Read, script_of}
use Rattle.planus_write.specs.Shared.{all_on}
use Rattle.planus.specs.Runs.{Finish}
use Rattle.planus.specs.Replays.{Replays}
use Rattle.planus.specs.Texts.{why_text}
use Rattle.planus_script.specs.Texts.{read_fault_text}
use Rattle.planus_script.specs.declared.script.ReadFault.{ReadFault}
use Rattle.planus.specs.declared.replaying.faults.ReplayError.{ReplayError}
use Rattle.planus.specs.declared.replaying.faults.ReplayError.TheVariants.{OutOfMemory, TooLarge, BadStep}

-- in bytes
abbrev pub greatest_script : ℕ
greatest_script = 1048576

-- with one space between the bytes
abbrev pub hex_line : List ℕ → List ℕ
hex_line bytes = join_with_byte 32 (map hex_of bytes) ++ 10 ∷ []

-- a string and a line feed
abbrev pub line_of : List ℕ → List ℕ
line_of words = words ++ 10 ∷ []

-- an error on the line of this number
abbrev pub fault_line : ℕ → List ℕ → List ℕ
fault_line number fault = codes "line " ++ (decimal number ++ (codes ": " ++ line_of fault))

-- for a replay's result, by the numbers of the steps' lines
abbrev pub PrintsAnswer : List ℕ → Result (List Finish) ReplayError → Bool → List ℕ → Type 0
PrintsAnswer numbers (Ok finished) clean printed = (clean ≡ true)
    × (printed ≡ flat_map (λ finish. hex_line finish.bytes) finished)
PrintsAnswer numbers (Err (BadStep step why)) clean printed = (clean ≡ false)
    × ((number : ℕ) × (slice_get numbers step ≡ Some number)
    × (printed ≡ fault_line number (why_text why)))
PrintsAnswer numbers (Err TooLarge) clean printed = (clean ≡ false)
    × (printed ≡ line_of (codes "too large"))
PrintsAnswer numbers (Err OutOfMemory) clean printed = ⊥

-- for a script that was read; equal contents of every kind are written once
abbrev pub PrintsRead : Result Read (ℕ × ReadFault) → Bool → List ℕ → Type 0
PrintsRead (Err fault) clean printed = (clean ≡ false)
    × (printed ≡ fault_line fault.0 (read_fault_text fault.1))
PrintsRead (Ok read) clean printed = (answer : Result (List Finish) ReplayError)
    × Replays all_on read.commands answer × PrintsAnswer read.numbers answer clean printed

-- what is printed for this input, and whether the script is clean
abbrev pub Printed : List ℕ → Bool → List ℕ → Type 0
Printed input clean printed =
    MatchBool (nat_lt greatest_script (length input)) ((clean ≡ false)
    × (printed ≡ line_of (codes "script too long")))
    (PrintsRead (script_of input) clean printed)

-- It isn't too long, and each of its lines can be read.
pub record IsScript (input : List ℕ) : Type 0 where
  pub fits : length input ≤ greatest_script
  pub read : (read : Read) × (script_of input ≡ Ok read)

abbrev pub PrintsOutOfMemory : Bool → List ℕ → Type 0
PrintsOutOfMemory clean printed = (clean ≡ false) × (printed ≡ line_of (codes "out of memory"))

-- this is printed, or the replay ran out of memory
abbrev pub PrintedOrOutOfMemory : List ℕ → Bool → List ℕ → Type 0
PrintedOrOutOfMemory input clean printed = Printed input clean printed
    ⊎ (IsScript input × PrintsOutOfMemory clean printed)

-- Each input determines what is printed, and whether the script is clean.
abbrev pub PrintedIsOne : Type 0
PrintedIsOne =
    (input : List ℕ) (a b : Bool) (x y : List ℕ) → Printed input a x → Printed input b y → (a ≡ b)
    × (x ≡ y)

-- For every input something is printed.
abbrev pub ATextIsPrinted : Type 0
ATextIsPrinted = (input : List ℕ) → (clean : Bool) × (printed : List ℕ)
    × Printed input clean printed
