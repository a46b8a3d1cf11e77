-- The program's output, in the terms of the definitions.
use Rattle.std.specs.Prelude.{ℕ, ◌<◌, Bool, List, Result, Ok, Err, ⊤, Vec}
use Rattle.std.specs.declared.alloc.Global.{Global}
use Rattle.std.specs.String.{string_bytes}
use Rattle.planus.specs.Runs.{Finish}
use Rattle.planus_script.specs.Printed.{PrintsAnswer, PrintsOutOfMemory}
use Rattle.planus_script.specs.declared.output.Output.{Output}
use Rattle.planus.specs.declared.replaying.finishes.Finished.{Finished}
use Rattle.planus.specs.declared.replaying.faults.ReplayError.{ReplayError}
use Rattle.planus.specs.declared.replaying.faults.ReplayError.TheVariants.{OutOfMemory, TooLarge, BadStep}

abbrev pub is_clean : Output → Bool
is_clean output = output.clean

abbrev pub printed_text : Output → List ℕ
printed_text output = string_bytes output.text

-- a bad step is one of n steps
abbrev pub NamesStep : ℕ → Result (Vec Finished Global) ReplayError → Type 0
NamesStep count (Err (BadStep step why)) = step < count
NamesStep count (Err TooLarge) = ⊤
NamesStep count (Err OutOfMemory) = ⊤
NamesStep count (Ok finished) = ⊤

abbrev pub PrintsAnswerOr : List ℕ → Result (List Finish) ReplayError → Bool → List ℕ → Type 0
PrintsAnswerOr numbers (Ok finished) clean printed =
    PrintsAnswer numbers (Ok finished) clean printed
PrintsAnswerOr numbers (Err (BadStep step why)) clean printed =
    PrintsAnswer numbers (Err (BadStep step why)) clean printed
PrintsAnswerOr numbers (Err TooLarge) clean printed =
    PrintsAnswer numbers (Err TooLarge) clean printed
PrintsAnswerOr numbers (Err OutOfMemory) clean printed = PrintsOutOfMemory clean printed
