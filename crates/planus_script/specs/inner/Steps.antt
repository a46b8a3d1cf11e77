-- The program's steps, in the terms of the definitions.
use Rattle.std.specs.Prelude.{◌≡◌, ℕ, List, map, Vec, Option, Some, None, Result, Ok, Err}
use Rattle.std.specs.declared.alloc.Global.{Global}
use Rattle.planus_script.specs.declared.script.ReadFault.TheVariants.{BadHex}
use Rattle.planus.specs.Steps.{Step, bare_step}
use Rattle.planus_script.specs.Script.{Read}
use Rattle.planus.specs.declared.replaying.steps.Step as code
use Rattle.planus_script.specs.declared.script.ReadFault.{ReadFault}
use Rattle.planus_script.specs.declared.script.LineError.{LineError}
use Rattle.planus_script.specs.declared.script.LineError.TheVariants as line
use Rattle.planus_script.specs.declared.script.ParseError.{ParseError}
use Rattle.planus_script.specs.declared.script.ParseError.TheVariants as parse
use Rattle.planus_script.specs.declared.script.Script.{Script}

abbrev pub read_of : Script → Read
read_of script =
    record { numbers = script.numbers.items; commands = map bare_step script.steps.items }

-- the result is this command or this error
abbrev pub AnswersCommand : Result code.Step ReadFault → Result Step ReadFault → Type 0
AnswersCommand (Ok step) expected = expected ≡ Ok (bare_step step)
AnswersCommand (Err fault) expected = expected ≡ Err fault

-- the same, or out of memory where that is taken
abbrev pub AnswersLine : Result code.Step LineError → Result Step ReadFault → Type 0 → Type 0
AnswersLine (Ok step) expected asks = expected ≡ Ok (bare_step step)
AnswersLine (Err (line.Fault fault)) expected asks = expected ≡ Err fault
AnswersLine (Err line.OutOfMemory) expected asks = asks

-- these items or this error, or out of memory where that is taken
abbrev pub AnswersList :
    {A : Type 0} → Result (Vec A Global) LineError → Result (List A) ReadFault → Type 0 → Type 0
AnswersList (Ok items) expected asks = expected ≡ Ok items.items
AnswersList (Err (line.Fault fault)) expected asks = expected ≡ Err fault
AnswersList (Err line.OutOfMemory) expected asks = asks

abbrev pub bytes_or_fault : Option (List ℕ) → Result (List ℕ) ReadFault
bytes_or_fault None = Err BadHex
bytes_or_fault (Some bytes) = Ok bytes

-- this script or this line's error, or out of memory where that is taken
abbrev pub AnswersScript :
    Result Script ParseError → Result Read (ℕ × ReadFault) → Type 0 → Type 0
AnswersScript (Ok script) expected asks = expected ≡ Ok (read_of script)
AnswersScript (Err (parse.Line number fault)) expected asks = expected ≡ Err (number, fault)
AnswersScript (Err parse.OutOfMemory) expected asks = asks
