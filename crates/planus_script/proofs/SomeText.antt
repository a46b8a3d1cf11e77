-- Each input has an output.
use Rattle.std.proofs.Common.{◌≡◌, ℕ, zero, suc, ◌+◌, ◌<◌, List, [], ◌∷◌, length, refl, arith, Some, Result, Ok, Err, Bool, true, false}
use Rattle.std.specs.Prelude.{slice_get, nat_lt, codes}
use Rattle.std.specs.Bool.{MatchBool}
use Rattle.std.specs.List.{flat_map}
use Rattle.planus_write.specs.Shared.{all_on}
use Rattle.planus.specs.Runs.{Finish}
use Rattle.planus.specs.Replays.{Replays, IsOutOfMemory}
use Rattle.planus.specs.Texts.{why_text}
use Rattle.planus.specs.declared.replaying.faults.ReplayError.{ReplayError}
use Rattle.planus.specs.declared.replaying.faults.ReplayError.TheVariants.{OutOfMemory, TooLarge, BadStep}
use Rattle.planus.proofs.Answering.{an_answer_is_there}
use Rattle.planus_script.specs.Script.{Read, script_of, lines_of}
use Rattle.planus_script.specs.Printed.{PrintsRead, PrintsAnswer, ATextIsPrinted, greatest_script, line_of, fault_line, hex_line}
use Rattle.planus_script.specs.Texts.{read_fault_text}
use Rattle.planus_script.specs.declared.script.ReadFault.{ReadFault}
use Rattle.planus_script.proofs.Named.{AsMany, lines_as_many, bad_within}

number_there : (numbers : List ℕ) (n : ℕ) → n < length numbers → (number : ℕ) × (slice_get numbers n ≡ Some number)
number_there [] n h = absurd (omega (arith, h))
number_there (number ∷ numbers) zero h = (number, refl)
number_there (number ∷ numbers) (suc n) h = number_there numbers n (omega (arith, h))

of_answer : (read : Read) → AsMany (Ok read) → (answer : Result (List Finish) ReplayError) → Replays all_on read.commands answer → (IsOutOfMemory answer → ⊥)
    → (clean : Bool) × (printed : List ℕ) × PrintsAnswer read.numbers answer clean printed
of_answer read many (Ok finished) replays there = (true, flat_map (λ finish. hex_line finish.bytes) finished, (refl, refl))
of_answer read many (Err (BadStep step why)) replays there =
    let inside : step < 0 + length read.commands = bad_within [] read.commands step why replays.0 in
    let line = number_there read.numbers step (omega (arith, many, inside)) in
    (false, fault_line line.0 (why_text why), (refl, (line.0, line.1, refl)))
of_answer read many (Err TooLarge) replays there = (false, line_of (codes "too large"), (refl, refl))
of_answer read many (Err OutOfMemory) replays there = absurd (there tt)

of_read : (read : Result Read (ℕ × ReadFault)) → AsMany read → (clean : Bool) × (printed : List ℕ) × PrintsRead read clean printed
of_read (Err fault) many = (false, fault_line fault.0 (read_fault_text fault.1), (refl, refl))
of_read (Ok read) many =
    let answer = an_answer_is_there all_on read.commands in
    let text = of_answer read many answer.0 answer.1 answer.2 in
    (text.0, text.1, (answer.0, answer.1, text.2))

pub a_text_is_printed : ATextIsPrinted
a_text_is_printed input = by_test (nat_lt greatest_script (length input))
  where
    by_test : (long : Bool) → (clean : Bool) × (printed : List ℕ) × MatchBool long ((clean ≡ false) × (printed ≡ line_of (codes "script too long"))) (PrintsRead (script_of input) clean printed)
    by_test true = (false, line_of (codes "script too long"), (refl, refl))
    by_test false = of_read (script_of input) (lines_as_many 1 (lines_of input))
