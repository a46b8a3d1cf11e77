-- What a line asks for.
use Rattle.std.proofs.Common.{◌≡◌, ℕ, List, ◌∷◌, false, refl, sym, subst, Result, Ok, Err, inl}
use Rattle.std.specs.Str.{IsUtf8}
use Rattle.std.proofs.lemmas.Str.{is_utf8-from_IsUtf8}
use Rattle.planus.specs.Steps.{Step}
use Rattle.planus.specs.declared.replaying.steps.Step as code
use Rattle.planus_script.specs.Script.{command_of, command_of_words, is_skipped}
use Rattle.planus_script.specs.Words.{words_of}
use Rattle.planus_script.specs.Asking.{AsksForWords, AsksForLine, AsksForLines}
use Rattle.planus_script.specs.inner.Steps.{AnswersLine}
use Rattle.planus_script.specs.declared.script.ReadFault.{ReadFault}
use Rattle.planus_script.specs.declared.script.LineError.{LineError}
use Rattle.planus_script.specs.declared.script.LineError.TheVariants.{OutOfMemory, Fault}
use Rattle.planus_script.proofs.Words.{utf8}

answers_as : (result : Result code.Step LineError) (expected : Result Step ReadFault) (P Q : Type 0) → (P → Q) → AnswersLine result expected P → AnswersLine result expected Q
answers_as (Ok step) expected P Q asks h = h
answers_as (Err (Fault fault)) expected P Q asks h = h
answers_as (Err OutOfMemory) expected P Q asks h = asks h

pub answers_line : (result : Result code.Step LineError) (line : List ℕ) → IsUtf8 line → AnswersLine result (command_of_words line (words_of line)) (AsksForWords (words_of line))
    → AnswersLine result (command_of line) (AsksForLine line)
answers_line result line valid h =
    subst (λ expected. AnswersLine result expected (AsksForLine line)) (sym (utf8 line valid))
    (answers_as result (command_of_words line (words_of line)) (AsksForWords (words_of line)) (AsksForLine line) (λ asks. (is_utf8-from_IsUtf8 line valid, asks)) h)

pub asks_step : (line : List ℕ) (lines : List (List ℕ)) (command : Step) → is_skipped line ≡ false → command_of line ≡ Ok command → AsksForLines (line ∷ lines)
asks_step line lines command kept e = rw kept (inl (rw e refl))
