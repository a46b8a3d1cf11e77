-- A bad step of a script has a line.
use Rattle.std.proofs.Common.{◌≡◌, ℕ, ◌+◌, ◌<◌, List, [], ◌∷◌, ◌++◌, Bool, true, false, length, map, refl, sym, ap, subst, arith, Option, Some, None, Result, Ok, Err, length-append}
use Rattle.std.specs.Prelude.{if◌then◌else◌, Vec}
use Rattle.std.specs.declared.alloc.Global.{Global}
use Rattle.planus.specs.Steps.{Step}
use Rattle.planus_script.specs.Script.{Read, read_lines, then_read, onto_read, is_skipped, command_of, script_of, lines_of}
use Rattle.planus.specs.Steps.{bare_step}
use Rattle.planus_script.specs.inner.Steps.{read_of}
use Rattle.planus_write.specs.Shared.{CacheSettings}
use Rattle.planus.specs.Replays.{first_bad_after, first_bad_or, broken_check, Replays, given_by}
use Rattle.planus_script.specs.inner.Outputs.{NamesStep}
use Rattle.planus_script.specs.declared.script.ReadFault.{ReadFault}
use Rattle.planus_script.specs.declared.script.Script.{Script}
use Rattle.planus.specs.declared.replaying.steps.Step as code
use Rattle.planus.specs.declared.replaying.faults.Why.{Why}
use Rattle.planus.specs.declared.replaying.finishes.Finished.{Finished}
use Rattle.planus.specs.declared.replaying.faults.ReplayError.{ReplayError}
use Rattle.planus.specs.declared.replaying.faults.ReplayError.TheVariants.{OutOfMemory, TooLarge, BadStep}

abbrev pub AsMany : Result Read (ℕ × ReadFault) → Type 0
AsMany (Ok read) = length read.numbers ≡ length read.commands
AsMany (Err fault) = Unit {0}

onto_as_many : (number : ℕ) (command : Step) (r : Result Read (ℕ × ReadFault)) → AsMany r → AsMany (onto_read number command r)
onto_as_many number command (Ok read) h = omega (arith, h)
onto_as_many number command (Err fault) h = tt

then_as_many : (number : ℕ) (line : Result Step ReadFault) (r : Result Read (ℕ × ReadFault)) → AsMany r → AsMany (then_read number line r)
then_as_many number (Ok command) r h = onto_as_many number command r h
then_as_many number (Err fault) r h = tt

if_as_many : (b : Bool) (x y : Result Read (ℕ × ReadFault)) → AsMany x → AsMany y → AsMany (if b then x else y)
if_as_many true x y hx hy = hx
if_as_many false x y hx hy = hy

pub lines_as_many : (number : ℕ) (lines : List (List ℕ)) → AsMany (read_lines number lines)
lines_as_many number [] = refl
lines_as_many number (line ∷ lines) =
    if_as_many (is_skipped line) (read_lines (number + 1) lines) (then_read number (command_of line) (read_lines (number + 1) lines)) (lines_as_many (number + 1) lines)
    (then_as_many number (command_of line) (read_lines (number + 1) lines) (lines_as_many (number + 1) lines))

abbrev number_of_bad : Option (ℕ × Why) → ℕ
number_of_bad None = 0
number_of_bad (Some bad) = bad.0

pub bad_within : (earlier steps : List Step) (n : ℕ) (why : Why) → first_bad_after earlier steps ≡ Some (n, why) → n < length earlier + length steps
bad_within earlier [] n why h = (cc)
bad_within earlier (step ∷ steps) n why h = at_check (broken_check earlier step) h (bad_within (earlier ++ step ∷ []) steps n why)
  where
    at_check : (check : Option Why) → first_bad_or (length earlier) check (first_bad_after (earlier ++ step ∷ []) steps) ≡ Some (n, why)
        → (first_bad_after (earlier ++ step ∷ []) steps ≡ Some (n, why) → n < length (earlier ++ step ∷ []) + length steps) → n < length earlier + length (step ∷ steps)
    at_check (Some y) e later = let same : length earlier ≡ n = ap number_of_bad e in omega arith
    at_check None e later = let below : n < length (earlier ++ step ∷ []) + length steps = later e in omega (arith, length-append earlier (step ∷ []), below)

bad_named : (settings : CacheSettings) (input : List ℕ) (script : Script) (answer : Result (Vec Finished Global) ReplayError) → script_of input ≡ Ok (read_of script)
    → Replays settings (map bare_step script.steps.items) (given_by answer) → NamesStep (length script.numbers.items) answer
bad_named settings input script (Ok finished) e h = tt
bad_named settings input script (Err OutOfMemory) e h = tt
bad_named settings input script (Err TooLarge) e h = tt
bad_named settings input script (Err (BadStep step why)) e h =
    let many : length script.numbers.items ≡ length (map bare_step script.steps.items) = subst AsMany e (lines_as_many 1 (lines_of input)) in
    let below : step < 0 + length (map bare_step script.steps.items) = bad_within [] (map bare_step script.steps.items) step why h.0 in
    omega (arith, many, below)

pub names_step : (settings : CacheSettings) (input numbers : List ℕ) (steps : List code.Step) (script : Script) (answer : Result (Vec Finished Global) ReplayError) → numbers ≡ script.numbers.items → steps ≡ script.steps.items
    → script_of input ≡ Ok (read_of script) → Replays settings (map bare_step steps) (given_by answer) → NamesStep (length numbers) answer
names_step settings input numbers steps script answer n s e h =
    subst (λ xs. NamesStep (length xs) answer) (sym n) (bad_named settings input script answer e (subst (λ xs. Replays settings (map bare_step xs) (given_by answer)) s h))
