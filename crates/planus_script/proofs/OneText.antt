-- Each input has one output.
use Rattle.std.proofs.Common.{◌≡◌, ℕ, List, sym, ap, ◌∙◌, subst, Option, Some, Result, Ok, Err, Bool, true, false, inl, inr}
use Rattle.std.specs.Prelude.{slice_get, nat_lt, length, codes}
use Rattle.std.specs.Bool.{MatchBool}
use Rattle.planus_write.specs.Shared.{all_on}
use Rattle.planus.specs.Runs.{Finish}
use Rattle.planus.specs.Replays.{IsOutOfMemory}
use Rattle.planus.specs.Texts.{why_text}
use Rattle.planus.specs.declared.replaying.faults.ReplayError.{ReplayError}
use Rattle.planus.specs.declared.replaying.faults.ReplayError.TheVariants.{OutOfMemory, TooLarge, BadStep}
use Rattle.planus.proofs.OneAnswer.{answers_are_one}
use Rattle.planus_script.specs.Script.{Read, script_of}
use Rattle.planus_script.specs.Printed.{PrintsRead, PrintsAnswer, PrintedIsOne, greatest_script, line_of, fault_line}
use Rattle.planus_script.specs.declared.script.ReadFault.{ReadFault}

same_number : (o : Option ℕ) (n m : ℕ) → o ≡ Some n → o ≡ Some m → n ≡ m
same_number o n m e f = (let g : Some n ≡ Some m = sym e ∙ f in cc)

of_answer : (numbers : List ℕ) (answer : Result (List Finish) ReplayError) (a b : Bool) (x y : List ℕ) → PrintsAnswer numbers answer a x → PrintsAnswer numbers answer b y → (a ≡ b) × (x ≡ y)
of_answer numbers (Ok finished) a b x y p q = (p.0 ∙ sym q.0, p.1 ∙ sym q.1)
of_answer numbers (Err (BadStep step why)) a b x y p q =
    let same : p.1.0 ≡ q.1.0 = same_number (slice_get numbers step) p.1.0 q.1.0 p.1.1 q.1.1 in
    (p.0 ∙ sym q.0, p.1.2 ∙ ap (λ n. fault_line n (why_text why)) same ∙ sym q.1.2)
of_answer numbers (Err TooLarge) a b x y p q = (p.0 ∙ sym q.0, p.1 ∙ sym q.1)
of_answer numbers (Err OutOfMemory) a b x y p q = absurd p

not_memory : (numbers : List ℕ) (answer : Result (List Finish) ReplayError) (a : Bool) (x : List ℕ) → IsOutOfMemory answer → PrintsAnswer numbers answer a x → ⊥
not_memory numbers (Ok finished) a x wants p = wants
not_memory numbers (Err (BadStep step why)) a x wants p = wants
not_memory numbers (Err TooLarge) a x wants p = wants
not_memory numbers (Err OutOfMemory) a x wants p = p

of_read : (read : Result Read (ℕ × ReadFault)) (a b : Bool) (x y : List ℕ) → PrintsRead read a x → PrintsRead read b y → (a ≡ b) × (x ≡ y)
of_read (Err fault) a b x y p q = (p.0 ∙ sym q.0, p.1 ∙ sym q.1)
of_read (Ok read) a b x y p q = elim (answers_are_one all_on read.commands p.0 q.0 p.1 q.1) as (λ _. (a ≡ b) × (x ≡ y)) [
  | inl wants ↦ absurd (not_memory read.numbers p.0 a x wants p.2)
  | inr (inl wants) ↦ absurd (not_memory read.numbers q.0 b y wants q.2)
  | inr (inr same) ↦ of_answer read.numbers q.0 a b x y (subst (λ answer. PrintsAnswer read.numbers answer a x) same p.2) q.2
]

pub printed_is_one : PrintedIsOne
printed_is_one input a b x y p q = by_test (nat_lt greatest_script (length input)) p q
  where
    by_test : (long : Bool) → MatchBool long ((a ≡ false) × (x ≡ line_of (codes "script too long"))) (PrintsRead (script_of input) a x)
        → MatchBool long ((b ≡ false) × (y ≡ line_of (codes "script too long"))) (PrintsRead (script_of input) b y) → (a ≡ b) × (x ≡ y)
    by_test true p q = (p.0 ∙ sym q.0, p.1 ∙ sym q.1)
    by_test false p q = of_read (script_of input) a b x y p q
