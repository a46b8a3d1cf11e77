-- What is printed of bytes up to the limit.
use Rattle.std.proofs.Common.{◌≡◌, ℕ, ◌≤◌, List, length, take, Bool, true, false, refl, sym, subst, arith, Option, Some, None, inl, inr}
use Rattle.std.specs.Prelude.{nat_lt, IfSome, codes}
use Rattle.std.specs.Bool.{MatchBool}
use Rattle.std.specs.Io.KnownBytes.{Appends}
use Rattle.std.proofs.lemmas.List.{length-take-le, take_all}
use Rattle.std.proofs.lemmas.Bool.Decides.{nat_tests}
use Rattle.planus_script.specs.Script.{script_of}
use Rattle.planus_script.specs.Printed.{Printed, PrintedOrOutOfMemory, IsScript, PrintsRead, line_of}
use Rattle.planus_dump.specs.Writing.{WritesBeginning}
use Rattle.planus_script.specs.Runner.{WritesPrinted, BeginsPrinted}

printed_whole : (bytes : List ℕ) (clean : Bool) (printed : List ℕ) (long : Bool) → nat_lt 1048576 (length bytes) ≡ long → Printed (take 1048577 bytes) clean printed → Printed bytes clean printed
printed_whole bytes clean printed true e h =
    let above : 1048577 ≤ length bytes = grind (arith, nat_tests, e) in
    let count : length (take 1048577 bytes) ≡ 1048577 = length-take-le 1048577 bytes above in
    let test : nat_lt 1048576 (length (take 1048577 bytes)) ≡ true = grind (arith, nat_tests, count) in
    let said = subst (λ b. MatchBool b ((clean ≡ false) × (printed ≡ line_of (codes "script too long"))) (PrintsRead (script_of (take 1048577 bytes)) clean printed)) test h in
    subst (λ b. MatchBool b ((clean ≡ false) × (printed ≡ line_of (codes "script too long"))) (PrintsRead (script_of bytes) clean printed)) (sym e) said
printed_whole bytes clean printed false e h =
    let short : length bytes ≤ 1048577 = grind (arith, nat_tests, e) in
    subst (λ xs. Printed xs clean printed) (take_all 1048577 bytes short) h

script_whole : (bytes : List ℕ) (long : Bool) → nat_lt 1048576 (length bytes) ≡ long → IsScript (take 1048577 bytes) → IsScript bytes
script_whole bytes true e h =
    let above : 1048577 ≤ length bytes = grind (arith, nat_tests, e) in
    let count : length (take 1048577 bytes) ≡ 1048577 = length-take-le 1048577 bytes above in
    let fits : length (take 1048577 bytes) ≤ 1048576 = h.fits in
    absurd (omega arith)
script_whole bytes false e h =
    let short : length bytes ≤ 1048577 = grind (arith, nat_tests, e) in
    subst IsScript (take_all 1048577 bytes short) h

printed_or : (bytes : List ℕ) (clean : Bool) (printed : List ℕ) → PrintedOrOutOfMemory (take 1048577 bytes) clean printed → PrintedOrOutOfMemory bytes clean printed
printed_or bytes clean printed (inl h) = inl (printed_whole bytes clean printed (nat_lt 1048576 (length bytes)) refl h)
printed_or bytes clean printed (inr h) = inr (script_whole bytes (nat_lt 1048576 (length bytes)) refl h.0, h.1)

pub writes_printed : (known before after : Option (List ℕ)) (input printed : List ℕ) (clean : Bool) → IfSome known (λ bytes. input ≡ take 1048577 bytes) → PrintedOrOutOfMemory input clean printed
    → Appends before after printed → IfSome known (λ bytes. WritesPrinted bytes clean before after)
writes_printed None before after input printed clean e h a = tt
writes_printed (Some bytes) before after input printed clean e h a = (printed, printed_or bytes clean printed (subst (λ xs. PrintedOrOutOfMemory xs clean printed) e h), a)

pub begins_printed : (known before after : Option (List ℕ)) (input printed : List ℕ) (clean : Bool) → IfSome known (λ bytes. input ≡ take 1048577 bytes) → PrintedOrOutOfMemory input clean printed
    → WritesBeginning printed before after → IfSome known (λ bytes. BeginsPrinted bytes before after)
begins_printed None before after input printed clean e h a = tt
begins_printed (Some bytes) before after input printed clean e h a = (clean, printed, printed_or bytes clean printed (subst (λ xs. PrintedOrOutOfMemory xs clean printed) e h), a)
