-- A dump of the bytes up to the limit.
use Rattle.std.proofs.Common.{◌≡◌, ℕ, ◌≤◌, List, length, take, Bool, true, false, refl, sym, subst, arith, Option, Some, None}
use Rattle.std.specs.Prelude.{nat_lt, IfSome, codes}
use Rattle.std.specs.Bool.{MatchBool}
use Rattle.std.specs.Io.KnownBytes.{Appends}
use Rattle.std.proofs.lemmas.List.{length-take-le, take_all}
use Rattle.std.proofs.lemmas.Bool.Decides.{nat_tests}
use Rattle.planus_dump.specs.declared.schemas.Schema.{Schema}
use Rattle.planus_dump.specs.Writing.{WritesBeginning}
use Rattle.planus_script.specs.DumpRuns.{PrintsDump, PrintsBytes, IsFault, WritesDump, BeginsDump, input_bytes}

dumped_whole : (schema : Schema) (bytes : List ℕ) (clean : Bool) (printed : List ℕ) (long : Bool) → nat_lt 1048576 (length bytes) ≡ long → PrintsDump schema (take 1048577 bytes) clean printed → PrintsDump schema bytes clean printed
dumped_whole schema bytes clean printed true e h =
    let above : 1048577 ≤ length bytes = grind (arith, nat_tests, e) in
    let count : length (take 1048577 bytes) ≡ 1048577 = length-take-le 1048577 bytes above in
    let test : nat_lt 1048576 (length (take 1048577 bytes)) ≡ true = grind (arith, nat_tests, count) in
    let said = subst (λ b. MatchBool b (IsFault (codes "script too long") clean printed) (PrintsBytes schema (input_bytes (take 1048577 bytes)) clean printed)) test h in
    subst (λ b. MatchBool b (IsFault (codes "script too long") clean printed) (PrintsBytes schema (input_bytes bytes) clean printed)) (sym e) said
dumped_whole schema bytes clean printed false e h =
    let short : length bytes ≤ 1048577 = grind (arith, nat_tests, e) in
    subst (λ xs. PrintsDump schema xs clean printed) (take_all 1048577 bytes short) h

pub writes_dump : (schema : Schema) (known before after : Option (List ℕ)) (input printed : List ℕ) (clean : Bool) → IfSome known (λ bytes. input ≡ take 1048577 bytes) → PrintsDump schema input clean printed
    → Appends before after printed → IfSome known (λ bytes. WritesDump schema bytes clean before after)
writes_dump schema None before after input printed clean e h a = tt
writes_dump schema (Some bytes) before after input printed clean e h a = (printed, dumped_whole schema bytes clean printed (nat_lt 1048576 (length bytes)) refl (subst (λ xs. PrintsDump schema xs clean printed) e h), a)

pub begins_dump : (schema : Schema) (known before after : Option (List ℕ)) (input printed : List ℕ) (clean : Bool) → IfSome known (λ bytes. input ≡ take 1048577 bytes) → PrintsDump schema input clean printed
    → WritesBeginning printed before after → IfSome known (λ bytes. BeginsDump schema bytes before after)
begins_dump schema None before after input printed clean e h a = tt
begins_dump schema (Some bytes) before after input printed clean e h a = (clean, printed, dumped_whole schema bytes clean printed (nat_lt 1048576 (length bytes)) refl (subst (λ xs. PrintsDump schema xs clean printed) e h), a)
