-- What is taken from a reader.
use Rattle.std.proofs.Common.{◌≡◌, ℕ, ◌+◌, ◌≤◌, ◌<◌, List, [], ◌++◌, length, take, sym, ap, ◌∙◌, arith, Option, Some, None, append-nil, length-append}
use Rattle.std.specs.Prelude.{IfSome}
use Rattle.std.specs.Io.KnownBytes.{Consumes, IsAtEnd}
use Rattle.std.proofs.KnownBytes.{Consumes-trans, Consumes-whole}
use Rattle.std.proofs.Math.Seq.{take-append_seam}
use Rattle.std.proofs.lemmas.List.{take_all}
use Rattle.planus_script.specs.Runner.{StopsReading}
use Rattle.planus_script.specs.declared.run.RunError.TheVariants.{OutOfMemory}

pub taken_full : (before after : Option (List ℕ)) (items : List ℕ) → Consumes before after items → length items ≡ 1048577 → IfSome before (λ bytes. items ≡ take 1048577 bytes)
taken_full None after items taken count = tt
taken_full (Some bytes) None items taken count = absurd taken
taken_full (Some bytes) (Some rest) items taken count = sym (ap (λ n. take n bytes) (sym count) ∙ ap (take (length items)) taken ∙ take-append_seam items rest)

pub taken_all : (before between after : Option (List ℕ)) (items more : List ℕ) → Consumes before between items → Consumes between after more → more ≡ [] → IsAtEnd after → length items ≤ 1048577
    → IfSome before (λ bytes. items ≡ take 1048577 bytes)
taken_all before between after items more first second none end fits =
    let whole : items ++ more ≡ items = ap (λ xs. items ++ xs) none ∙ append-nil items in
    Consumes-whole before after (items ++ more) (λ bytes. items ≡ take 1048577 bytes) (Consumes-trans before between after items more first second) end
    (sym (ap (take 1048577) whole ∙ take_all 1048577 items fits))

pub taken_refused : (before between after : Option (List ℕ)) (items more : List ℕ) → Consumes before between items → Consumes between after more → 0 < length more → length items + length more ≤ 1048577
    → StopsReading OutOfMemory before after
taken_refused before between after items more first second some fits =
    (items ++ more, Consumes-trans before between after items more first second, (omega (arith, length-append items more), omega (arith, length-append items more)))
