-- Bytes with spaces between them: those so far, and those left.
use Rattle.std.proofs.Common.{◌≡◌, ℕ, ◌-◌, ◌≤◌, length, take, drop, get_or, arith, List, [], ◌∷◌, ◌++◌, refl, sym, ap, ◌∙◌, Option, Some, true}
use Rattle.std.specs.Prelude.{◌==◌}
use Rattle.std.proofs.Math.Seq.{take-length}
use Rattle.std.proofs.lemmas.Bool.{eq-eqb}
use Rattle.planus_script.specs.Script.{byte_of, onto_bytes}
use Rattle.planus_script.specs.DumpRuns.{spaced_bytes}
use Rattle.planus_script.proofs.Lists.{bytes_before, byte_read}

pub spaced_read : (rest items : List ℕ) (whole : Option (List ℕ)) (byte : ℕ) → 3 ≤ length rest → get_or rest 2 0 ≡ 32 → byte_of (get_or rest 0 0) (get_or rest 1 0) ≡ Some byte
    → bytes_before items (spaced_bytes rest) ≡ whole → bytes_before (items ++ byte ∷ []) (spaced_bytes (take (length rest - 3) (drop 3 rest))) ≡ whole
spaced_read [] items whole byte some space is so_far = absurd (omega (arith, some))
spaced_read (high ∷ []) items whole byte some space is so_far = absurd (omega (arith, some))
spaced_read (high ∷ low ∷ []) items whole byte some space is so_far = absurd (omega (arith, some))
spaced_read (high ∷ low ∷ s ∷ more) items whole byte some space is so_far =
    let count : length (high ∷ low ∷ s ∷ more) - 3 ≡ length more = omega arith in
    let same : take (length (high ∷ low ∷ s ∷ more) - 3) more ≡ more = ap (λ n. take n more) count ∙ take-length more in
    let test : (s == 32) ≡ true = eq-eqb s 32 space in
    let split : spaced_bytes (high ∷ low ∷ s ∷ more) ≡ onto_bytes (byte_of high low) (spaced_bytes more) = rw test refl in
    ap (λ ds. bytes_before (items ++ byte ∷ []) (spaced_bytes ds)) same ∙ sym (byte_read items byte (spaced_bytes more))
    ∙ ap (λ (first : Option ℕ). bytes_before items (onto_bytes first (spaced_bytes more))) (sym is) ∙ ap (bytes_before items) (sym split) ∙ so_far
