-- Items and bytes that were read, before those that are left.
use Rattle.std.proofs.Common.{◌≡◌, ℕ, ◌-◌, ◌≤◌, length, take, drop, get_or, arith, List, [], ◌∷◌, ◌++◌, refl, sym, ap, ◌∙◌, append_assoc, Result, Ok, Err, Option, Some, None}
use Rattle.std.specs.Option.{option_map}
use Rattle.std.proofs.Math.Seq.{take-length}
use Rattle.planus_script.specs.Script.{byte_of, onto_bytes, hex_bytes}
use Rattle.planus_script.specs.declared.script.ReadFault.{ReadFault}

abbrev pub items_before : {A : Type 0} → List A → Result (List A) ReadFault → Result (List A) ReadFault
items_before items (Ok more) = Ok (items ++ more)
items_before items (Err fault) = Err fault

abbrev pub bytes_before : List ℕ → Option (List ℕ) → Option (List ℕ)
bytes_before items more = option_map (λ bytes. items ++ bytes) more

pub byte_read : (items : List ℕ) (byte : ℕ) (more : Option (List ℕ)) → bytes_before items (onto_bytes (Some byte) more) ≡ bytes_before (items ++ byte ∷ []) more
byte_read items byte None = refl
byte_read items byte (Some more) = ap (λ (all : List ℕ). Some all) (sym (append_assoc items (byte ∷ []) more))

pub pair_read : (rest items all_digits : List ℕ) (byte : ℕ) → 2 ≤ length rest → byte_of (get_or rest 0 0) (get_or rest 1 0) ≡ Some byte
    → bytes_before items (hex_bytes rest) ≡ hex_bytes all_digits → bytes_before (items ++ byte ∷ []) (hex_bytes (take (length rest - 2) (drop 2 rest))) ≡ hex_bytes all_digits
pair_read [] items all_digits byte some is so_far = absurd (omega (arith, some))
pair_read (high ∷ []) items all_digits byte some is so_far = absurd (omega (arith, some))
pair_read (high ∷ low ∷ more) items all_digits byte some is so_far =
    let count : length (high ∷ low ∷ more) - 2 ≡ length more = omega arith in
    let same : take (length (high ∷ low ∷ more) - 2) more ≡ more = ap (λ n. take n more) count ∙ take-length more in
    ap (λ ds. bytes_before (items ++ byte ∷ []) (hex_bytes ds)) same ∙ sym (byte_read items byte (hex_bytes more))
    ∙ ap (λ (first : Option ℕ). bytes_before items (onto_bytes first (hex_bytes more))) (sym is) ∙ so_far
