-- Parts that were placed, at the front of the bytes.
use Rattle.std.proofs.Common.{◌≡◌, ℕ, suc, ◌+◌, ◌-◌, ◌<◌, ◌^◌, List, ◌++◌, length, ap, ◌∙◌, subst}
use Rattle.std.proofs.Common.{arith, Option, Some, None, length-append, true, ◌≤◌}
use Rattle.std.specs.Prelude.{nat_le}
use Rattle.std.proofs.lemmas.Bool.Decides.{nat_tests}
use Rattle.std.specs.Int.{w32, to_le_bytes}
use Rattle.std.proofs.lemmas.Nat.{from_le_bytes-to_le_bytes_4}
use Rattle.std.proofs.lemmas.List.{length-replicate}
use Rattle.planus_back.specs.Promises.{Keep}
use Rattle.planus_back.specs.Padding.{CanPad}
use Rattle.planus_back.specs.Parts.{Part, Written, Placed}
use Rattle.planus_back.proofs.Multiples.{divides_multiple}
use Rattle.planus_read.specs.Bytes.{Num}
use Rattle.planus_read.specs.Values.{Value}
use Rattle.planus_read.specs.Stands.{Stands, at}
use Rattle.planus_read.specs.Aligned.{AlignedAt}
use Rattle.planus_write.specs.History.{History}
use Rattle.planus_write.specs.Parts.{text_part, byte_list_part, finish_part, identifier_bytes}
use Rattle.planus_write.specs.Parts.{sized_finish_part}
use Rattle.planus_write.specs.Kept.{IsKept}

pub length_after : (part : Part) (before after : Written) (placed : Placed part before after)
    → length (part.bytes_at placed.place) ≡ part.size → length after.bytes ≡ placed.place
length_after part before after placed sized =
    ap length placed.bytes
    ∙ simp (length-append, length-replicate)
    (let h = sized in let g = placed.is_place in omega arith)

pub text_size : (content : List ℕ) (place : ℕ)
    → length ((text_part content).bytes_at place) ≡ (text_part content).size
text_size content place = simp length-append (omega arith)

pub byte_list_size : (content : List ℕ) (place : ℕ)
    → length ((byte_list_part content).bytes_at place) ≡ (byte_list_part content).size
byte_list_size content place = simp length-append (omega arith)

pub finish_size : (root : ℕ) (identifier : Option (List ℕ)) (before : Written) (place : ℕ)
    → length ((finish_part root identifier before.promises).bytes_at place)
    ≡ (finish_part root identifier before.promises).size
finish_size root identifier before place =
    let e : 4 + length (identifier_bytes identifier) ≡ length (identifier_bytes identifier) + 4 =
    omega arith in simp length-append (omega arith)

pub sized_finish_size : (root : ℕ) (identifier : Option (List ℕ)) (before : Written) (place : ℕ)
    → length ((sized_finish_part root identifier before.promises).bytes_at place)
    ≡ (sized_finish_part root identifier before.promises).size
sized_finish_size root identifier before place =
    let e : 8 + length (identifier_bytes identifier) ≡ length (identifier_bytes identifier) + 8 =
    omega arith in simp length-append (omega arith)

four_fit : (m : ℕ) → nat_le 4 (suc (suc (suc (suc m)))) ≡ true
four_fit m = grind (arith, nat_tests)

pub front_number : (n : ℕ) (rest : List ℕ) → n < 2 ^ 32
    → Num (to_le_bytes w32 n ++ rest) 0 w32 ≡ Some n
front_number n rest small =
    rw (four_fit (length rest)) (ap Some (from_le_bytes-to_le_bytes_4 n small))

eight_fit : (m : ℕ) → nat_le 8 (suc (suc (suc (suc (suc (suc (suc (suc m)))))))) ≡ true
eight_fit m = grind (arith, nat_tests)

pub second_number : (m n : ℕ) (rest : List ℕ) → n < 2 ^ 32
    → Num (to_le_bytes w32 m ++ (to_le_bytes w32 n ++ rest)) 4 w32 ≡ Some n
second_number m n rest small =
    rw (eight_fit (length rest)) (ap Some (from_le_bytes-to_le_bytes_4 n small))

pub kept_at_front : (history : History) (value : Value) (distance : ℕ)
    → length history.written.bytes ≡ distance
    → Stands history.written.bytes (at 0) value
    → ((front : List ℕ) → Keep history.written.promises (length (front ++ history.written.bytes))
    → AlignedAt (front ++ history.written.bytes) (at (length front)) value)
    → IsKept history value (record { distance = distance; tags = None })
kept_at_front history value distance at_end there aligned = record {
  reached = omega (arith, at_end);
  tags_reached = tt;
  stands = subst (λ k. Stands history.written.bytes (at k) value)
      (let e : 0 ≡ length history.written.bytes - distance = omega (arith, at_end) in e) there;
  aligned = λ front keep.
      let e : length front ≡ length front + (length history.written.bytes - distance) =
      omega (arith, at_end) in
      subst (λ k. AlignedAt (front ++ history.written.bytes) (at k) value) e (aligned front keep);
}

pub unpadded : (size : ℕ) (bytes_at : ℕ → List ℕ) (before after : Written)
    (placed : Placed (record { size = size; alignment = 1; bytes_at = bytes_at }) before after)
    → placed.padding ≡ 0
unpadded size bytes_at before after placed =
    let padded : CanPad (length before.bytes) before.promises size 1 placed.padding =
    placed.is_least.holds in
    let reaches : length before.bytes + placed.padding + size ≤ padded.0 = padded.1.0.reaches in
    let can : CanPad (length before.bytes) before.promises size 1 0 = (
      padded.0,
      (
        record {
          reaches = omega (arith, reaches);
          aligns =
              divides_multiple 1 (padded.0 - (length before.bytes + 0 + size))
              (padded.0 - (length before.bytes + 0 + size)) (omega arith);
        },
        padded.1.1,
      ),
    ) in
    let le : placed.padding ≤ 0 = placed.is_least.least 0 can in
    omega (arith, le)
