-- How a hash takes more bytes.
use Rattle.std.proofs.Common.{◌≡◌, ℕ, ℤ, zero, suc, ◌+◌, ◌-◌, ◌/◌, ◌<◌, ◌≤◌, List, [], ◌∷◌, ◌++◌, length, take, drop, map, refl, sym, ap, ◌∙◌, arith, get_or, bit_xor}
use Rattle.std.proofs.lemmas.Grind.{common_steps}
use Rattle.std.proofs.lemmas.List.{take-append-drop, drop_more, drop-map, length-map}
use Rattle.std.specs.Int.{w64, from_le_bytes}
use Rattle.planus_back.specs.Hashes.{number_with, number_on, fold_of, word, first_number, last_number, IsLastWord, Splits, SplitsWord, hash_on}

pub pair_more : (one two last first second : ℕ) (bytes behind : List ℕ) → Splits bytes first second behind
    → hash_on (length behind / 16) two (fold_of (bit_xor one first) (bit_xor 4983270260364809079 second)) last behind ≡ hash_on (length bytes / 16) one two last bytes
pair_more one two last first second bytes behind split =
    let pairs : length bytes / 16 ≡ suc (length behind / 16) = omega (arith, split.enough) in
    rw (pairs, split.is_first, split.is_second) (ap (λ rest. hash_on (length behind / 16) two (fold_of (bit_xor one (word bytes)) (bit_xor 4983270260364809079 (word (drop 8 bytes)))) last rest) split.is_behind)

take_map : {A : Type 0} (byte : A → ℕ) (n : ℕ) (xs : List A) → map byte (take n xs) ≡ take n (map byte xs)
take_map byte zero xs = refl
take_map byte (suc n) [] = refl
take_map byte (suc n) (x ∷ xs) = ap (λ ys. byte x ∷ ys) (take_map byte n xs)

-- of the first 8 items and those after them
pub splits_each : {A : Type 0} (byte : A → ℕ) (items one behind : List A) (first : ℕ)
    → (one ≡ take 8 items) × (behind ≡ drop 8 items) × (length behind + 8 ≡ length items)
    → first ≡ from_le_bytes w64 (map byte one) → SplitsWord (map byte items) first (map byte behind)
splits_each byte items one behind first whole is_one = record {
  is_first = is_one ∙ ap (λ xs. from_le_bytes w64 (map byte xs)) whole.0 ∙ ap (from_le_bytes w64) (take_map byte 8 items);
  is_behind = ap (map byte) whole.1 ∙ sym (drop-map byte 8 items);
  enough = (let a = length-map behind byte in let b = length-map items byte in omega (arith, a, b, whole.2));
}

pub last_each : {A : Type 0} (byte : A → ℕ) (items one : List A) (last : ℕ) → 8 ≤ length items → one ≡ drop (length items - 8) items
    → last ≡ from_le_bytes w64 (map byte one) → IsLastWord (map byte items) last
last_each byte items one last enough whole is_last =
    let same = length-map items byte in record {
      enough = omega (arith, same, enough);
      is_last = is_last ∙ ap (λ xs. from_le_bytes w64 (map byte xs)) whole ∙ ap (from_le_bytes w64) (sym (drop-map byte (length items - 8) items)) ∙ ap (λ n. from_le_bytes w64 (drop (n - 8) (map byte items))) (sym same);
    }

pub last_short : (bytes : List ℕ) → length bytes < 8 → last_number bytes ≡ number_on 0 bytes
last_short bytes few = grind (arith, common_steps, few)

pub splits_both : (bytes middle behind : List ℕ) (first second : ℕ) → SplitsWord bytes first middle → SplitsWord middle second behind → Splits bytes first second behind
splits_both bytes middle behind first second one two = record {
  is_first = one.is_first;
  is_second = two.is_first ∙ ap word one.is_behind;
  is_behind = two.is_behind ∙ ap (drop 8) one.is_behind;
  enough = omega (arith, one.enough, two.enough);
}

pub rest_more : (one two last : ℕ) (rest : List ℕ) → length rest < 16 → hash_on (length rest / 16) one two last rest ≡ fold_of (bit_xor one (first_number rest)) (bit_xor two last)
rest_more one two last rest few = let pairs : length rest / 16 ≡ 0 = omega (arith, few) in rw pairs refl

pub byte_taken : (number i : ℕ) (bytes : List ℕ) → i < length bytes → number_on number (drop i bytes) ≡ number_on (number_with number (get_or bytes i 0)) (drop (i + 1) bytes)
byte_taken number i bytes within = ap (number_on number) (drop_more bytes i 0 within)

pub none_left : {A : Type 0} (i : ℕ) (xs : List A) → length xs ≤ i → drop i xs ≡ []
none_left zero [] h = refl
none_left zero (x ∷ xs) h = absurd (omega (arith, h))
none_left (suc i) [] h = refl
none_left (suc i) (x ∷ xs) h = none_left i xs (omega (arith, h))

pub cut_at : {A : Type 0} (all word behind : List A) → word ≡ take 8 all → behind ≡ drop 8 all → all ≡ word ++ behind
cut_at all word behind front back = sym (rw (front, back) (take-append-drop 8 all))

pub eight_of : {A : Type 0} (all word behind : List A) → word ≡ take 8 all → length behind + 8 ≡ length all → length word ≡ 8
eight_of all word behind front long = grind (arith, common_steps, front, long)

pub number_taken : (byte : ℤ → ℕ) (number i : ℕ) (d : ℤ) (numbers : List ℤ) → i < length numbers
    → number_on number (map byte (drop i numbers)) ≡ number_on (number_with number (byte (get_or numbers i d))) (map byte (drop (i + 1) numbers))
number_taken byte number i d numbers within = ap (λ xs. number_on number (map byte xs)) (drop_more numbers i d within)

pub word_of_eight : {A : Type 0} (byte : A → ℕ) (numbers : List A) (d : A) → length numbers ≡ 8
    → map byte numbers ≡ byte (get_or numbers 0 d) ∷ byte (get_or numbers 1 d) ∷ byte (get_or numbers 2 d) ∷ byte (get_or numbers 3 d) ∷ byte (get_or numbers 4 d) ∷ byte (get_or numbers 5 d) ∷ byte (get_or numbers 6 d) ∷ byte (get_or numbers 7 d) ∷ []
word_of_eight byte (a ∷ b ∷ c ∷ d ∷ e ∷ f ∷ g ∷ h ∷ []) z eight = refl
word_of_eight byte (a ∷ b ∷ c ∷ d ∷ e ∷ f ∷ g ∷ h ∷ i ∷ more) z eight = absurd (omega (arith, eight))
word_of_eight byte [] z eight = absurd (omega (arith, eight))
word_of_eight byte (a ∷ []) z eight = absurd (omega (arith, eight))
word_of_eight byte (a ∷ b ∷ []) z eight = absurd (omega (arith, eight))
word_of_eight byte (a ∷ b ∷ c ∷ []) z eight = absurd (omega (arith, eight))
word_of_eight byte (a ∷ b ∷ c ∷ d ∷ []) z eight = absurd (omega (arith, eight))
word_of_eight byte (a ∷ b ∷ c ∷ d ∷ e ∷ []) z eight = absurd (omega (arith, eight))
word_of_eight byte (a ∷ b ∷ c ∷ d ∷ e ∷ f ∷ []) z eight = absurd (omega (arith, eight))
word_of_eight byte (a ∷ b ∷ c ∷ d ∷ e ∷ f ∷ g ∷ []) z eight = absurd (omega (arith, eight))
