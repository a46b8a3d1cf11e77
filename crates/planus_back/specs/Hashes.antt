-- The hash of a key: a function of the key.
use Rattle.std.specs.Prelude.{◌≡◌, ℕ, zero, suc, ◌+◌, ◌*◌, ◌/◌, ◌%◌, ◌^◌, ◌-◌, ◌≤◌, List, [], ◌∷◌}
use Rattle.std.specs.Prelude.{length, take, drop, nat_le, if◌then◌else◌, bit_xor}
use Rattle.std.specs.Int.{w64, from_le_bytes}

abbrev pub fold_of : ℕ → ℕ → ℕ
fold_of left right = bit_xor (left * right % 2 ^ 64) (left * right / 2 ^ 64)

-- the first byte is the highest
abbrev pub number_with : ℕ → ℕ → ℕ
number_with number byte = (number * 256 + byte) % 2 ^ 64

abbrev pub number_on : ℕ → List ℕ → ℕ
number_on number [] = number
number_on number (byte ∷ bytes) = number_on (number_with number byte) bytes

abbrev pub last_number : List ℕ → ℕ
last_number key =
    if nat_le 8 (length key) then from_le_bytes w64 (drop (length key - 8) key) else number_on 0 key

abbrev pub word : List ℕ → ℕ
word bytes = from_le_bytes w64 (take 8 bytes)

abbrev pub first_number : List ℕ → ℕ
first_number bytes = if nat_le 8 (length bytes) then word bytes else 0

pub record IsLastWord (bytes : List ℕ) (last : ℕ) : Type 0 where
  pub enough : 8 ≤ length bytes
  pub is_last : last ≡ from_le_bytes w64 (drop (length bytes - 8) bytes)

pub record SplitsWord (bytes : List ℕ) (first : ℕ) (behind : List ℕ) : Type 0 where
  pub is_first : first ≡ word bytes
  pub is_behind : behind ≡ drop 8 bytes
  pub enough : length behind + 8 ≡ length bytes

pub record Splits (bytes : List ℕ) (first second : ℕ) (behind : List ℕ) : Type 0 where
  pub is_first : first ≡ word bytes
  pub is_second : second ≡ word (drop 8 bytes)
  pub is_behind : behind ≡ drop 8 (drop 8 bytes)
  pub enough : length behind + 16 ≡ length bytes

-- two hashes in turn over n pairs of words, then the rest
abbrev pub hash_on : ℕ → ℕ → ℕ → ℕ → List ℕ → ℕ
hash_on zero one two last bytes =
    fold_of (bit_xor one (first_number bytes)) (bit_xor two last)
hash_on (suc pairs) one two last bytes =
    hash_on pairs two
    (fold_of (bit_xor one (word bytes)) (bit_xor 4983270260364809079 (word (drop 8 bytes))))
    last (drop 8 (drop 8 bytes))

-- The two start from unrelated numbers, so that the order of words matters.
abbrev pub hash_of : List ℕ → ℕ
hash_of key =
    hash_on (length key / 16) (bit_xor 2611923443488327891 (length key))
    (bit_xor 589684135938649225 (length key)) (last_number key) key
