-- The words of a line.
use Rattle.std.proofs.Common.{◌≡◌, ℕ, ◌<◌, ◌≤◌, List, [], ◌∷◌, length, Bool, true, false, refl, arith, Err}
use Rattle.std.specs.Prelude.{◌==◌, if◌then◌else◌}
use Rattle.std.specs.List.{after_first, before_first, position_or_len}
use Rattle.std.proofs.lemmas.List.Splits.{length-slice_split, slice_split_none, slice_split_first}
use Rattle.std.proofs.lemmas.List.Sums.{fails_before_first}
use Rattle.std.specs.Str.{is_utf8, IsUtf8}
use Rattle.std.proofs.lemmas.Str.{IsUtf8-from_is_utf8, is_utf8-from_IsUtf8}
use Rattle.planus_script.specs.Words.{words_of}
use Rattle.planus.specs.Steps.{Front}
use Rattle.planus_script.specs.Script.{bytes_of, finish_of, struct_of, command_of, command_of_words, clear_of}
use Rattle.planus_script.specs.declared.script.ReadFault.TheVariants.{NotUtf8, UnknownCommand, BadHex}

pub not_utf8 : (line : List ℕ) → ¬ (IsUtf8 line) → command_of line ≡ Err NotUtf8
not_utf8 line h = by_test (is_utf8 line) refl
  where
    by_test : (b : Bool) → is_utf8 line ≡ b → (if b then command_of_words line (words_of line) else Err NotUtf8) ≡ Err NotUtf8
    by_test true e = absurd (h (IsUtf8-from_is_utf8 line e))
    by_test false e = refl

pub utf8 : (line : List ℕ) → IsUtf8 line → command_of line ≡ command_of_words line (words_of line)
utf8 line h = rw (is_utf8-from_IsUtf8 line h) refl

pub uncut : (line : List ℕ) → position_or_len (λ b. b == 32) line ≡ length line → words_of line ≡ line ∷ []
uncut line h = slice_split_none (λ b. b == 32) line (λ k d high. fails_before_first (λ b. b == 32) line k d (omega arith))

pub cut : (line : List ℕ) → position_or_len (λ b. b == 32) line < length line → words_of line ≡ before_first (λ b. b == 32) line ∷ words_of (after_first (λ b. b == 32) line)
cut line h = slice_split_first (λ b. b == 32) line 0 h

some_words : (rest : List ℕ) → 1 ≤ length (words_of rest)
some_words rest = omega (arith, length-slice_split (λ b. b == 32) rest)

clear_none : (words : List (List ℕ)) → 1 ≤ length words → clear_of words ≡ Err UnknownCommand
clear_none [] h = absurd (omega arith)
clear_none (w ∷ ws) h = refl

pub clear_followed : (rest : List ℕ) → clear_of (words_of rest) ≡ Err UnknownCommand
clear_followed rest = clear_none (words_of rest) (some_words rest)

finish_three : (front : Front) (root name : List ℕ) (words : List (List ℕ)) → 1 ≤ length words → finish_of front (root ∷ name ∷ words) ≡ Err UnknownCommand
finish_three front root name [] h = absurd (omega arith)
finish_three front root name (w ∷ ws) h = refl

pub finish_followed : (front : Front) (root name rest : List ℕ) → finish_of front (root ∷ name ∷ words_of rest) ≡ Err UnknownCommand
finish_followed front root name rest = finish_three front root name (words_of rest) (some_words rest)

bytes_two : (word : List ℕ) (words : List (List ℕ)) → 1 ≤ length words → bytes_of (word ∷ words) ≡ Err BadHex
bytes_two word [] h = absurd (omega arith)
bytes_two word (w ∷ ws) h = refl

pub bytes_followed : (word rest : List ℕ) → bytes_of (word ∷ words_of rest) ≡ Err BadHex
bytes_followed word rest = bytes_two word (words_of rest) (some_words rest)

struct_three : (alignment digits : List ℕ) (words : List (List ℕ)) → 1 ≤ length words → struct_of (alignment ∷ digits ∷ words) ≡ Err UnknownCommand
struct_three alignment digits [] h = absurd (omega arith)
struct_three alignment digits (w ∷ ws) h = refl

pub struct_followed : (alignment digits rest : List ℕ) → struct_of (alignment ∷ digits ∷ words_of rest) ≡ Err UnknownCommand
struct_followed alignment digits rest = struct_three alignment digits (words_of rest) (some_words rest)
