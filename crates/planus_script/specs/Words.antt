-- The words of a line, and numbers.
use Rattle.std.specs.Prelude.{ℕ, ◌^◌, ◌==◌, ◌&&◌, nat_le, nat_lt, Bool, List, [], ◌∷◌, length}
use Rattle.std.specs.Prelude.{Option, Some, None, Result, Ok, Err, if◌then◌else◌}
use Rattle.std.specs.List.{slice_split, position_or_len, before_first, after_first, list_all}
use Rattle.std.specs.Char.{is_ascii_digit}
use Rattle.std.specs.Str.Parse.{digits_value}
use Rattle.planus_script.specs.declared.script.ReadFault.{ReadFault}
use Rattle.planus_script.specs.declared.script.ReadFault.TheVariants.{BadNumber}

-- single spaces separate them
abbrev pub words_of : List ℕ → List (List ℕ)
words_of line = slice_split (λ b. b == 32) line

-- the words after the first, if a space follows it
abbrev pub words_behind : Option (List ℕ) → List (List ℕ)
words_behind None = []
words_behind (Some rest) = words_of rest

-- before and after the first `byte` of a word, if it has one
abbrev pub cut_at : ℕ → List ℕ → Option (List ℕ × List ℕ)
cut_at byte word =
    if nat_lt (position_or_len (λ b. b == byte) word) (length word)
    then Some (before_first (λ b. b == byte) word, after_first (λ b. b == byte) word) else None

-- one to twenty decimal digits, at most 18446744073709551615
abbrev pub is_number : List ℕ → Bool
is_number word = nat_le 1 (length word) &&
    (nat_le (length word) 20 && (list_all is_ascii_digit word && nat_lt (digits_value 10 word)
    (2 ^ 64)))

abbrev pub number_of : List ℕ → Result ℕ ReadFault
number_of word = if is_number word then Ok (digits_value 10 word) else Err BadNumber

abbrev pub onto_items : {A : Type 0} → Result A ReadFault → Result (List A) ReadFault
    → Result (List A) ReadFault
onto_items (Err fault) more = Err fault
onto_items (Ok item) (Ok more) = Ok (item ∷ more)
onto_items (Ok item) (Err fault) = Err fault

-- the items of these words, or the first error
abbrev pub items_of : {A : Type 0} → (List ℕ → Result A ReadFault) → List (List ℕ)
    → Result (List A) ReadFault
items_of read [] = Ok []
items_of read (word ∷ words) = onto_items (read word) (items_of read words)

abbrev pub numbers_of : List (List ℕ) → Result (List ℕ) ReadFault
numbers_of words = items_of number_of words
