-- Texts as a terminal may show them.
use Rattle.std.specs.Prelude.{◌≡◌, ℕ, ◌-◌, ◌==◌, ◌&&◌, ◌||◌, not, nat_lt, Bool, false, List, [], ◌∷◌}
use Rattle.std.specs.Prelude.{◌++◌, take, if◌then◌else◌}
use Rattle.std.specs.List.{list_any}
use Rattle.std.specs.Str.{chars, is_utf8, IsUtf8}
use Rattle.planus_dump.specs.Lines.{hex_of, is_unseen}

-- a control character but a tab, or a mark that turns the direction of text
abbrev pub is_hidden : ℕ → Bool
is_hidden c = (nat_lt c 32 && not (c == 9)) || c == 127 || is_unseen c

-- how many bytes a character has that begins with this one
abbrev pub width : ℕ → ℕ
width b = if nat_lt b 128 then 1 else (if nat_lt b 224 then 2 else (if nat_lt b 240 then 3 else 4))

-- a text in UTF-8 without such characters
abbrev pub is_seen : List ℕ → Bool
is_seen bytes = is_utf8 bytes && not (list_any is_hidden (chars bytes))

-- how many bytes the first character has, and 0 where that isn't seen, or none begins here
abbrev pub seen_length : List ℕ → ℕ
seen_length [] = 0
seen_length (b ∷ bs) = if is_seen (take (width b) (b ∷ bs)) then width b else 0

-- how many bytes from the first on stay, if `kept` are of a character that began before
abbrev pub kept_of : ℕ → List ℕ → ℕ
kept_of kept bytes = if kept == 0 then seen_length bytes else kept

-- a byte itself, or `\x` and its two hexadecimal digits
abbrev pub sign : ℕ → ℕ → List ℕ
sign kept b = if kept == 0 then 92 ∷ 120 ∷ hex_of b else b ∷ []

-- the bytes as they are shown, if `kept` of them are of a character before
abbrev pub shown_from : ℕ → List ℕ → List ℕ
shown_from kept [] = []
shown_from kept (b ∷ bs) =
    sign (kept_of kept (b ∷ bs)) b ++ shown_from (kept_of kept (b ∷ bs) - 1) bs

-- A character that is seen stays; each other byte is `\x` and two digits.
abbrev pub shown : List ℕ → List ℕ
shown bytes = shown_from 0 bytes

-- a text in UTF-8, each character of which is seen
pub record IsSeenText (bytes : List ℕ) : Type 0 where
  pub utf8 : IsUtf8 bytes
  pub seen : list_any is_hidden (chars bytes) ≡ false
