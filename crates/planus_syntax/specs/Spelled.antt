-- Which texts spell which tokens.
use Rattle.std.specs.Prelude.{◌≡◌, ℕ, Bool, true, false, ◌==◌, ◌&&◌, not, List, [], ◌∷◌, ◌++◌}
use Rattle.std.specs.Prelude.{if◌then◌else◌, take, drop}
use Rattle.std.specs.Str.{bytes_eq}
use Rattle.std.specs.Char.{is_ascii_digit}
use Rattle.std.specs.List.{list_all}
use Rattle.planus_syntax.specs.Tokens.{Piece, word, number, text, doc, mark, begins, bytes_of}
use Rattle.planus_syntax.specs.Tokens.{is_lawful, is_word_byte, is_number_byte, is_blank}
use Rattle.planus_syntax.specs.Tokens.{is_line_byte}

-- a text without the byte order mark that it may begin with
abbrev pub after_order_mark : List ℕ → List ℕ
after_order_mark bytes =
    if bytes_eq (take 3 bytes) (239 ∷ 187 ∷ 191 ∷ []) then drop 3 bytes else bytes

-- a token, a blank, a comment to the end of its line, or one to `*/`
pub data Part : Type 0 where
  token : Piece → Part
  blank : ℕ → Part
  comment : List ℕ → Part
  block : List ℕ → Part

abbrev pub part_bytes : Part → List ℕ
part_bytes (token p) = bytes_of p
part_bytes (blank b) = b ∷ []
part_bytes (comment w) = 47 ∷ 47 ∷ w
part_bytes (block w) = 47 ∷ 42 ∷ (w ++ 42 ∷ 47 ∷ [])

abbrev pub closes : List ℕ → Bool
closes [] = false
closes (b ∷ bs) = b == 42 && begins (λ c. c == 47) bs

abbrev pub stays_open : List ℕ → Bool
stays_open [] = true
stays_open (b ∷ bs) = not (closes (b ∷ bs)) && stays_open bs

abbrev pub is_part : Part → Bool
is_part (token p) = is_lawful p
is_part (blank b) = is_blank b
is_part (comment w) = list_all is_line_byte w && not (begins (λ b. b == 47) w)
is_part (block w) = stays_open w

-- bytes that would lengthen a token and so can't follow it: letters and digits a word, these,
-- points and signs a number, digits a point, any but a line feed documentation and comments
abbrev pub goes_on : Part → ℕ → Bool
goes_on (token (word w)) b = is_word_byte b
goes_on (token (number w)) b = is_number_byte b
goes_on (token (text w)) b = false
goes_on (token (doc w)) b = is_line_byte b
goes_on (token (mark m)) b = m == 46 && is_ascii_digit b
goes_on (blank c) b = false
goes_on (comment w) b = is_line_byte b
goes_on (block w) b = false

abbrev pub spelled : List Part → List ℕ
spelled [] = []
spelled (p ∷ ps) = part_bytes p ++ spelled ps

abbrev pub tokens_in : List Part → List Piece
tokens_in [] = []
tokens_in (token p ∷ ps) = p ∷ tokens_in ps
tokens_in (blank b ∷ ps) = tokens_in ps
tokens_in (comment w ∷ ps) = tokens_in ps
tokens_in (block w ∷ ps) = tokens_in ps

abbrev pub AreParts : List Part → Type 0
AreParts [] = Unit {0}
AreParts (p ∷ ps) = (is_part p ≡ true) × (begins (goes_on p) (spelled ps) ≡ false) × AreParts ps
