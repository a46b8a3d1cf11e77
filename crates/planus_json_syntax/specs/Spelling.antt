-- Which texts spell which values: a grammar, apart from how texts are read.
use Rattle.std.specs.Prelude.{◌≡◌, ℕ, suc, max, nat_le, ◌+◌, ◌≤◌, ◌==◌}
use Rattle.std.specs.Prelude.{Bool, true, false, ◌&&◌, ◌||◌, not}
use Rattle.std.specs.Prelude.{List, [], ◌∷◌, ◌++◌, length, Option, Some, None, ◌⊎◌}
use Rattle.std.specs.Prelude.{Result, Ok, Err, map, ⊤}
use Rattle.std.specs.Global.{Vec}
use Rattle.std.specs.Str.{is_utf8}
use Rattle.std.specs.Char.{encode_utf8}
use Rattle.std.specs.List.{list_all, flat_map}
use Rattle.planus_json_syntax.specs.declared.json.Json.{Json}
use Rattle.planus_json_syntax.specs.declared.json_error.JsonError.{JsonError}
use Rattle.planus_json_syntax.specs.declared.json_error.JsonError.TheVariants as errors
use Rattle.planus_json_syntax.specs.Strings.{is_hex, number_of, is_high, is_low, both_halves}
use Rattle.planus_json_syntax.specs.Strings.{short_value}
use Rattle.planus_json_syntax.specs.Tokens.{Token, mark, word, text, Front, is_blank, is_mark}
use Rattle.planus_json_syntax.specs.Tokens.{is_word_byte, begins_word}
use Rattle.planus_json_syntax.specs.Values as values
use Rattle.planus_json_syntax.specs.Values.{ValueV, list, object, Items, no_items, item, Members}
use Rattle.planus_json_syntax.specs.Values.{no_members, member, JsonV, json_view}
use Rattle.planus_json_syntax.specs.Reading.{is_name, after_order_mark}

-- ---- strings

-- four hexadecimal digits
pub record Four : Type 0 where
  pub a : ℕ
  pub b : ℕ
  pub c : ℕ
  pub d : ℕ

abbrev pub four_bytes : Four → List ℕ
four_bytes four = four.a ∷ four.b ∷ four.c ∷ four.d ∷ []

abbrev pub is_four : Four → Bool
is_four four = is_hex four.a && (is_hex four.b && (is_hex four.c && is_hex four.d))

abbrev pub number : Four → ℕ
number four = number_of four.a four.b four.c four.d

-- a byte, a backslash and a letter, `\u` and four digits, or this twice for a character's halves
pub data Part : Type 0 where
  plain : ℕ → Part
  short : ℕ → Part
  code : Four → Part
  pair : Four → Four → Part

-- any byte but quotes, backslashes and those below 32
abbrev pub is_plain : ℕ → Bool
is_plain b = not (b == 34) && (not (b == 92) && nat_le 32 b)

abbrev pub is_some : Option ℕ → Bool
is_some None = false
is_some (Some n) = true

abbrev pub is_part : Part → Bool
is_part (plain b) = is_plain b
is_part (short b) = is_some (short_value b)
is_part (code n) = is_four n && not (is_high (number n) || is_low (number n))
is_part (pair n m) = is_four n && (is_four m && (is_high (number n) && is_low (number m)))

abbrev pub part_bytes : Part → List ℕ
part_bytes (plain b) = b ∷ []
part_bytes (short b) = 92 ∷ b ∷ []
part_bytes (code n) = 92 ∷ 117 ∷ four_bytes n
part_bytes (pair n m) = 92 ∷ 117 ∷ (four_bytes n ++ 92 ∷ 117 ∷ four_bytes m)

abbrev pub encoded : Option ℕ → List ℕ
encoded None = []
encoded (Some c) = encode_utf8 c

-- what a part says, in UTF-8; a byte says itself
abbrev pub part_says : Part → List ℕ
part_says (plain b) = b ∷ []
part_says (short b) = encoded (short_value b)
part_says (code n) = encode_utf8 (number n)
part_says (pair n m) = encode_utf8 (both_halves (number n) (number m))

abbrev pub written : List Part → List ℕ
written parts = flat_map part_bytes parts

abbrev pub said : List Part → List ℕ
said parts = flat_map part_says parts

-- ---- blanks and comments

-- a blank, a comment with the line feed that ends it, a comment to `*/`
pub data Gap : Type 0 where
  blank : ℕ → Gap
  line : List ℕ → Gap
  block : List ℕ → Gap

abbrev pub is_line_byte : ℕ → Bool
is_line_byte b = not (b == 10)

abbrev pub begins_slash : List ℕ → Bool
begins_slash [] = false
begins_slash (b ∷ bs) = b == 47

-- no `*/` is in it
abbrev pub stays_open : List ℕ → Bool
stays_open [] = true
stays_open (b ∷ bs) = not (b == 42 && begins_slash bs) && stays_open bs

abbrev pub is_gap : Gap → Bool
is_gap (blank b) = is_blank b
is_gap (line w) = list_all is_line_byte w
is_gap (block w) = stays_open w

abbrev pub gap_bytes : Gap → List ℕ
gap_bytes (blank b) = b ∷ []
gap_bytes (line w) = 47 ∷ 47 ∷ (w ++ 10 ∷ [])
gap_bytes (block w) = 47 ∷ 42 ∷ (w ++ 42 ∷ 47 ∷ [])

abbrev pub between : List Gap → List ℕ
between gaps = flat_map gap_bytes gaps

-- ---- tokens

pub data Piece : Type 0 where
  mark_piece : ℕ → Piece
  word_piece : List ℕ → Piece
  string_piece : List Part → Piece

abbrev pub is_word : List ℕ → Bool
is_word [] = false
is_word (b ∷ w) = list_all is_word_byte (b ∷ w)

abbrev pub is_piece : Piece → Bool
is_piece (mark_piece m) = is_mark m
is_piece (word_piece w) = is_word w
is_piece (string_piece parts) = list_all is_part parts && is_utf8 (said parts)

abbrev pub piece_bytes : Piece → List ℕ
piece_bytes (mark_piece m) = m ∷ []
piece_bytes (word_piece w) = w
piece_bytes (string_piece parts) = 34 ∷ (written parts ++ 34 ∷ [])

abbrev pub token_of : Piece → Token
token_of (mark_piece m) = mark m
token_of (word_piece w) = word w
token_of (string_piece parts) = text (said parts)

-- these bytes would lengthen the token before them
abbrev pub lengthens : Piece → List ℕ → Bool
lengthens (mark_piece m) rest = false
lengthens (word_piece w) rest = begins_word rest
lengthens (string_piece parts) rest = false

-- After blanks and comments comes this token, which begins where so many bytes are left, and then
-- this rest.
pub record TokenAt (bytes : List ℕ) (front : Front) : Type 0 where
  pub gaps : List Gap
  pub are : list_all is_gap gaps ≡ true
  pub piece : Piece
  pub is : is_piece piece ≡ true
  pub ends : lengthens piece front.rest ≡ false
  pub whole : bytes ≡ between gaps ++ (piece_bytes piece ++ front.rest)
  pub token : front.token ≡ token_of piece
  pub left : front.left ≡ length (piece_bytes piece ++ front.rest)

-- Nothing but blanks and comments comes; the last comment may have no line feed.
pub record EndAt (bytes : List ℕ) : Type 0 where
  pub gaps : List Gap
  pub are : list_all is_gap gaps ≡ true
  pub last : List ℕ
  pub ended : (last ≡ []) ⊎ ((w : List ℕ) × (list_all is_line_byte w ≡ true) × (last ≡ 47 ∷ 47 ∷ w))
  pub whole : bytes ≡ between gaps ++ last

-- ---- values

-- this mark, and then the rest
abbrev pub MarkAt : ℕ → List ℕ → List ℕ → Type 0
MarkAt m bytes rest =
    (left : ℕ) × TokenAt bytes (record { token = mark m; left = left; rest = rest })

module _ (len : ℕ) where
  -- this token, at this distance from the first byte of a text of length `len`, and then the rest
  abbrev pub PlacedAt : ℕ → Token → List ℕ → List ℕ → Type 0
  PlacedAt at token bytes rest = (left : ℕ)
      × TokenAt bytes (record { token = token; left = left; rest = rest }) × (at + left ≡ len)

  -- a key is a string, or a word that is a name
  abbrev pub KeyAt : ℕ → List ℕ → List ℕ → List ℕ → Type 0
  KeyAt at key bytes rest = PlacedAt at (text key) bytes rest
      ⊎ ((is_name key ≡ true) × PlacedAt at (word key) bytes rest)

  -- these bytes are the value, and then the rest
  abbrev mutual
    pub ValueAt : ℕ → ValueV → List ℕ → List ℕ → Type 0
    ValueAt at (values.word w) bytes rest = PlacedAt at (word w) bytes rest
    ValueAt at (values.text s) bytes rest = PlacedAt at (text s) bytes rest
    ValueAt at (list js) bytes rest =
        (inner : List ℕ) × PlacedAt at (mark 91) bytes inner × ItemsAt js inner rest
    ValueAt at (object ms) bytes rest =
        (inner : List ℕ) × PlacedAt at (mark 123) bytes inner × MembersAt ms inner rest

    -- items up to `]`; a comma follows each but the last, which may have one
    pub ItemsAt : Items → List ℕ → List ℕ → Type 0
    ItemsAt no_items bytes rest = MarkAt 93 bytes rest
    ItemsAt (item at value js) bytes rest = (after : List ℕ) × ValueAt at value bytes after
        × (((js ≡ no_items) × MarkAt 93 after rest)
        ⊎ ((more : List ℕ) × MarkAt 44 after more × ItemsAt js more rest))

    -- members up to `}`, likewise
    pub MembersAt : Members → List ℕ → List ℕ → Type 0
    MembersAt no_members bytes rest = MarkAt 125 bytes rest
    MembersAt (member at key place value ms) bytes rest =
        (colon : List ℕ) × (start : List ℕ) × (after : List ℕ)
        × KeyAt at key bytes colon × MarkAt 58 colon start × ValueAt place value start after
        × (((ms ≡ no_members) × MarkAt 125 after rest)
        ⊎ ((more : List ℕ) × MarkAt 44 after more × MembersAt ms more rest))

  -- values one after another up to the text's end
  abbrev pub ValuesAt : List JsonV → List ℕ → Type 0
  ValuesAt [] bytes = EndAt bytes
  ValuesAt (j ∷ js) bytes =
      (after : List ℕ) × ValueAt j.at j.value bytes after × ValuesAt js after

-- how deep lists and objects nest
abbrev mutual
  pub depth : ValueV → ℕ
  depth (values.word w) = 0
  depth (values.text s) = 0
  depth (list js) = suc (items_depth js)
  depth (object ms) = suc (members_depth ms)

  pub items_depth : Items → ℕ
  items_depth no_items = 0
  items_depth (item at value js) = max (depth value) (items_depth js)

  pub members_depth : Members → ℕ
  members_depth no_members = 0
  members_depth (member at key place value ms) = max (depth value) (members_depth ms)

abbrev pub NestTo : ℕ → List JsonV → Type 0
NestTo most [] = Unit {0}
NestTo most (j ∷ js) = (depth j.value ≤ most) × NestTo most js

-- The text spells these values.
abbrev pub Spells : List ℕ → List JsonV → Type 0
Spells bytes js = ValuesAt (length bytes) js (after_order_mark bytes) × NestTo 256 js

-- these values, or memory was refused
abbrev pub ParsesTo : List JsonV → Result (Vec Json) JsonError → Type 0
ParsesTo js (Ok found) = map json_view found.items ≡ js
ParsesTo js (Err errors.OutOfMemory) = ⊤
ParsesTo js (Err (errors.Fault at kind)) = ⊥

-- ---- laws

-- A string says one content, and ends at one place.
abbrev pub OneContent : Type 0
OneContent = (a b : List Part) (rest more : List ℕ) → is_piece (string_piece a) ≡ true
    → is_piece (string_piece b) ≡ true → written a ++ 34 ∷ rest ≡ written b ++ 34 ∷ more
    → (said a ≡ said b) × (rest ≡ more)

-- Each text has a string that says it.
abbrev pub StringsAreWritten : Type 0
StringsAreWritten = (content : List ℕ) → is_utf8 content ≡ true
    → (parts : List Part) × (is_piece (string_piece parts) ≡ true) × (said parts ≡ content)
