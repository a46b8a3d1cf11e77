-- The first token of a text.
use Rattle.std.specs.Prelude.{ℕ, suc, ◌==◌, Bool, false, ◌&&◌, ◌||◌}
use Rattle.std.specs.Prelude.{if◌then◌else◌, List, [], ◌∷◌, length, codes, Option, Some, None}
use Rattle.std.specs.Prelude.{Result, Ok, Err}
use Rattle.std.specs.List.{list_any}
use Rattle.std.specs.Char.{is_ascii_digit, is_ascii_alphabetic}
use Rattle.planus_json_syntax.specs.declared.fault_kind.FaultKind.TheVariants.{Strange}
use Rattle.planus_json_syntax.specs.declared.fault_kind.FaultKind.TheVariants.{OpenComment}
use Rattle.planus_json_syntax.specs.Strings.{Fault, Content, string_at}

infixl 10 ◌>>=◌
abbrev pub ◌>>=◌ : {A B : Type 0} → Result A Fault → (A → Result B Fault) → Result B Fault
(Ok x) >>= f = f x
(Err e) >>= f = Err e

-- a mark, a word as it is written, or what a string says
pub data Token : Type 0 where
  mark : ℕ → Token
  word : List ℕ → Token
  text : List ℕ → Token

-- a token, how many bytes are left where it begins, and what follows it
pub record Front : Type 0 where
  pub token : Token
  pub left : ℕ
  pub rest : List ℕ

-- ---- bytes

abbrev pub is_blank : ℕ → Bool
is_blank b = b == 32 || (b == 9 || (b == 10 || b == 13))

abbrev pub is_mark : ℕ → Bool
is_mark b = list_any (λ m. m == b) (codes "{}[]:,")

-- letters, digits, `_`
abbrev pub is_name_byte : ℕ → Bool
is_name_byte b = is_ascii_alphabetic b || (is_ascii_digit b || b == 95)

-- these, and `+`, `-`, `.`
abbrev pub is_word_byte : ℕ → Bool
is_word_byte b = is_name_byte b || (b == 43 || (b == 45 || b == 46))

abbrev pub begins_word : List ℕ → Bool
begins_word [] = false
begins_word (b ∷ bs) = is_word_byte b

-- ---- blanks and comments

-- What follows the blanks and comments at the front. After a slash a comment begins; one line ends
-- with a line feed; the other comment with `*/`, of which the `*` may have come.
abbrev mutual
  pub skip : List ℕ → Result (List ℕ) Fault
  skip [] = Ok []
  skip (b ∷ bs) = if is_blank b then skip bs else if b == 47 then slash bs else Ok (b ∷ bs)

  pub slash : List ℕ → Result (List ℕ) Fault
  slash [] = Err (Strange, 1)
  slash (b ∷ bs) =
      if b == 47 then line bs
      else if b == 42 then block false bs
      else Err (Strange, suc (suc (length bs)))

  pub line : List ℕ → Result (List ℕ) Fault
  line [] = Ok []
  line (b ∷ bs) = if b == 10 then skip bs else line bs

  pub block : Bool → List ℕ → Result (List ℕ) Fault
  block starred [] = Err (OpenComment, 0)
  block starred (b ∷ bs) = if starred && b == 47 then skip bs else block (b == 42) bs

-- ---- tokens

-- the bytes of a word at the front, and those after it
abbrev pub word_of : List ℕ → List ℕ
word_of [] = []
word_of (b ∷ bs) = if is_word_byte b then b ∷ word_of bs else []

abbrev pub after_word : List ℕ → List ℕ
after_word [] = []
after_word (b ∷ bs) = if is_word_byte b then after_word bs else b ∷ bs

abbrev pub text_front : ℕ → Content → Result (Option Front) Fault
text_front left (Ok x) = Ok (Some (record { token = text x.0; left = left; rest = x.1 }))
text_front left (Err fault) = Err fault

-- the token that begins with the first byte; none at the text's end
abbrev pub front_at : List ℕ → Result (Option Front) Fault
front_at [] = Ok None
front_at (b ∷ bs) =
    if is_mark b then Ok (Some (record { token = mark b; left = suc (length bs); rest = bs }))
    else if b == 34 then text_front (suc (length bs)) (string_at bs)
    else if is_word_byte b then Ok (Some (record {
      token = word (word_of (b ∷ bs));
      left = suc (length bs);
      rest = after_word (b ∷ bs);
    }))
    else Err (Strange, suc (length bs))

-- the first token after blanks and comments
unfoldable pub next : List ℕ → Result (Option Front) Fault
next bytes = skip bytes >>= front_at
