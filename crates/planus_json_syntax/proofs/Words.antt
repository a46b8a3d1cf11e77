-- Words.
use Rattle.std.proofs.Common.{◌≡◌, ℕ, ◌<◌, List, [], ◌∷◌, ◌++◌, true, false, Bool, ◌&&◌, refl, sym, ap, ◌∙◌, suc, length, arith, IsUtf8}
use Rattle.std.specs.List.{list_all}
use Rattle.std.specs.Str.{IsAscii}
use Rattle.std.proofs.lemmas.Str.{IsAscii-append, IsUtf8-from_ascii}
use Rattle.std.proofs.lemmas.Str.Ascii.{IsAscii-push}
use Rattle.std.specs.Prelude.{if◌then◌else◌, ◌==◌, Result, Ok, Option, Some}
use Rattle.planus_json_syntax.specs.Strings.{Fault}
use Rattle.planus_json_syntax.specs.Tokens.{is_word_byte, begins_word, is_mark, word_of, after_word, word, Front, front_at}
use Rattle.planus_json_syntax.specs.Steps.{Splits}

both : (a b : Bool) → (a && b) ≡ true → (a ≡ true) × (b ≡ true)
both true b h = (refl, h)
both false b h = absurd cc

small : (b : ℕ) → is_word_byte b ≡ true → b < 128
small b h = grind arith

word_ascii : (bytes : List ℕ) → list_all is_word_byte bytes ≡ true → IsAscii bytes
word_ascii [] h = λ i. omega arith
word_ascii (b ∷ bytes) h =
    let is = both (is_word_byte b) (list_all is_word_byte bytes) h in
    IsAscii-append (b ∷ []) bytes (IsAscii-push [] b (λ i. omega arith) (small b is.0)) (word_ascii bytes is.1)

-- a word is text
pub word_utf8 : (bytes : List ℕ) → list_all is_word_byte bytes ≡ true → IsUtf8 bytes
word_utf8 bytes h = IsUtf8-from_ascii bytes (word_ascii bytes h)

none_before : (rest : List ℕ) → begins_word rest ≡ false → (word_of rest ≡ []) × (after_word rest ≡ rest)
none_before [] h = (refl, refl)
none_before (b ∷ bs) h = (rw h refl, rw h refl)

split_is : (front rest : List ℕ) → list_all is_word_byte front ≡ true → begins_word rest ≡ false → (word_of (front ++ rest) ≡ front) × (after_word (front ++ rest) ≡ rest)
split_is [] rest h s = none_before rest s
split_is (b ∷ front) rest h s =
    let is = both (is_word_byte b) (list_all is_word_byte front) h in
    let others = split_is front rest is.1 s in
    (rw is.0 (ap (λ w. b ∷ w) others.0), rw is.0 others.1)

pub split_word : (bytes front rest : List ℕ) → Splits bytes front rest → (word_of bytes ≡ front) × (after_word bytes ≡ rest)
split_word bytes front rest s = rw s.whole (split_is front rest s.each s.stops)

abbrev of_word : List ℕ → ℕ → List ℕ → Result (Option Front) Fault
of_word w left rest = Ok (Some (record { token = word w; left = left; rest = rest }))

third : {A : Type 0} (p q r : Bool) (x y z w : A) → p ≡ false → q ≡ false → r ≡ true → (if p then x else if q then y else if r then z else w) ≡ z
third false false true x y z w e f g = refl
third true q r x y z w e f g = absurd cc
third false true r x y z w e f g = absurd cc
third false false false x y z w e f g = absurd cc

-- the token at the front is a word
pub word_front : (bytes after front rest said : List ℕ) (b : ℕ) → bytes ≡ b ∷ after → is_mark b ≡ false → (b == 34) ≡ false → is_word_byte b ≡ true
    → Splits bytes front rest → said ≡ front → front_at bytes ≡ of_word said (length bytes) rest
word_front bytes after front rest said b e mark quote is s same =
    let parts = split_word bytes front rest s in
    let here : front_at (b ∷ after) ≡ of_word (word_of (b ∷ after)) (suc (length after)) (after_word (b ∷ after)) =
    third (is_mark b) (b == 34) (is_word_byte b) _ _ _ _ mark quote is in
    ap front_at e ∙ here ∙ ap (λ bs. of_word (word_of bs) (length bs) (after_word bs)) (sym e)
    ∙ ap (λ w. of_word w (length bytes) (after_word bytes)) (parts.0 ∙ sym same) ∙ ap (λ r. of_word said (length bytes) r) parts.1
