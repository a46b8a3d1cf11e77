-- The canonical layout is a spelling.
use Rattle.std.proofs.Common.{◌≡◌, ℕ, List, [], ◌∷◌, ◌++◌, Bool, true, false, cond, refl, sym, ap, ◌∙◌, subst}
use Rattle.std.specs.Prelude.{fold, not, ◌==◌, ◌||◌, ◌&&◌, codes}
use Rattle.std.specs.List.{list_all, AllByRecursion}
use Rattle.std.specs.Char.{is_ascii_digit}
use Rattle.std.specs.Str.{is_utf8}
use Rattle.std.proofs.lemmas.Bool.{eqb-true}
use Rattle.planus_syntax.specs.declared.layout.Place.{Place}
use Rattle.planus_syntax.specs.Tokens.{Piece, word, number, text, doc, mark, begins, is_word_byte, is_number_start, is_number_byte, is_line_byte, is_blank, is_mark, is_lawful, bytes_of}
use Rattle.planus_syntax.specs.Layout.{is_doc, is_mark_of, place_after, outside, is_tight, is_number_piece, is_glued, is_count_piece, is_grouped, new_line, between_declarations, after_mark, spaced, apart, gap, gap_before, laid_out, printed}
use Rattle.planus_syntax.specs.Strings.{start, is_quote, is_string, is_closed, string_step}
use Rattle.planus_syntax.specs.Spelled.{Part, token, blank, goes_on, spelled, tokens_in, AreParts}
use Rattle.planus_syntax.proofs.Marks.{one_of, never, neither, not_true}
use Rattle.planus_syntax.proofs.Quotes.{of_quotes}

unfoldable pub blanks : List ℕ → List Part → List Part
blanks [] ps = ps
blanks (b ∷ bs) ps = blank b ∷ blanks bs ps

pub blanks_spelled : (bs : List ℕ) (ps : List Part) → spelled (blanks bs ps) ≡ bs ++ spelled ps
unfolding blanks
blanks_spelled [] ps = refl
blanks_spelled (b ∷ bs) ps = ap (λ r. b ∷ r) (blanks_spelled bs ps)

blanks_tokens : (bs : List ℕ) (ps : List Part) → tokens_in (blanks bs ps) ≡ tokens_in ps
unfolding blanks
blanks_tokens [] ps = refl
blanks_tokens (b ∷ bs) ps = blanks_tokens bs ps

both : (a b : Bool) → (a && b) ≡ true → (a ≡ true) × (b ≡ true)
both true b h = (refl, h)
both false b h = absurd cc

pub blanks_are : (bs : List ℕ) (ps : List Part) → list_all is_blank bs ≡ true → AreParts ps → AreParts (blanks bs ps)
unfolding blanks
blanks_are [] ps h a = a
blanks_are (b ∷ bs) ps h a =
    let k = both (is_blank b) (list_all is_blank bs) h in
    (k.0, never (spelled (blanks bs ps)), blanks_are bs ps k.1 a)

abbrev pub IsBlank : List ℕ → Type 0
IsBlank bs = list_all is_blank bs ≡ true

pub either : (P : List ℕ → Type 0) (c : Bool) (x y : List ℕ) → P x → P y → P (cond c x y)
either P true x y p q = p
either P false x y p q = q

pub line_blank : (p : Place) (q : Piece) → IsBlank (new_line p q)
line_blank p q = either IsBlank (p.braces && not (is_mark_of 125 q)) (codes "\n  ") (codes "\n") refl refl

spaced_blank : (q : Piece) → IsBlank (spaced q)
spaced_blank q = either IsBlank (is_mark_of 125 q) (codes "\n") _ refl (either IsBlank (is_doc q) (codes "\n  ") (codes " ") refl refl)

between_blank : (q : Piece) → IsBlank (between_declarations q)
between_blank q = either IsBlank (is_grouped q) (codes "\n") (codes "\n\n") refl refl

mark_blank : (p : Place) (b : ℕ) (q : Piece) → IsBlank (after_mark p b q)
mark_blank p b q =
    either IsBlank (b == 125) (codes "\n\n") _ refl
    (either IsBlank (b == 59) _ _ (either IsBlank p.braces (new_line p q) (between_declarations q) (line_blank p q) (between_blank q))
    (either IsBlank (b == 123 || (b == 44 && not p.parentheses)) (new_line p q) (spaced q) (line_blank p q) (spaced_blank q)))

apart_blank : (p : Place) (a q : Piece) → IsBlank (apart p a q)
apart_blank p (word w) q = spaced_blank q
apart_blank p (number w) q = spaced_blank q
apart_blank p (text w) q = spaced_blank q
apart_blank p (doc w) q = line_blank p q
apart_blank p (mark b) q = mark_blank p b q

pub gap_blank : (p : Place) (a : Piece) (qs : List Piece) → IsBlank (gap_before p a qs)
gap_blank p a [] = refl
gap_blank p a (q ∷ qs) = either IsBlank (is_count_piece p a q || is_glued a q) [] (apart p a q) refl (apart_blank p a q)

abbrev pub Stops : (ℕ → Bool) → List ℕ → Type 0
Stops p bs = begins p bs ≡ false

word_tight : (b : ℕ) → is_tight b ≡ true → is_word_byte b ≡ false
word_tight b h = one_of (λ x. is_word_byte x ≡ false) (codes ":;,)]") b (refl, (refl, (refl, (refl, (refl, tt))))) h

number_tight : (b : ℕ) → is_tight b ≡ true → is_number_byte b ≡ false
number_tight b h = one_of (λ x. is_number_byte x ≡ false) (codes ":;,)]") b (refl, (refl, (refl, (refl, (refl, tt))))) h

tight_or_point : (b : ℕ) (v : Bool) → is_tight b ≡ v → (v || b == 46) ≡ true → is_word_byte b ≡ false
tight_or_point b true e h = word_tight b e
tight_or_point b false e h = subst (λ x. is_word_byte x ≡ false) (sym (eqb-true b 46 h)) refl

word_glued : (w : List ℕ) (q : Piece) (rest : List ℕ) → is_glued (word w) q ≡ true → Stops is_word_byte (bytes_of q ++ rest)
word_glued w (word v) rest h = absurd cc
word_glued w (number v) rest h = absurd cc
word_glued w (text v) rest h = absurd cc
word_glued w (doc v) rest h = absurd cc
word_glued w (mark b) rest h = tight_or_point b (is_tight b) refl h

number_glued : (w : List ℕ) (q : Piece) (rest : List ℕ) → is_glued (number w) q ≡ true → Stops is_number_byte (bytes_of q ++ rest)
number_glued w (word v) rest h = absurd cc
number_glued w (number v) rest h = absurd cc
number_glued w (text v) rest h = absurd cc
number_glued w (doc v) rest h = absurd cc
number_glued w (mark b) rest h = number_tight b h

spaced_stops : (p : ℕ → Bool) (q : Piece) (rest : List ℕ) → p 32 ≡ false → p 10 ≡ false → Stops p (spaced q ++ rest)
spaced_stops p q rest h k = either (λ bs. Stops p (bs ++ rest)) (is_mark_of 125 q) (codes "\n") _ k (either (λ bs. Stops p (bs ++ rest)) (is_doc q) (codes "\n  ") (codes " ") k h)

line_stops : (place : Place) (q : Piece) (rest : List ℕ) → Stops is_line_byte (new_line place q ++ rest)
line_stops place q rest = either (λ bs. Stops is_line_byte (bs ++ rest)) (place.braces && not (is_mark_of 125 q)) (codes "\n  ") (codes "\n") refl refl

gap_cases : (p : ℕ → Bool) (c : Bool) (g rest : List ℕ) → (c ≡ true → Stops p rest) → Stops p (g ++ rest) → Stops p (cond c [] g ++ rest)
gap_cases p true g rest h k = h refl
gap_cases p false g rest h k = k

digit_mark : (b : ℕ) → is_mark b ≡ true → is_ascii_digit b ≡ false
digit_mark b h = one_of (λ x. is_ascii_digit x ≡ false) (codes "{}()[]:;,=.") b (refl, (refl, (refl, (refl, (refl, (refl, (refl, (refl, (refl, (refl, (refl, tt))))))))))) h

word_digit : (w rest : List ℕ) → is_lawful (word w) ≡ true → Stops is_ascii_digit (w ++ rest)
word_digit [] rest h = absurd cc
word_digit (c ∷ w) rest h =
    let a = both (list_all is_word_byte (c ∷ w)) (not (is_number_start c)) h in
    (neither (is_ascii_digit c) (c == 43 || c == 45) (not_true (is_number_start c) a.1)).0

text_digit : (w rest : List ℕ) → is_lawful (text w) ≡ true → Stops is_ascii_digit (w ++ rest)
text_digit [] rest h = absurd cc
text_digit (q ∷ w) rest h =
    let a = both (is_string (q ∷ w)) (is_utf8 (q ∷ w)) h in
    let b = both (is_quote q) (is_closed (fold (string_step q) start w)) a.0 in
    of_quotes (λ x. is_ascii_digit x ≡ false) q b.0 refl refl

no_digit_first : (q : Piece) (rest : List ℕ) → is_lawful q ≡ true → is_number_piece q ≡ false → Stops is_ascii_digit (bytes_of q ++ rest)
no_digit_first (word w) rest h n = word_digit w rest h
no_digit_first (number w) rest h n = absurd cc
no_digit_first (text w) rest h n = text_digit w rest h
no_digit_first (doc w) rest h n = refl
no_digit_first (mark b) rest h n = digit_mark b h

-- what a point is glued to is no number
glued_number : (p : Place) (m : ℕ) (q : Piece) → (m == 46) ≡ true → (is_count_piece p (mark m) q || is_glued (mark m) q) ≡ true → is_number_piece q ≡ false
glued_number p m (word w) e g = refl
glued_number p m (number w) e g = absurd (subst (λ b. (is_count_piece p (mark b) (number w) || is_glued (mark b) (number w)) ≡ true → ⊥) (sym (eqb-true m 46 e)) (λ h. cc) g)
glued_number p m (text w) e g = refl
glued_number p m (doc w) e g = refl
glued_number p m (mark b) e g = refl

point_at : (m : ℕ) (v : Bool) (bs : List ℕ) → (m == 46) ≡ v → (v ≡ true → Stops is_ascii_digit bs) → Stops (λ b. m == 46 && is_ascii_digit b) bs
point_at m v [] e h = refl
point_at m true (b ∷ bs) e h = ap (λ x. x && is_ascii_digit b) e ∙ h refl
point_at m false (b ∷ bs) e h = ap (λ x. x && is_ascii_digit b) e

mark_stops : (p : Place) (b : ℕ) (q : Piece) (rest : List ℕ) → Stops is_ascii_digit (after_mark p b q ++ rest)
mark_stops p b q rest =
    let P : List ℕ → Type 0 = λ bs. Stops is_ascii_digit (bs ++ rest) in
    let line : P (new_line p q) = either P (p.braces && not (is_mark_of 125 q)) (codes "\n  ") (codes "\n") refl refl in
    either P (b == 125) (codes "\n\n") _ refl
    (either P (b == 59) _ _ (either P p.braces (new_line p q) (between_declarations q) line (either P (is_grouped q) (codes "\n") (codes "\n\n") refl refl))
    (either P (b == 123 || (b == 44 && not p.parentheses)) (new_line p q) (spaced q) line (either P (is_mark_of 125 q) (codes "\n") _ refl (either P (is_doc q) (codes "\n  ") (codes " ") refl refl))))

-- what begins after a token's gap does not lengthen it
pub one_stops : (place : Place) (a q : Piece) (rest : List ℕ) → is_lawful q ≡ true → Stops (goes_on (token a)) (gap place a q ++ (bytes_of q ++ rest))
one_stops place (word w) q rest l =
    gap_cases is_word_byte (is_glued (word w) q) (spaced q) (bytes_of q ++ rest) (word_glued w q rest) (spaced_stops is_word_byte q (bytes_of q ++ rest) refl refl)
one_stops place (number w) q rest l =
    gap_cases is_number_byte (is_glued (number w) q) (spaced q) (bytes_of q ++ rest) (number_glued w q rest) (spaced_stops is_number_byte q (bytes_of q ++ rest) refl refl)
one_stops place (text w) q rest l = never (gap place (text w) q ++ (bytes_of q ++ rest))
one_stops place (doc w) q rest l = line_stops place q (bytes_of q ++ rest)
one_stops place (mark m) q rest l =
    point_at m (m == 46) (gap place (mark m) q ++ (bytes_of q ++ rest)) refl (λ e.
    gap_cases is_ascii_digit (is_count_piece place (mark m) q || is_glued (mark m) q) (apart place (mark m) q) (bytes_of q ++ rest)
    (λ g. no_digit_first q rest l (glued_number place m q e g)) (mark_stops place m q (bytes_of q ++ rest)))

-- nor does a line feed
pub feed_stops : (a : Piece) (rest : List ℕ) → Stops (goes_on (token a)) (10 ∷ rest)
feed_stops (word w) rest = refl
feed_stops (number w) rest = refl
feed_stops (text w) rest = refl
feed_stops (doc w) rest = refl
feed_stops (mark m) rest = point_at m (m == 46) (10 ∷ rest) refl (λ e. refl)

-- nor a space, but for documentation
pub space_stops : (a : Piece) (rest : List ℕ) → is_doc a ≡ false → Stops (goes_on (token a)) (32 ∷ rest)
space_stops (word w) rest h = refl
space_stops (number w) rest h = refl
space_stops (text w) rest h = refl
space_stops (doc w) rest h = absurd cc
space_stops (mark m) rest h = point_at m (m == 46) (32 ∷ rest) refl (λ e. refl)

gap_stops : (place : Place) (a : Piece) (qs : List Piece) → AllByRecursion (λ q. is_lawful q ≡ true) qs → Stops (goes_on (token a)) (gap_before place a qs ++ laid_out place qs)
gap_stops place a [] l = feed_stops a []
gap_stops place a (q ∷ qs) l = one_stops place a q _ l.0

parts_of : Place → List Piece → List Part
parts_of p [] = []
parts_of p (a ∷ qs) = token a ∷ blanks (gap_before (place_after p a) a qs) (parts_of (place_after p a) qs)

parts_spelled : (p : Place) (ps : List Piece) → laid_out p ps ≡ spelled (parts_of p ps)
unfolding parts_of
parts_spelled p [] = refl
parts_spelled p (a ∷ qs) =
    let next = place_after p a in
    ap (λ r. bytes_of a ++ (gap_before next a qs ++ r)) (parts_spelled next qs)
    ∙ ap (λ r. bytes_of a ++ r) (sym (blanks_spelled (gap_before next a qs) (parts_of next qs)))

parts_tokens : (p : Place) (ps : List Piece) → ps ≡ tokens_in (parts_of p ps)
unfolding parts_of
parts_tokens p [] = refl
parts_tokens p (a ∷ qs) =
    let next = place_after p a in
    ap (λ r. a ∷ r) (parts_tokens next qs ∙ sym (blanks_tokens (gap_before next a qs) (parts_of next qs)))

parts_are : (p : Place) (ps : List Piece) → AllByRecursion (λ q. is_lawful q ≡ true) ps → AreParts (parts_of p ps)
unfolding parts_of
parts_are p [] h = tt
parts_are p (a ∷ qs) h =
    let next = place_after p a in
    let g = gap_before next a qs in
    let e : g ++ laid_out next qs ≡ spelled (blanks g (parts_of next qs)) = ap (λ r. g ++ r) (parts_spelled next qs) ∙ sym (blanks_spelled g (parts_of next qs)) in
    (h.0, subst (λ r. begins (goes_on (token a)) r ≡ false) e (gap_stops next a qs h.1), blanks_are g (parts_of next qs) (gap_blank next a qs) (parts_are next qs h.1))

pub layout_spells : (ps : List Piece) → AllByRecursion (λ p. is_lawful p ≡ true) ps → (parts : List Part) × AreParts parts × (printed ps ≡ spelled parts) × (ps ≡ tokens_in parts)
layout_spells ps h = (parts_of outside ps, parts_are outside ps h, parts_spelled outside ps, parts_tokens outside ps)
