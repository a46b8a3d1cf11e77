-- What the elements of a text are.
use Rattle.std.proofs.Common.{◌≡◌, ℕ, List, [], ◌∷◌, ◌++◌, Bool, true, false, refl, sym, ap, ◌∙◌}
use Rattle.std.specs.Prelude.{◌==◌, ◌&&◌, ◌||◌, not}
use Rattle.planus_syntax.specs.Tokens.{Piece, word, number, text, doc, mark, begins, is_line_byte, is_lawful}
use Rattle.planus_syntax.specs.Layout.{is_doc}
use Rattle.planus_syntax.specs.Spelled.{Part, token, blank, comment, block, goes_on, spelled, tokens_in, AreParts, is_part, stays_open}
use Rattle.planus_syntax.specs.Comments.{Element, piece, line_comment, block_comment, trimmed, is_apart, has_empty_line, elements_in, elements_of, comments_in}
use Rattle.planus_syntax.proofs.Trimmed.{trimmed_again, trimmed_part}

abbrev pub implies : Bool → Bool → Bool
implies a b = not (a && not b)

abbrev pub is_more : List Element → Bool
is_more [] = false
is_more (e ∷ es) = true

-- The elements of some text: after documentation, a comment to the end of its line and an empty
-- line the next comment begins its line, as does the first.
abbrev pub AreElements : Bool → List Element → Type 0
AreElements due [] = Unit {0}
AreElements due (piece p ∷ es) = (is_lawful p ≡ true) × AreElements (is_doc p) es
AreElements due (line_comment starts apart w ∷ es) = (implies due starts ≡ true)
    × (is_part (comment w) ≡ true) × (trimmed w ≡ w)
    × (implies apart (starts && is_more es) ≡ true) × AreElements true es
AreElements due (block_comment starts apart w ∷ es) = (implies due starts ≡ true)
    × (stays_open w ≡ true) × (implies apart (starts && is_more es) ≡ true) × AreElements apart es

abbrev pieces_among : List Element → List Piece
pieces_among [] = []
pieces_among (piece p ∷ es) = p ∷ pieces_among es
pieces_among (line_comment starts apart w ∷ es) = pieces_among es
pieces_among (block_comment starts apart w ∷ es) = pieces_among es

pub elements_pieces : (begun : Bool) (ps : List Part) → pieces_among (elements_in begun ps) ≡ tokens_in ps
elements_pieces begun [] = refl
elements_pieces begun (token p ∷ ps) = ap (λ qs. p ∷ qs) (elements_pieces false ps)
elements_pieces begun (blank b ∷ ps) = elements_pieces (begun || b == 10) ps
elements_pieces begun (comment w ∷ ps) = elements_pieces false ps
elements_pieces begun (block w ∷ ps) = elements_pieces false ps

abbrev comments_among : List Element → List (List ℕ)
comments_among [] = []
comments_among (piece p ∷ es) = comments_among es
comments_among (line_comment starts apart w ∷ es) = (47 ∷ 47 ∷ w) ∷ comments_among es
comments_among (block_comment starts apart w ∷ es) = (47 ∷ 42 ∷ (w ++ 42 ∷ 47 ∷ [])) ∷ comments_among es

elements_comments : (begun : Bool) (ps : List Part) → comments_among (elements_in begun ps) ≡ comments_in ps
elements_comments begun [] = refl
elements_comments begun (token p ∷ ps) = elements_comments false ps
elements_comments begun (blank b ∷ ps) = elements_comments (begun || b == 10) ps
elements_comments begun (comment w ∷ ps) = ap (λ cs. (47 ∷ 47 ∷ trimmed w) ∷ cs) (elements_comments false ps)
elements_comments begun (block w ∷ ps) = ap (λ cs. (47 ∷ 42 ∷ (w ++ 42 ∷ 47 ∷ [])) ∷ cs) (elements_comments false ps)

-- parts with the same elements have the same tokens and the same comments
pub same_tokens : (a b : List Part) → elements_of a ≡ elements_of b → tokens_in a ≡ tokens_in b
same_tokens a b e = sym (elements_pieces true a) ∙ ap pieces_among e ∙ elements_pieces true b

pub same_comments : (a b : List Part) → elements_of a ≡ elements_of b → comments_in a ≡ comments_in b
same_comments a b e = sym (elements_comments true a) ∙ ap comments_among e ∙ elements_comments true b

-- a line feed comes before the next comment
abbrev feeds : List Part → Bool
feeds [] = true
feeds (token p ∷ ps) = true
feeds (blank b ∷ ps) = b == 10 || feeds ps
feeds (comment w ∷ ps) = false
feeds (block w ∷ ps) = false

abbrev Waits : Bool → Bool → List Part → Type 0
Waits due begun ps = (due && not begun) ≡ true → feeds ps ≡ true

feed_first : (v more : Bool) → not v ≡ false → (v || more) ≡ true
feed_first true more h = refl
feed_first false more h = absurd cc

-- what ends a line is before a line feed
stops_feeds : (ps : List Part) → begins is_line_byte (spelled ps) ≡ false → feeds ps ≡ true
stops_feeds [] s = refl
stops_feeds (token p ∷ ps) s = refl
stops_feeds (blank b ∷ ps) s = feed_first (b == 10) (feeds ps) s
stops_feeds (comment w ∷ ps) s = absurd cc
stops_feeds (block w ∷ ps) s = absurd cc

apart_feeds_at : (v : Bool) (ps : List Part) → (has_empty_line ps ≡ true → feeds ps ≡ true) → is_apart (false || v) (false || (false && v)) ps ≡ true → (v || feeds ps) ≡ true
apart_feeds_at true ps again h = refl
apart_feeds_at false ps again h = again h

-- so is an empty line
apart_feeds : (ps : List Part) → has_empty_line ps ≡ true → feeds ps ≡ true
apart_feeds [] h = refl
apart_feeds (token p ∷ ps) h = refl
apart_feeds (blank b ∷ ps) h = apart_feeds_at (b == 10) ps (apart_feeds ps) h
apart_feeds (comment w ∷ ps) h = absurd cc
apart_feeds (block w ∷ ps) h = absurd cc

-- an empty line is before an element
apart_more : (one two begun : Bool) (ps : List Part) → is_apart one two ps ≡ true → is_more (elements_in begun ps) ≡ true
apart_more one two begun [] h = absurd cc
apart_more one two begun (token p ∷ ps) h = refl
apart_more one two begun (blank b ∷ ps) h = apart_more (one || b == 10) (two || (one && b == 10)) (begun || b == 10) ps h
apart_more one two begun (comment w ∷ ps) h = refl
apart_more one two begun (block w ∷ ps) h = refl

implied : (a b : Bool) → (a ≡ true → b ≡ true) → implies a b ≡ true
implied true true h = refl
implied true false h = h refl
implied false b h = refl

with_begun : (begun a b : Bool) → (a ≡ true → b ≡ true) → implies (begun && a) (begun && b) ≡ true
with_begun true a b h = implied a b h
with_begun false a b h = refl

apart_is : (begun : Bool) (ps : List Part) → implies (begun && has_empty_line ps) (begun && is_more (elements_in false ps)) ≡ true
apart_is begun ps = with_begun begun (has_empty_line ps) (is_more (elements_in false ps)) (apart_more false false false ps)

waits_no_more : (due begun : Bool) → ((due && not begun) ≡ true → false ≡ true) → implies due begun ≡ true
waits_no_more true true h = refl
waits_no_more true false h = h refl
waits_no_more false begun h = refl

doc_waits : (p : Piece) (ps : List Part) → begins (goes_on (token p)) (spelled ps) ≡ false → Waits (is_doc p) false ps
doc_waits (word w) ps s = λ h. absurd cc
doc_waits (number w) ps s = λ h. absurd cc
doc_waits (text w) ps s = λ h. absurd cc
doc_waits (doc w) ps s = λ h. stops_feeds ps s
doc_waits (mark b) ps s = λ h. absurd cc

blank_waits : (due begun v more : Bool) → ((due && not begun) ≡ true → (v || more) ≡ true) → (due && not (begun || v)) ≡ true → more ≡ true
blank_waits true true v more d h = absurd cc
blank_waits true false true more d h = absurd cc
blank_waits true false false more d h = d refl
blank_waits false begun v more d h = absurd cc

apart_waits : (begun : Bool) (ps : List Part) → Waits (begun && has_empty_line ps) false ps
apart_waits begun ps h = apart_feeds ps (second begun (has_empty_line ps) h)
  where
    second : (a b : Bool) → ((a && b) && true) ≡ true → b ≡ true
    second true true h = refl
    second true false h = h
    second false b h = absurd cc

elements_are_at : (due begun : Bool) (ps : List Part) → AreParts ps → Waits due begun ps → AreElements due (elements_in begun ps)
elements_are_at due begun [] a d = tt
elements_are_at due begun (token p ∷ ps) a d = (a.0, elements_are_at (is_doc p) false ps a.2 (doc_waits p ps a.1))
elements_are_at due begun (blank b ∷ ps) a d =
    elements_are_at due (begun || b == 10) ps a.2 (blank_waits due begun (b == 10) (feeds ps) d)
elements_are_at due begun (comment w ∷ ps) a d = (
  waits_no_more due begun d,
  trimmed_part w a.0,
  trimmed_again w,
  apart_is begun ps,
  elements_are_at true false ps a.2 (λ h. stops_feeds ps a.1),
)
elements_are_at due begun (block w ∷ ps) a d = (
  waits_no_more due begun d,
  a.0,
  apart_is begun ps,
  elements_are_at (begun && has_empty_line ps) false ps a.2 (apart_waits begun ps),
)

pub elements_are : (ps : List Part) → AreParts ps → AreElements true (elements_of ps)
elements_are ps a = elements_are_at true true ps a (λ h. absurd cc)
