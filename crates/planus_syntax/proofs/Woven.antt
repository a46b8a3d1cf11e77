-- The canonical text of elements has these elements.
use Rattle.std.proofs.Common.{◌≡◌, ℕ, List, [], ◌∷◌, ◌++◌, drop, Bool, true, false, cond, refl, sym, ap, ◌∙◌, subst}
use Rattle.std.specs.Prelude.{◌==◌, ◌&&◌, ◌||◌, not, codes, Option, Some, None}
use Rattle.std.specs.List.{AllByRecursion}
use Rattle.std.proofs.lemmas.List.{append-nil}
use Rattle.planus_syntax.specs.declared.layout.Place.{Place}
use Rattle.planus_syntax.specs.Tokens.{Piece, word, number, text, doc, mark, bytes_of, is_lawful, is_line_byte}
use Rattle.planus_syntax.specs.Layout.{is_doc, is_mark_of, place_after, outside, gap_before, laid_out, printed}
use Rattle.planus_syntax.specs.Spelled.{Part, token, blank, comment, block, part_bytes, goes_on, spelled, tokens_in, AreParts}
use Rattle.planus_syntax.specs.Comments.{Element, piece, line_comment, block_comment, trimmed, is_apart, has_empty_line, elements_in, elements_of, comments_in}
use Rattle.planus_syntax.specs.Comments.{next_piece, gap_to, line_to, empty_to, comment_line, empty_line, before_comment, breaks, after_line, after_block, woven, canonical_after_feed, canonical}
use Rattle.planus_syntax.proofs.Marks.{never}
use Rattle.planus_syntax.proofs.Laid.{blanks, blanks_spelled, blanks_are, IsBlank, gap_blank, either, Stops, one_stops, feed_stops, space_stops}
use Rattle.planus_syntax.proofs.Elements.{implies, is_more, AreElements, elements_are}

-- ---- parts that spell the text

parts_woven : Place → List ℕ → List ℕ → Bool → List Element → List Part
parts_woven p g line empty [] = blanks g []
parts_woven p g line empty (piece q ∷ es) =
    let next = place_after p q in
    let after = next_piece es in
    blanks g (token q ∷ parts_woven next (gap_to next q after) (line_to next after) (empty_to next q after) es)
parts_woven p g line empty (line_comment starts apart w ∷ es) =
    blanks (before_comment starts p empty) (comment w
    ∷ blanks (empty_line apart) (parts_woven p (after_line starts g line) line (not starts && empty) es))
parts_woven p g line empty (block_comment starts apart w ∷ es) =
    blanks (before_comment starts p empty) (block w
    ∷ blanks (empty_line apart) (parts_woven p (after_block starts g line) line (not starts && empty) es))

-- blanks, a part, blanks and what follows
around : (bs cs : List ℕ) (x : Part) (ps : List Part) (more : List ℕ) → more ≡ spelled ps → bs ++ (part_bytes x ++ (cs ++ more)) ≡ spelled (blanks bs (x ∷ blanks cs ps))
around bs cs x ps more e =
    ap (λ r. bs ++ (part_bytes x ++ (cs ++ r))) e
    ∙ ap (λ r. bs ++ (part_bytes x ++ r)) (sym (blanks_spelled cs ps))
    ∙ sym (blanks_spelled bs (x ∷ blanks cs ps))

woven_spelled : (p : Place) (g line : List ℕ) (empty : Bool) (es : List Element) → woven p g line empty es ≡ spelled (parts_woven p g line empty es)
unfolding parts_woven
woven_spelled p g line empty [] = sym (blanks_spelled g [] ∙ append-nil g)
woven_spelled p g line empty (piece q ∷ es) =
    let next = place_after p q in
    let h = gap_to next q (next_piece es) in
    let l = line_to next (next_piece es) in
    let e = empty_to next q (next_piece es) in
    ap (λ r. g ++ (bytes_of q ++ r)) (woven_spelled next h l e es)
    ∙ sym (blanks_spelled g (token q ∷ parts_woven next h l e es))
woven_spelled p g line empty (line_comment starts apart w ∷ es) =
    let x = after_line starts g line in
    let e = not starts && empty in
    around (before_comment starts p empty) (empty_line apart) (comment w)
    (parts_woven p x line e es) (woven p x line e es) (woven_spelled p x line e es)
woven_spelled p g line empty (block_comment starts apart w ∷ es) =
    let x = after_block starts g line in
    let e = not starts && empty in
    around (before_comment starts p empty) (empty_line apart) (block w)
    (parts_woven p x line e es) (woven p x line e es) (woven_spelled p x line e es)

-- ---- they have the elements

begun_after : Bool → List ℕ → Bool
begun_after begun [] = begun
begun_after begun (b ∷ bs) = begun_after (begun || b == 10) bs

blanks_elements : (begun : Bool) (bs : List ℕ) (ps : List Part) → elements_in begun (blanks bs ps) ≡ elements_in (begun_after begun bs) ps
unfolding blanks begun_after
blanks_elements begun [] ps = refl
blanks_elements begun (b ∷ bs) ps = blanks_elements (begun || b == 10) bs ps

line_of_comment : (P : List ℕ → Type 0) (p : Place) (empty : Bool) → P (codes "\n\n  ") → P (codes "\n\n") → P (codes "\n  ") → P (codes "\n") → P (before_comment true p empty)
line_of_comment P p true a b c d = either (λ bs. P (codes "\n" ++ bs)) p.braces (codes "\n  ") (codes "\n") a b
line_of_comment P p false a b c d = either P p.braces (codes "\n  ") (codes "\n") c d

before_begun : (begun starts : Bool) (p : Place) (empty : Bool) → implies begun starts ≡ true → begun_after begun (before_comment starts p empty) ≡ starts
unfolding begun_after
before_begun true true p empty h = line_of_comment (λ bs. begun_after true bs ≡ true) p empty refl refl refl refl
before_begun false true p empty h = line_of_comment (λ bs. begun_after false bs ≡ true) p empty refl refl refl refl
before_begun true false p empty h = absurd cc
before_begun false false p empty h = refl

-- an empty line is after one line feed or two, and these blanks
two_after : Bool → Bool → List ℕ → Bool
two_after one two [] = two
two_after one two (b ∷ bs) = two_after (one || b == 10) (two || (one && b == 10)) bs

at_end : (one two : Bool) (bs : List ℕ) → is_apart one two (blanks bs []) ≡ false
unfolding blanks
at_end one two [] = refl
at_end one two (b ∷ bs) = at_end (one || b == 10) (two || (one && b == 10)) bs

at_part : (one two : Bool) (bs : List ℕ) (x : Part) (ps : List Part) → ((one two : Bool) → is_apart one two (x ∷ ps) ≡ two) → is_apart one two (blanks bs (x ∷ ps)) ≡ two_after one two bs
unfolding blanks two_after
at_part one two [] x ps h = h one two
at_part one two (b ∷ bs) x ps h = at_part (one || b == 10) (two || (one && b == 10)) bs x ps h

-- a line feed, and no second
pub record IsLine (line : List ℕ) : Type 0 where
  blank : IsBlank line
  breaks : breaks line ≡ true
  alone : two_after false false line ≡ false
  second : two_after true false line ≡ true

feed_line : IsLine (codes "\n")
unfolding two_after
feed_line = record { blank = refl; breaks = refl; alone = refl; second = refl }

field_line : IsLine (codes "\n  ")
unfolding two_after
field_line = record { blank = refl; breaks = refl; alone = refl; second = refl }

choose : (c : Bool) → IsLine (cond c (codes "\n  ") (codes "\n"))
choose true = field_line
choose false = feed_line

line_to_is : (p : Place) (q : Option Piece) → IsLine (line_to p q)
line_to_is p None = feed_line
line_to_is p (Some q) = choose (p.braces && not (is_mark_of 125 q))

two_by : (apart : Bool) (line : List ℕ) → IsLine line → two_after apart false line ≡ apart
two_by true line h = h.second
two_by false line h = h.alone

must : (b : Bool) → implies true b ≡ true → b ≡ true
must true h = refl
must false h = absurd cc

must_not : (a b : Bool) → implies a b ≡ true → b ≡ false → a ≡ false
must_not true b h e = absurd (let f = must b h in cc)
must_not false b h e = refl

space_alone : two_after false false (codes " ") ≡ false
unfolding two_after
space_alone = refl

not_due : (due : Bool) → due ≡ true → implies due false ≡ true → ⊥
not_due true e h = cc
not_due false e h = cc

comment_two : (apart due starts : Bool) (p : Place) → (apart ≡ true → due ≡ true) → implies due starts ≡ true → two_after apart false (before_comment starts p false) ≡ apart
comment_two apart due true p d h = two_by apart (comment_line p) (choose p.braces)
comment_two true due false p d h = absurd (not_due due (d refl) h)
comment_two false due false p d h = space_alone

-- after a comment that begins its line, and one line feed if its empty line is due
two_in : (apart due : Bool) (p : Place) (line : List ℕ) (es : List Element) → (apart ≡ true → due ≡ true) → AreElements due es → implies apart (is_more es) ≡ true → IsLine line
    → is_apart apart false (parts_woven p line line false es) ≡ apart
unfolding parts_woven
two_in apart due p line [] d h m l = at_end apart false line ∙ sym (must_not apart false m refl)
two_in apart due p line (piece q ∷ es) d h m l = at_part apart false line (token q) _ (λ one two. refl) ∙ two_by apart line l
two_in apart due p line (line_comment starts a w ∷ es) d h m l =
    at_part apart false (before_comment starts p false) (comment w) _ (λ one two. refl) ∙ comment_two apart due starts p d h.0
two_in apart due p line (block_comment starts a w ∷ es) d h m l =
    at_part apart false (before_comment starts p false) (block w) _ (λ one two. refl) ∙ comment_two apart due starts p d h.0

blanks_apart : (apart : Bool) (ps : List Part) → has_empty_line (blanks (empty_line apart) ps) ≡ is_apart apart false ps
unfolding blanks
blanks_apart true ps = refl
blanks_apart false ps = refl

line_apart : (starts apart : Bool) (p : Place) (g line : List ℕ) (empty : Bool) (es : List Element) → AreElements true es → implies apart (starts && is_more es) ≡ true → IsLine line
    → (starts && has_empty_line (blanks (empty_line apart) (parts_woven p (after_line starts g line) line (not starts && empty) es))) ≡ apart
line_apart true apart p g line empty es h m l = blanks_apart apart _ ∙ two_in apart true p line es (λ e. refl) h m l
line_apart false apart p g line empty es h m l = sym (must_not apart false m refl)

block_apart : (starts apart : Bool) (p : Place) (g line : List ℕ) (empty : Bool) (es : List Element) → AreElements apart es → implies apart (starts && is_more es) ≡ true → IsLine line
    → (starts && has_empty_line (blanks (empty_line apart) (parts_woven p (after_block starts g line) line (not starts && empty) es))) ≡ apart
block_apart true apart p g line empty es h m l = blanks_apart apart _ ∙ two_in apart apart p line es (λ e. e) h m l
block_apart false apart p g line empty es h m l = sym (must_not apart false m refl)

empty_begun : (apart : Bool) → begun_after false (empty_line apart) ≡ apart
unfolding begun_after
empty_begun true = refl
empty_begun false = refl

begins_due : (begun due starts : Bool) → (begun ≡ true → due ≡ true) → implies due starts ≡ true → implies begun starts ≡ true
begins_due true due starts d h = ap (λ v. implies v starts) (sym (d refl)) ∙ h
begins_due false due starts d h = refl

woven_elements : (begun due : Bool) (p : Place) (g line : List ℕ) (empty : Bool) (es : List Element) → (begun ≡ true → due ≡ true) → AreElements due es → IsLine line
    → elements_in begun (parts_woven p g line empty es) ≡ es
unfolding parts_woven
woven_elements begun due p g line empty [] d h l = blanks_elements begun g []
woven_elements begun due p g line empty (piece q ∷ es) d h l =
    let next = place_after p q in
    let after = next_piece es in
    let x = gap_to next q after in
    let y = line_to next after in
    let z = empty_to next q after in
    blanks_elements begun g (token q ∷ parts_woven next x y z es)
    ∙ ap (λ xs. piece q ∷ xs) (woven_elements false (is_doc q) next x y z es (λ e. absurd cc) h.1 (line_to_is next after))
woven_elements begun due p g line empty (line_comment starts apart w ∷ es) d h l =
    let x = after_line starts g line in
    let z = not starts && empty in
    let ps = blanks (empty_line apart) (parts_woven p x line z es) in
    blanks_elements begun (before_comment starts p empty) (comment w ∷ ps)
    ∙ ap (λ v. line_comment v (v && has_empty_line ps) (trimmed w) ∷ elements_in false ps) (before_begun begun starts p empty (begins_due begun due starts d h.0))
    ∙ ap (λ v. line_comment starts v (trimmed w) ∷ elements_in false ps) (line_apart starts apart p g line empty es h.4 h.3 l)
    ∙ ap (λ v. line_comment starts apart v ∷ elements_in false ps) h.2
    ∙ ap (λ xs. line_comment starts apart w ∷ xs) (blanks_elements false (empty_line apart) (parts_woven p x line z es)
    ∙ ap (λ v. elements_in v (parts_woven p x line z es)) (empty_begun apart)
    ∙ woven_elements apart true p x line z es (λ e. refl) h.4 l)
woven_elements begun due p g line empty (block_comment starts apart w ∷ es) d h l =
    let x = after_block starts g line in
    let z = not starts && empty in
    let ps = blanks (empty_line apart) (parts_woven p x line z es) in
    blanks_elements begun (before_comment starts p empty) (block w ∷ ps)
    ∙ ap (λ v. block_comment v (v && has_empty_line ps) w ∷ elements_in false ps) (before_begun begun starts p empty (begins_due begun due starts d h.0))
    ∙ ap (λ v. block_comment starts v w ∷ elements_in false ps) (block_apart starts apart p g line empty es h.3 h.2 l)
    ∙ ap (λ xs. block_comment starts apart w ∷ xs) (blanks_elements false (empty_line apart) (parts_woven p x line z es)
    ∙ ap (λ v. elements_in v (parts_woven p x line z es)) (empty_begun apart)
    ∙ woven_elements apart apart p x line z es (λ e. e) h.3 l)

-- ---- no part lengthens the one before it

before_blank : (starts : Bool) (p : Place) (empty : Bool) → IsBlank (before_comment starts p empty)
before_blank true p empty = line_of_comment IsBlank p empty refl refl refl refl
before_blank false p empty = refl

empty_blank : (apart : Bool) → IsBlank (empty_line apart)
empty_blank true = refl
empty_blank false = refl

gap_to_blank : (p : Place) (a : Piece) (q : Option Piece) → IsBlank (gap_to p a q)
gap_to_blank p a None = refl
gap_to_blank p a (Some q) = gap_blank p a (q ∷ [])

after_line_blank : (starts : Bool) (g line : List ℕ) → IsBlank g → IsBlank line → IsBlank (after_line starts g line)
after_line_blank true g line h k = k
after_line_blank false g line h k = either IsBlank (breaks g) g line h k

after_block_blank : (starts : Bool) (g line : List ℕ) → IsBlank g → IsBlank line → IsBlank (after_block starts g line)
after_block_blank true g line h k = k
after_block_blank false g line h k = either IsBlank (breaks g) g (codes " ") h refl

one_breaks : (g line : List ℕ) (v : Bool) → breaks g ≡ v → breaks line ≡ true → breaks (cond v g line) ≡ true
one_breaks g line true e h = e
one_breaks g line false e h = h

after_line_breaks : (starts : Bool) (g line : List ℕ) → breaks line ≡ true → breaks (after_line starts g line) ≡ true
after_line_breaks true g line h = h
after_line_breaks false g line h = one_breaks g line (breaks g) refl h

breaks_stop : (bs rest : List ℕ) → breaks bs ≡ true → Stops is_line_byte (bs ++ rest)
breaks_stop [] rest h = absurd cc
breaks_stop (b ∷ bs) rest h = ap not h

-- a comment that begins its line follows a line feed
begins_stops : (f : ℕ → Bool) (p : Place) (empty : Bool) (rest : List ℕ) → f 10 ≡ false → Stops f (before_comment true p empty ++ rest)
begins_stops f p empty rest h = line_of_comment (λ bs. Stops f (bs ++ rest)) p empty h h h h

no_doc : (a : Piece) → implies (is_doc a) false ≡ true → is_doc a ≡ false
no_doc (word w) h = refl
no_doc (number w) h = refl
no_doc (text w) h = refl
no_doc (doc w) h = absurd cc
no_doc (mark b) h = refl

comment_stops : (a : Piece) (starts : Bool) (p : Place) (empty : Bool) (rest : List ℕ) → implies (is_doc a) starts ≡ true → Stops (goes_on (token a)) (before_comment starts p empty ++ rest)
comment_stops a true p empty rest h = begins_stops (goes_on (token a)) p empty rest (feed_stops a [])
comment_stops a false p empty rest h = space_stops a rest (no_doc a h)

line_comment_stops : (starts : Bool) (p : Place) (empty : Bool) (rest : List ℕ) → implies true starts ≡ true → Stops is_line_byte (before_comment starts p empty ++ rest)
line_comment_stops true p empty rest h = begins_stops is_line_byte p empty rest refl
line_comment_stops false p empty rest h = absurd cc

-- after a token
piece_stops : (p : Place) (a : Piece) (line : List ℕ) (empty : Bool) (es : List Element) → AreElements (is_doc a) es → Stops (goes_on (token a)) (woven p (gap_to p a (next_piece es)) line empty es)
piece_stops p a line empty [] h = feed_stops a []
piece_stops p a line empty (piece q ∷ es) h = one_stops p a q _ h.0
piece_stops p a line empty (line_comment starts apart w ∷ es) h = comment_stops a starts p empty _ h.0
piece_stops p a line empty (block_comment starts apart w ∷ es) h = comment_stops a starts p empty _ h.0

-- after a comment to the end of its line
line_stops : (p : Place) (g line : List ℕ) (empty : Bool) (es : List Element) → breaks g ≡ true → AreElements true es → Stops is_line_byte (woven p g line empty es)
line_stops p g line empty [] b h = subst (Stops is_line_byte) (append-nil g) (breaks_stop g [] b)
line_stops p g line empty (piece q ∷ es) b h = breaks_stop g _ b
line_stops p g line empty (line_comment starts apart w ∷ es) b h = line_comment_stops starts p empty _ h.0
line_stops p g line empty (block_comment starts apart w ∷ es) b h = line_comment_stops starts p empty _ h.0

empty_stops : (apart : Bool) (rest : List ℕ) → Stops is_line_byte rest → Stops is_line_byte (empty_line apart ++ rest)
empty_stops true rest h = refl
empty_stops false rest h = h

spelled_after : (apart : Bool) (p : Place) (g line : List ℕ) (empty : Bool) (es : List Element)
    → empty_line apart ++ woven p g line empty es ≡ spelled (blanks (empty_line apart) (parts_woven p g line empty es))
spelled_after apart p g line empty es =
    ap (λ r. empty_line apart ++ r) (woven_spelled p g line empty es)
    ∙ sym (blanks_spelled (empty_line apart) (parts_woven p g line empty es))

woven_parts : (due : Bool) (p : Place) (g line : List ℕ) (empty : Bool) (es : List Element) → AreElements due es → IsBlank g → IsLine line → AreParts (parts_woven p g line empty es)
unfolding parts_woven
woven_parts due p g line empty [] h b l = blanks_are g [] b tt
woven_parts due p g line empty (piece q ∷ es) h b l =
    let next = place_after p q in
    let after = next_piece es in
    let x = gap_to next q after in
    let y = line_to next after in
    let z = empty_to next q after in
    blanks_are g (token q ∷ parts_woven next x y z es) b (
      h.0,
      subst (Stops (goes_on (token q))) (woven_spelled next x y z es) (piece_stops next q y z es h.1),
      woven_parts (is_doc q) next x y z es h.1 (gap_to_blank next q after) (line_to_is next after),
    )
woven_parts due p g line empty (line_comment starts apart w ∷ es) h b l =
    let x = after_line starts g line in
    let z = not starts && empty in
    let ps = parts_woven p x line z es in
    blanks_are (before_comment starts p empty) (comment w ∷ blanks (empty_line apart) ps) (before_blank starts p empty) (
      h.1,
      subst (Stops is_line_byte) (spelled_after apart p x line z es)
          (empty_stops apart _ (line_stops p x line z es (after_line_breaks starts g line l.breaks) h.4)),
      blanks_are (empty_line apart) ps (empty_blank apart) (woven_parts true p x line z es h.4 (after_line_blank starts g line b l.blank) l),
    )
woven_parts due p g line empty (block_comment starts apart w ∷ es) h b l =
    let x = after_block starts g line in
    let z = not starts && empty in
    let ps = parts_woven p x line z es in
    blanks_are (before_comment starts p empty) (block w ∷ blanks (empty_line apart) ps) (before_blank starts p empty) (
      h.1,
      never (spelled (blanks (empty_line apart) ps)),
      blanks_are (empty_line apart) ps (empty_blank apart) (woven_parts apart p x line z es h.3 (after_block_blank starts g line b l.blank) l),
    )

-- ---- the whole text

abbrev pub HasElements : List ℕ → List Element → Type 0
HasElements bytes es = (parts : List Part) × AreParts parts × (bytes ≡ spelled parts) × (elements_of parts ≡ es)

after_feed : (es : List Element) (ps : List Part) → AreParts (blank 10 ∷ ps) → canonical_after_feed es ≡ 10 ∷ spelled ps → elements_in true ps ≡ es → HasElements (canonical es) es
after_feed es ps a s e = (ps, a.2, ap (drop 1) s, e)

abbrev first_feed : List Element → List Part
first_feed es = parts_woven outside (codes "\n") (codes "\n") false es

-- where the first part is a line feed
from_feed : (es : List Element) (tail : List Part) → first_feed es ≡ blank 10 ∷ tail → AreElements true es → HasElements (canonical es) es
from_feed es tail e h =
    after_feed es tail
    (subst AreParts e (woven_parts true outside (codes "\n") (codes "\n") false es h refl feed_line))
    (woven_spelled outside (codes "\n") (codes "\n") false es ∙ ap spelled e)
    (ap (elements_in false) (sym e) ∙ woven_elements false true outside (codes "\n") (codes "\n") false es (λ f. absurd cc) h feed_line)

pub canonical_has : (es : List Element) → AreElements true es → HasElements (canonical es) es
unfolding parts_woven blanks
canonical_has [] h = ([], tt, refl, refl)
canonical_has (piece q ∷ es) h = from_feed (piece q ∷ es) (drop 1 (first_feed (piece q ∷ es))) refl h
canonical_has (line_comment true apart w ∷ es) h = from_feed (line_comment true apart w ∷ es) (drop 1 (first_feed (line_comment true apart w ∷ es))) refl h
canonical_has (block_comment true apart w ∷ es) h = from_feed (block_comment true apart w ∷ es) (drop 1 (first_feed (block_comment true apart w ∷ es))) refl h
canonical_has (line_comment false apart w ∷ es) h = absurd (let f = h.0 in cc)
canonical_has (block_comment false apart w ∷ es) h = absurd (let f = h.0 in cc)

-- the canonical text of a text has the elements that the text has
pub canonical_again : (parts : List Part) → AreParts parts → HasElements (canonical (elements_of parts)) (elements_of parts)
canonical_again parts a = canonical_has (elements_of parts) (elements_are parts a)

-- ---- without comments

as_pieces : List Piece → List Element
as_pieces [] = []
as_pieces (q ∷ qs) = piece q ∷ as_pieces qs

only_pieces : (begun : Bool) (ps : List Part) → comments_in ps ≡ [] → elements_in begun ps ≡ as_pieces (tokens_in ps)
unfolding as_pieces
only_pieces begun [] e = refl
only_pieces begun (token p ∷ ps) e = ap (λ es. piece p ∷ es) (only_pieces false ps e)
only_pieces begun (blank b ∷ ps) e = only_pieces (begun || b == 10) ps e
only_pieces begun (comment w ∷ ps) e = absurd cc
only_pieces begun (block w ∷ ps) e = absurd cc

next_gap : (p : Place) (a : Piece) (qs : List Piece) → gap_to p a (next_piece (as_pieces qs)) ≡ gap_before p a qs
unfolding as_pieces
next_gap p a [] = refl
next_gap p a (q ∷ qs) = refl

woven_laid : (p : Place) (g line : List ℕ) (empty : Bool) (qs : List Piece) → woven p g line empty (as_pieces qs) ≡ g ++ laid_out p qs
unfolding as_pieces
woven_laid p g line empty [] = sym (append-nil g)
woven_laid p g line empty (q ∷ qs) =
    let next = place_after p q in
    let after = next_piece (as_pieces qs) in
    ap (λ r. g ++ (bytes_of q ++ r)) (woven_laid next (gap_to next q after) (line_to next after) (empty_to next q after) qs)
    ∙ ap (λ h. g ++ (bytes_of q ++ (h ++ laid_out next qs))) (next_gap next q qs)

-- the canonical text of a text without comments is that of its tokens
pub no_comments : (parts : List Part) → comments_in parts ≡ [] → canonical (elements_of parts) ≡ printed (tokens_in parts)
no_comments parts e =
    ap canonical (only_pieces true parts e)
    ∙ ap (drop 1) (woven_laid outside (codes "\n") (codes "\n") false (tokens_in parts))

pieces_are : (due : Bool) (qs : List Piece) → AllByRecursion (λ q. is_lawful q ≡ true) qs → AreElements due (as_pieces qs)
unfolding as_pieces
pieces_are due [] h = tt
pieces_are due (q ∷ qs) h = (h.0, pieces_are (is_doc q) qs h.1)

-- the canonical layout of tokens stays as it is
pub layout_stays : (qs : List Piece) → AllByRecursion (λ q. is_lawful q ≡ true) qs → (parts : List Part) × AreParts parts × (printed qs ≡ spelled parts) × (canonical (elements_of parts) ≡ printed qs)
layout_stays qs h =
    let laid : canonical (as_pieces qs) ≡ printed qs = ap (drop 1) (woven_laid outside (codes "\n") (codes "\n") false qs) in
    let k = canonical_has (as_pieces qs) (pieces_are true qs h) in
    (k.0, k.1, sym laid ∙ k.2, ap canonical k.3 ∙ laid)
