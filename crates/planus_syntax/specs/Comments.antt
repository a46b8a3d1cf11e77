-- The comments of a text, and the canonical text that has them.
use Rattle.std.specs.Prelude.{ℕ, Bool, true, false, ◌==◌, ◌&&◌, ◌||◌, not, List, [], ◌∷◌, ◌++◌}
use Rattle.std.specs.Prelude.{codes, drop, if◌then◌else◌, Option, Some, None}
use Rattle.std.specs.Str.{bytes_eq}
use Rattle.planus_syntax.specs.declared.layout.Place.{Place}
use Rattle.planus_syntax.specs.Tokens.{Piece, doc, bytes_of, begins, is_blank}
use Rattle.planus_syntax.specs.Layout.{place_after, outside, gap, new_line}
use Rattle.planus_syntax.specs.Spelled.{Part, token, blank, comment, block}

-- ---- comments

abbrev pub trimmed_front : ℕ → List ℕ → List ℕ
trimmed_front b [] = if is_blank b then [] else b ∷ []
trimmed_front b (c ∷ cs) = b ∷ c ∷ cs

-- without the blanks at the end
abbrev pub trimmed : List ℕ → List ℕ
trimmed [] = []
trimmed (b ∷ bs) = trimmed_front b (trimmed bs)

-- the comments of a text, in order: those to the end of a line without the blanks there, those to
-- `*/` as they are
abbrev pub comments_in : List Part → List (List ℕ)
comments_in [] = []
comments_in (token p ∷ ps) = comments_in ps
comments_in (blank b ∷ ps) = comments_in ps
comments_in (comment w ∷ ps) = (47 ∷ 47 ∷ trimmed w) ∷ comments_in ps
comments_in (block w ∷ ps) = (47 ∷ 42 ∷ (w ++ 42 ∷ 47 ∷ [])) ∷ comments_in ps

-- a token; a comment to the end of its line, without the blanks there; one to `*/`. Of a comment
-- also whether it begins its line, as no token or comment is before it there, and whether it then
-- has an empty line after it, before a token or a comment.
pub data Element : Type 0 where
  piece : Piece → Element
  line_comment : Bool → Bool → List ℕ → Element
  block_comment : Bool → Bool → List ℕ → Element

-- an empty line is before the next token or comment, after one line feed or two
abbrev pub is_apart : Bool → Bool → List Part → Bool
is_apart one two [] = false
is_apart one two (token p ∷ ps) = two
is_apart one two (blank b ∷ ps) = is_apart (one || b == 10) (two || (one && b == 10)) ps
is_apart one two (comment w ∷ ps) = two
is_apart one two (block w ∷ ps) = two

abbrev pub has_empty_line : List Part → Bool
has_empty_line ps = is_apart false false ps

-- the elements of a text, from a place on at which a line begins or does not
abbrev pub elements_in : Bool → List Part → List Element
elements_in begun [] = []
elements_in begun (token p ∷ ps) = piece p ∷ elements_in false ps
elements_in begun (blank b ∷ ps) = elements_in (begun || b == 10) ps
elements_in begun (comment w ∷ ps) =
    line_comment begun (begun && has_empty_line ps) (trimmed w) ∷ elements_in false ps
elements_in begun (block w ∷ ps) =
    block_comment begun (begun && has_empty_line ps) w ∷ elements_in false ps

abbrev pub elements_of : List Part → List Element
elements_of parts = elements_in true parts

-- ---- the layout

-- the next token
abbrev pub next_piece : List Element → Option Piece
next_piece [] = None
next_piece (piece p ∷ es) = Some p
next_piece (line_comment starts apart w ∷ es) = next_piece es
next_piece (block_comment starts apart w ∷ es) = next_piece es

-- between a token and the next, where no comment is between them
abbrev pub gap_to : Place → Piece → Option Piece → List ℕ
gap_to p a None = codes "\n"
gap_to p a (Some q) = gap p a q

-- a new line for the next token
abbrev pub line_to : Place → Option Piece → List ℕ
line_to p None = codes "\n"
line_to p (Some q) = new_line p q

abbrev pub is_empty_line : List ℕ → Bool
is_empty_line gap = bytes_eq gap (codes "\n\n")

-- whether an empty line is between a token and a comment that begins its line: as before the next
-- token, or before documentation at the end of the text
abbrev pub empty_to : Place → Piece → Option Piece → Bool
empty_to p a None = is_empty_line (gap p a (doc []))
empty_to p a (Some q) = is_empty_line (gap p a q)

-- a comment that begins its line is indented as a field
abbrev pub comment_line : Place → List ℕ
comment_line p = if p.braces then codes "\n  " else codes "\n"

abbrev pub empty_line : Bool → List ℕ
empty_line empty = if empty then codes "\n" else []

abbrev pub before_comment : Bool → Place → Bool → List ℕ
before_comment true p empty = empty_line empty ++ comment_line p
before_comment false p empty = codes " "

abbrev pub breaks : List ℕ → Bool
breaks gap = begins (λ b. b == 10) gap

-- between a comment and the next token: a new line after one that begins its line; after others the
-- gap, if it has one, or else a new line or a space
abbrev pub after_line : Bool → List ℕ → List ℕ → List ℕ
after_line true gap line = line
after_line false gap line = if breaks gap then gap else line

abbrev pub after_block : Bool → List ℕ → List ℕ → List ℕ
after_block true gap line = line
after_block false gap line = if breaks gap then gap else codes " "

-- The elements. Before the next token is `gap`, `line` is a new line for it, and before a comment
-- that begins its line is an empty line or none.
abbrev pub woven : Place → List ℕ → List ℕ → Bool → List Element → List ℕ
woven p gap line empty [] = gap
woven p gap line empty (piece q ∷ es) =
    let next = place_after p q in
    let after = next_piece es in
    gap ++ (bytes_of q
    ++ woven next (gap_to next q after) (line_to next after) (empty_to next q after) es)
woven p gap line empty (line_comment starts apart w ∷ es) =
    before_comment starts p empty ++ ((47 ∷ 47 ∷ w)
    ++ (empty_line apart ++ woven p (after_line starts gap line) line (not starts && empty) es))
woven p gap line empty (block_comment starts apart w ∷ es) =
    before_comment starts p empty ++ ((47 ∷ 42 ∷ (w ++ 42 ∷ 47 ∷ []))
    ++ (empty_line apart ++ woven p (after_block starts gap line) line (not starts && empty) es))

-- after a line feed
abbrev pub canonical_after_feed : List Element → List ℕ
canonical_after_feed es = woven outside (codes "\n") (codes "\n") false es

-- the canonical text of elements: as after a line feed
abbrev pub canonical : List Element → List ℕ
canonical es = drop 1 (canonical_after_feed es)
