-- The canonical layout: the gaps between a schema's tokens.
use Rattle.std.specs.Prelude.{ℕ, Bool, true, false, ◌==◌, ◌&&◌, ◌||◌, not, List, [], ◌∷◌, ◌++◌}
use Rattle.std.specs.Prelude.{codes, if◌then◌else◌}
use Rattle.std.specs.List.{list_any}
use Rattle.std.specs.Str.{bytes_eq}
use Rattle.planus_syntax.specs.declared.layout.Place.{Place}
use Rattle.planus_syntax.specs.Tokens.{Piece, word, number, text, doc, mark, bytes_of}

abbrev pub is_mark_of : ℕ → Piece → Bool
is_mark_of m (word w) = false
is_mark_of m (number w) = false
is_mark_of m (text w) = false
is_mark_of m (doc w) = false
is_mark_of m (mark b) = b == m

-- whether a token is in braces, and in parentheses
abbrev pub place_after : Place → Piece → Place
place_after p (word w) = p
place_after p (number w) = p
place_after p (text w) = p
place_after p (doc w) = p
place_after p (mark b) =
    if b == 123 then record { braces = true; parentheses = false }
    else if b == 125 then record { braces = false; parentheses = false }
    else if b == 40 then record { braces = p.braces; parentheses = true }
    else if b == 41 then record { braces = p.braces; parentheses = false }
    else p

abbrev pub outside : Place
outside = record { braces = false; parentheses = false }

-- marks with nothing before them
abbrev pub is_tight : ℕ → Bool
is_tight b = list_any (λ m. m == b) (codes ":;,)]")

-- marks with nothing after them
abbrev pub is_open : ℕ → Bool
is_open b = list_any (λ m. m == b) (codes "([.")

abbrev pub is_tight_piece : Piece → Bool
is_tight_piece (word w) = false
is_tight_piece (number w) = false
is_tight_piece (text w) = false
is_tight_piece (doc w) = false
is_tight_piece (mark b) = is_tight b

abbrev pub is_number_piece : Piece → Bool
is_number_piece (word w) = false
is_number_piece (number w) = true
is_number_piece (text w) = false
is_number_piece (doc w) = false
is_number_piece (mark b) = false

abbrev pub is_doc : Piece → Bool
is_doc (word w) = false
is_doc (number w) = false
is_doc (text w) = false
is_doc (doc w) = true
is_doc (mark b) = false

-- A point is apart from a number, which it would begin.
abbrev pub is_glued : Piece → Piece → Bool
is_glued (word w) q = is_tight_piece q || is_mark_of 46 q
is_glued (number w) q = is_tight_piece q
is_glued (text w) q = is_tight_piece q
is_glued (doc w) q = false
is_glued (mark b) q =
    (is_open b && not (b == 46 && is_number_piece q)) || is_tight_piece q

-- words whose statements follow each other without an empty line
abbrev pub is_grouped : Piece → Bool
is_grouped (word w) =
    bytes_eq w (codes "include") || (bytes_eq w (codes "native_include")
    || (bytes_eq w (codes "attribute") || (bytes_eq w (codes "file_identifier")
    || bytes_eq w (codes "file_extension"))))
is_grouped (number w) = false
is_grouped (text w) = false
is_grouped (doc w) = false
is_grouped (mark b) = false

abbrev pub new_line : Place → Piece → List ℕ
new_line p q = if p.braces && not (is_mark_of 125 q) then codes "\n  " else codes "\n"

-- an empty line, but for grouped statements
abbrev pub between_declarations : Piece → List ℕ
between_declarations q = if is_grouped q then codes "\n" else codes "\n\n"

-- documentation begins its line
abbrev pub spaced : Piece → List ℕ
spaced q = if is_mark_of 125 q then codes "\n" else if is_doc q then codes "\n  " else codes " "

-- after a mark: a new line after `{`, and in braces after `;` and after a `,` outside parentheses
abbrev pub after_mark : Place → ℕ → Piece → List ℕ
after_mark p b q =
    if b == 125 then codes "\n\n"
    else if b == 59 then (if p.braces then new_line p q else between_declarations q)
    else if b == 123 || (b == 44 && not p.parentheses) then new_line p q
    else spaced q

abbrev pub apart : Place → Piece → Piece → List ℕ
apart p (word w) q = spaced q
apart p (number w) q = spaced q
apart p (text w) q = spaced q
apart p (doc w) q = new_line p q
apart p (mark b) q = after_mark p b q

-- a number after a colon, outside parentheses: the number of an array's items
abbrev pub is_count_piece : Place → Piece → Piece → Bool
is_count_piece p a q = is_mark_of 58 a && (is_number_piece q && not p.parentheses)

abbrev pub gap : Place → Piece → Piece → List ℕ
gap p a q = if is_count_piece p a q || is_glued a q then [] else apart p a q

-- between a token and the next; the text ends with a line feed
abbrev pub gap_before : Place → Piece → List Piece → List ℕ
gap_before p a [] = codes "\n"
gap_before p a (q ∷ qs) = gap p a q

abbrev pub laid_out : Place → List Piece → List ℕ
laid_out p [] = []
laid_out p (a ∷ qs) =
    bytes_of a ++ (gap_before (place_after p a) a qs ++ laid_out (place_after p a) qs)

abbrev pub printed : List Piece → List ℕ
printed ps = laid_out outside ps
