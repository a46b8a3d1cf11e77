-- A text without its layout.
use Rattle.std.specs.Prelude.{ℕ, Bool, true, false, ◌==◌, ◌&&◌, ◌||◌, not, nat_eq, List, [], ◌∷◌}
use Rattle.std.specs.Prelude.{◌++◌, if◌then◌else◌}
use Rattle.std.specs.Char.{is_ascii_alphanumeric}
use Rattle.std.specs.List.{starts_with}

-- a space or the end of a line
abbrev pub is_blank : ℕ → Bool
is_blank b = b == 32 || b == 10

-- of a word
abbrev pub is_letter : ℕ → Bool
is_letter b = is_ascii_alphanumeric b || b == 95

-- a comma stays, and a blank
abbrev pub widened : ℕ → ℕ
widened gap = if gap == 44 then 44 else 32

-- between two bytes: a comma, but before `)` and `}`, or the blank that keeps two words apart
abbrev pub joint : ℕ → ℕ → ℕ → List ℕ
joint last gap b =
    if gap == 44 then (if b == 41 || b == 125 then [] else 44 ∷ [])
    else if gap == 32 && is_letter last && is_letter b then 32 ∷ [] else []

-- whether `//` stands here
abbrev pub begins_comment : ℕ → List ℕ → Bool
begins_comment b bs = b == 47 && starts_with nat_eq bs (47 ∷ [])

-- after the byte `last`, and a gap of nothing (0), a blank or a comma; in a comment or not
abbrev pub bare_from : Bool → ℕ → ℕ → List ℕ → List ℕ
bare_from comment last gap [] = []
bare_from true last gap (b ∷ bs) = bare_from (not (b == 10)) last gap bs
bare_from false last gap (b ∷ bs) =
    if begins_comment b bs then bare_from true last (widened gap) bs
    else if is_blank b then bare_from false last (widened gap) bs
    else if b == 44 then joint last gap b ++ bare_from false b b bs
    else joint last gap b ++ b ∷ bare_from false b 0 bs

-- Without comments, blanks but between words, and commas before `)` and `}`.
abbrev pub bare : List ℕ → List ℕ
bare text = bare_from false 0 0 text
