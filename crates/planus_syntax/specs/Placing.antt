-- Where a token is in a text.
use Rattle.std.specs.Prelude.{◌≡◌, ℕ, List, [], ◌∷◌, ◌++◌, length}
use Rattle.planus_syntax.specs.Tokens.{Piece}
use Rattle.planus_syntax.specs.Spelled.{Part, token, blank, comment, block, AreParts, spelled}
use Rattle.planus_syntax.specs.Spelled.{tokens_in}

-- a token is first, or nothing is there
abbrev pub TokenFirst : List Part → Type 0
TokenFirst [] = Unit {0}
TokenFirst (token p ∷ ps) = Unit {0}
TokenFirst (blank b ∷ ps) = ⊥
TokenFirst (comment w ∷ ps) = ⊥
TokenFirst (block w ∷ ps) = ⊥

-- In a text with these tokens, that of this index begins right after the parts before it, which
-- are `at` bytes with `index` tokens. Where it has no more tokens, the place is the text's end.
abbrev pub StandsAt : List ℕ → List Piece → ℕ → ℕ → Type 0
StandsAt text ps index at = (before : List Part) × (after : List Part)
    × AreParts (before ++ after) × (text ≡ spelled (before ++ after))
    × (ps ≡ tokens_in (before ++ after)) × (index ≡ length (tokens_in before))
    × (at ≡ length (spelled before)) × TokenFirst after
