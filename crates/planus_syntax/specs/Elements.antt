-- The code's tokens and comments, and what it reads of bytes.
use Rattle.std.specs.Prelude.{ℕ, Bool, false, ◌==◌, ◌&&◌, ◌||◌, List, [], ◌∷◌, Option, Some, None}
use Rattle.std.specs.Prelude.{if◌then◌else◌}
use Rattle.planus_syntax.specs.declared.element.Element.{Element as ElementCode}
use Rattle.planus_syntax.specs.declared.element.Element.TheVariants as code
use Rattle.planus_syntax.specs.declared.layout.Before.{Before}
use Rattle.planus_syntax.specs.Tokens.{is_blank}
use Rattle.planus_syntax.specs.Cutting.{cut_piece}
use Rattle.planus_syntax.specs.Spelled.{Part, token, blank, comment, block}
use Rattle.planus_syntax.specs.Comments.{Element, piece, line_comment, block_comment, trimmed}
use Rattle.planus_syntax.specs.Comments.{has_empty_line, woven}

abbrev pub element_of : ElementCode → Element
element_of (code.Token t) = piece (cut_piece t)
element_of (code.Line starts apart text) = line_comment starts apart text.now
element_of (code.Block starts apart text) = block_comment starts apart text.now

-- the comment that a part is, before these
abbrev pub comment_of : Bool → Part → List Part → Option Element
comment_of starts (token p) ps = None
comment_of starts (blank b) ps = None
comment_of starts (comment w) ps =
    Some (line_comment starts (starts && has_empty_line ps) (trimmed w))
comment_of starts (block w) ps = Some (block_comment starts (starts && has_empty_line ps) w)

-- whether two line feeds are among the blanks, before more bytes
abbrev pub apart_bytes : Bool → Bool → List ℕ → Bool
apart_bytes one two [] = false
apart_bytes one two (b ∷ bs) =
    if is_blank b then apart_bytes (one || b == 10) (two || (one && b == 10)) bs else two

abbrev pub woven_from : Before → List Element → List ℕ
woven_from before es = woven before.place before.gap.now before.line.now before.empty es
