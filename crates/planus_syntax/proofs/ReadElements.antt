-- The elements that are read of a text.
use Rattle.std.proofs.Common.{◌≡◌, ℕ, ◌-◌, List, [], ◌∷◌, ◌++◌, length, take, map, Bool, true, false, cond, refl, sym, ap, subst, ◌∙◌, append_assoc, Err}
use Rattle.std.specs.Prelude.{◌==◌, ◌&&◌, ◌||◌}
use Rattle.std.proofs.lemmas.List.{append-nil, map_push}
use Rattle.planus_syntax.specs.declared.element.Element.{Element as ElementCode}
use Rattle.planus_syntax.specs.declared.lexer.LexFault.{LexFault}
use Rattle.planus_syntax.specs.Tokens.{Piece, begins, is_blank}
use Rattle.planus_syntax.specs.Spelled.{Part, token, blank, comment, block, part_bytes, is_part, goes_on, spelled, tokens_in, AreParts}
use Rattle.planus_syntax.specs.Comments.{piece, is_apart, elements_in}
use Rattle.planus_syntax.specs.Cutting.{Leads}
use Rattle.planus_syntax.specs.Elements.{element_of, apart_bytes}
use Rattle.planus_syntax.specs.Lexing.{lex_of}
use Rattle.planus_syntax.proofs.Placed.{not_both}
use Rattle.planus_syntax.proofs.Quotes.{cut_front}
use Rattle.planus_syntax.proofs.Spelling.{spelling_read}
use Rattle.planus_syntax.proofs.Unique.{next_part, none_left, no_blank, no_empty}

blank_apart : (one two : Bool) (b : ℕ) (bs : List ℕ) → is_blank b ≡ true → apart_bytes one two (b ∷ bs) ≡ apart_bytes (one || b == 10) (two || (one && b == 10)) bs
blank_apart one two b bs h = ap (λ v. cond v (apart_bytes (one || b == 10) (two || (one && b == 10)) bs) two) h

other_apart : (one two : Bool) (b : ℕ) (bs : List ℕ) → is_blank b ≡ false → apart_bytes one two (b ∷ bs) ≡ two
other_apart one two b bs h = ap (λ v. cond v (apart_bytes (one || b == 10) (two || (one && b == 10)) bs) two) h

token_apart : (one two : Bool) (p : Piece) (rest bytes : List ℕ) → is_part (token p) ≡ true → begins (goes_on (token p)) rest ≡ false → bytes ≡ part_bytes (token p) ++ rest → apart_bytes one two bytes ≡ two
token_apart one two p rest [] h s e = absurd (no_empty p rest h s e)
token_apart one two p rest (b ∷ bs) h s e = other_apart one two b bs (no_blank p b rest bs h s e)

-- of bytes the code finds whether an empty line is before the next part
pub apart_same : (one two : Bool) (ps : List Part) → AreParts ps → apart_bytes one two (spelled ps) ≡ is_apart one two ps
apart_same one two [] a = refl
apart_same one two (token p ∷ ps) a = token_apart one two p (spelled ps) (spelled (token p ∷ ps)) a.0 a.1 refl
apart_same one two (blank b ∷ ps) a = blank_apart one two b (spelled ps) a.0 ∙ apart_same (one || b == 10) (two || (one && b == 10)) ps a.2
apart_same one two (comment w ∷ ps) a = refl
apart_same one two (block w ∷ ps) a = refl

-- the text's elements are those that were read and those of the parts that are left
abbrev pub IsLeft : List ElementCode → Bool → List ℕ → List Part → Type 0
IsLeft es begun rest whole = (left : List Part) × AreParts left × (rest ≡ spelled left)
    × (map element_of es ++ elements_in begun left ≡ elements_in true whole)

push_element : (old new : List ElementCode) (x : ElementCode) (more : List Part) → new ≡ old ++ x ∷ []
    → map element_of new ++ elements_in false more ≡ map element_of old ++ (element_of x ∷ elements_in false more)
push_element old new x more e =
    ap (λ xs. map element_of xs ++ elements_in false more) e
    ∙ ap (λ ys. ys ++ elements_in false more) (map_push element_of old x)
    ∙ append_assoc (map element_of old) (element_of x ∷ []) (elements_in false more)

-- a token was read
pub token_read : (old new : List ElementCode) (x : ElementCode) (t : Piece) (begun : Bool) (rest after : List ℕ) (whole : List Part) → new ≡ old ++ x ∷ [] → element_of x ≡ piece t
    → Leads rest (token t) after → IsLeft old begun rest whole → IsLeft new false after whole
token_read old new x t begun rest after whole e f l k =
    let n = next_part (token t) rest after k.0 l k.1 k.2 in (
      n.0,
      n.2,
      n.3,
      push_element old new x n.0 e
          ∙ ap (λ y. map element_of old ++ (y ∷ elements_in false n.0)) f
          ∙ sym (ap (λ ps. map element_of old ++ elements_in begun ps) n.1)
          ∙ k.3,
    )

-- another part was read
pub part_read : (old new : List ElementCode) (p : Part) (begun next : Bool) (rest part after : List ℕ) (whole : List Part) → part ≡ take (length rest - length after) rest
    → Leads rest p after
    → ((ps : List Part) → AreParts (p ∷ ps) → part ≡ part_bytes p → after ≡ spelled ps
    → map element_of new ++ elements_in next ps ≡ map element_of old ++ elements_in begun (p ∷ ps))
    → IsLeft old begun rest whole → IsLeft new next after whole
part_read old new p begun next rest part after whole cut l step k =
    let n = next_part p rest after k.0 l k.1 k.2 in
    let bytes : part ≡ part_bytes p = cut ∙ ap (λ r. take (length r - length after) r) l.whole ∙ cut_front (part_bytes p) after in (
      n.0,
      n.2,
      n.3,
      step n.0 (subst AreParts n.1 k.1) bytes n.3
          ∙ sym (ap (λ ps. map element_of old ++ elements_in begun ps) n.1)
          ∙ k.3,
    )

-- all parts were read
pub all_read : (es : List ElementCode) (begun : Bool) (rest : List ℕ) (whole : List Part) → rest ≡ [] → IsLeft es begun rest whole → map element_of es ≡ elements_in true whole
all_read es begun rest whole e k =
    let none = none_left k.0 k.1 (sym e ∙ k.2) in
    sym (append-nil (map element_of es))
    ∙ sym (ap (λ ps. map element_of es ++ elements_in begun ps) none)
    ∙ k.3

-- parts have no error
pub no_error : (es : List ElementCode) (begun : Bool) (rest : List ℕ) (whole : List Part) (f : LexFault × ℕ) → lex_of rest ≡ Err f → IsLeft es begun rest whole → ⊥
no_error es begun rest whole f h k =
    not_both (tokens_in k.0) f (lex_of rest) (ap lex_of k.2 ∙ spelling_read k.0 k.1) h
