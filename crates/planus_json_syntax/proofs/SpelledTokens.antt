-- However a token is spelled, it is read.
use Rattle.std.proofs.Common.{◌≡◌, ℕ, suc, ◌<◌, ◌≤◌, List, [], ◌∷◌, ◌++◌, length, true, false, Bool, refl, sym, ap, ◌∙◌, append_assoc, arith, Ok, Some, None, ap₂, inl, inr, ◌⊎◌, true≢false}
use Rattle.std.specs.Prelude.{◌==◌, ◌&&◌, not}
use Rattle.std.specs.List.{list_all}
use Rattle.std.specs.Str.{is_utf8}
use Rattle.std.proofs.lemmas.List.{length-append}
use Rattle.planus_json_syntax.specs.Strings.{string_at}
use Rattle.planus_json_syntax.specs.Tokens.{◌>>=◌, Front, is_blank, is_mark, is_word_byte, skip, line as line', block as block', front_at, text_front, next}
use Rattle.planus_json_syntax.specs.Spelling.{is_part, written, said, Gap, blank, line, block, is_line_byte, begins_slash, stays_open, is_gap, gap_bytes, between, Piece, mark_piece, word_piece, string_piece, is_piece, piece_bytes, token_of, lengthens, TokenAt, EndAt}
use Rattle.planus_json_syntax.proofs.Words.{word_front}
use Rattle.planus_json_syntax.proofs.SpelledStrings.{both, untrue, string_is_read}

line_skipped : (w rest : List ℕ) → list_all is_line_byte w ≡ true → line' (w ++ 10 ∷ rest) ≡ skip rest
line_skipped [] rest h = refl
line_skipped (b ∷ w) rest h =
    let k = both (is_line_byte b) (list_all is_line_byte w) h in
    rw (untrue (b == 10) k.0) (line_skipped w rest k.1)

pub line_ends : (w : List ℕ) → list_all is_line_byte w ≡ true → line' w ≡ Ok []
line_ends [] h = refl
line_ends (b ∷ w) h =
    let k = both (is_line_byte b) (list_all is_line_byte w) h in
    rw (untrue (b == 10) k.0) (line_ends w k.1)

block_skipped : (starred : Bool) (w rest : List ℕ) → stays_open w ≡ true → (starred && begins_slash w) ≡ false → block' starred (w ++ 42 ∷ 47 ∷ rest) ≡ skip rest
block_skipped true [] rest h s = refl
block_skipped false [] rest h s = refl
block_skipped starred (b ∷ w) rest h s =
    let k = both (not (b == 42 && begins_slash w)) (stays_open w) h in
    rw s (block_skipped (b == 42) w rest k.1 (untrue (b == 42 && begins_slash w) k.0))

gap_skipped : (g : Gap) (rest : List ℕ) → is_gap g ≡ true → skip (gap_bytes g ++ rest) ≡ skip rest
gap_skipped (blank b) rest h = rw h refl
gap_skipped (line w) rest h = ap line' (append_assoc w (10 ∷ []) rest) ∙ line_skipped w rest h
gap_skipped (block w) rest h = ap (block' false) (append_assoc w (42 ∷ 47 ∷ []) rest) ∙ block_skipped false w rest h refl

pub gaps_skipped : (gaps : List Gap) (rest : List ℕ) → list_all is_gap gaps ≡ true → skip (between gaps ++ rest) ≡ skip rest
gaps_skipped [] rest h = refl
gaps_skipped (g ∷ gaps) rest h =
    let k = both (is_gap g) (list_all is_gap gaps) h in
    ap skip (append_assoc (gap_bytes g) (between gaps) rest) ∙ gap_skipped g (between gaps ++ rest) k.0 ∙ gaps_skipped gaps rest k.1

-- ---- the first byte of a token

abbrev Stays : ℕ → Type 0
Stays b = (is_blank b ≡ false) × ((b == 47) ≡ false)

mark_stays : (m : ℕ) → is_mark m ≡ true → Stays m
mark_stays m h = (grind arith, grind arith)

word_stays : (b : ℕ) → is_word_byte b ≡ true → Stays b
word_stays b h = (grind arith, grind arith)

one_of : (b : ℕ) → is_mark b ≡ true → (b ≡ 123) ⊎ ((b ≡ 125) ⊎ ((b ≡ 91) ⊎ ((b ≡ 93) ⊎ ((b ≡ 58) ⊎ (b ≡ 44)))))
one_of b h = grind arith

no_word : (b : ℕ) → is_mark b ≡ true → is_word_byte b ≡ false
no_word b h = elim (one_of b h) [
  | inl e ↦ rw e refl
  | inr x ↦ elim x [ inl e ↦ rw e refl | inr y ↦ elim y [ inl e ↦ rw e refl | inr z ↦ elim z [ inl e ↦ rw e refl | inr w ↦ elim w [ inl e ↦ rw e refl | inr e ↦ rw e refl ] ] ] ]
]

not_true : (x : Bool) → (x ≡ true → ⊥) → x ≡ false
not_true true h = absurd (h refl)
not_true false h = refl

no_mark : (b : ℕ) → is_word_byte b ≡ true → (is_mark b ≡ false) × ((b == 34) ≡ false)
no_mark b h = (not_true (is_mark b) (λ m. true≢false (sym h ∙ no_word b m)), grind arith)

here : (b : ℕ) (bs : List ℕ) → Stays b → skip (b ∷ bs) ≡ Ok (b ∷ bs)
here b bs s = rw (s.0, s.1) refl

abbrev Found : Piece → List ℕ → Type 0
Found p rest = (skip (piece_bytes p ++ rest) >>= front_at)
    ≡ Ok (Some (record { token = token_of p; left = length (piece_bytes p ++ rest); rest = rest }))

piece_read : (p : Piece) (rest : List ℕ) → is_piece p ≡ true → lengthens p rest ≡ false → Found p rest
piece_read (mark_piece m) rest h e = ap (λ r. r >>= front_at) (here m rest (mark_stays m h)) ∙ rw h refl
piece_read (word_piece []) rest h e = absurd cc
piece_read (word_piece (b ∷ w)) rest h e =
    let k = both (is_word_byte b) (list_all is_word_byte w) h in
    ap (λ r. r >>= front_at) (here b (w ++ rest) (word_stays b k.0))
    ∙ word_front (b ∷ (w ++ rest)) (w ++ rest) (b ∷ w) rest (b ∷ w) b refl (no_mark b k.0).0 (no_mark b k.0).1 k.0 (record { whole = refl; each = h; stops = e }) refl
piece_read (string_piece parts) rest h e =
    let k = both (list_all is_part parts) (is_utf8 (said parts)) h in
    let bytes = (written parts ++ 34 ∷ []) ++ rest in
    ap (text_front (suc (length bytes))) (ap string_at (append_assoc (written parts) (34 ∷ []) rest) ∙ string_is_read parts rest k.0 k.1)

pub token_read : (bytes : List ℕ) (front : Front) → TokenAt bytes front → next bytes ≡ Ok (Some front)
unfolding next
token_read bytes front t =
    ap (λ bs. skip bs >>= front_at) t.whole ∙ ap (λ r. r >>= front_at) (gaps_skipped t.gaps (piece_bytes t.piece ++ front.rest) t.are)
    ∙ piece_read t.piece front.rest t.is t.ends ∙ ap₂ (λ token left. Ok (Some (record { token = token; left = left; rest = front.rest }))) (sym t.token) (sym t.left)

pub end_read : (bytes : List ℕ) → EndAt bytes → next bytes ≡ Ok None
unfolding next
end_read bytes t =
    ap (λ bs. skip bs >>= front_at) t.whole ∙ ap (λ r. r >>= front_at) (gaps_skipped t.gaps t.last t.are)
    ∙ elim t.ended [
      | inl e ↦ ap (λ bs. skip bs >>= front_at) e
      | inr x ↦ ap (λ bs. skip bs >>= front_at) x.2 ∙ ap (λ r. r >>= front_at) (line_ends x.0 x.1)
    ]

some_piece : (p : Piece) (rest : List ℕ) → is_piece p ≡ true → length rest < length (piece_bytes p ++ rest)
some_piece (mark_piece m) rest h = omega arith
some_piece (word_piece []) rest h = absurd cc
some_piece (word_piece (b ∷ w)) rest h = omega (arith, length-append w rest)
some_piece (string_piece parts) rest h = omega (arith, length-append (written parts ++ 34 ∷ []) rest)

-- fewer bytes follow a token
pub token_shorter : (bytes : List ℕ) (front : Front) → TokenAt bytes front → (length front.rest < front.left) × (front.left ≤ length bytes)
token_shorter bytes front t = (
  omega (arith, some_piece t.piece front.rest t.is, t.left),
  omega (arith, t.left, ap length t.whole, length-append (between t.gaps) (piece_bytes t.piece ++ front.rest)),
)
