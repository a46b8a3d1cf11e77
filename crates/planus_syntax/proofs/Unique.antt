-- A text is spelled by one list of parts, and so has a token at one place.
use Rattle.std.proofs.Common.{◌≡◌, ℕ, ◌-◌, take, drop, Result, Ok, Err, List, [], ◌∷◌, ◌++◌, length, Bool, true, false, cond, refl, sym, ap, subst, ◌∙◌, append_assoc, arith}
use Rattle.std.specs.Prelude.{fold, ◌==◌, ◌&&◌, not, codes, if◌then◌else◌}
use Rattle.std.specs.List.{list_all}
use Rattle.std.specs.Str.{is_utf8}
use Rattle.std.specs.Char.{is_ascii_digit}
use Rattle.std.proofs.lemmas.Bool.{eqb-true}
use Rattle.planus_syntax.specs.Tokens.{Piece, word, number, text, doc, mark, begins, is_word_byte, is_number_start, starts_number, is_number_byte, is_number, is_line_byte, is_blank, is_mark}
use Rattle.planus_syntax.specs.Spelled.{Part, token, blank, comment, block, part_bytes, is_part, goes_on, spelled, tokens_in, AreParts, closes, stays_open}
use Rattle.planus_syntax.specs.Placing.{TokenFirst, StandsAt}
use Rattle.planus_syntax.specs.declared.lexer.LexFault.{LexFault}
use Rattle.planus_syntax.specs.Strings.{start, is_quote, is_string, is_closed, string_step}
use Rattle.planus_syntax.specs.Cutting.{Leads, string_end}
use Rattle.planus_syntax.proofs.Quotes.{of_quotes, string_ends, cut_front}
use Rattle.planus_syntax.proofs.Scanning.{both}
use Rattle.planus_syntax.proofs.Marks.{one_of, not_true, no_digit}
use Rattle.planus_syntax.proofs.Spelling.{blank_at, no_third, starts_on, closes_on}

-- the bytes that pass, and the rest
abbrev span : (ℕ → Bool) → List ℕ → List ℕ × List ℕ
span p [] = ([], [])
span p (b ∷ bs) = if p b then (b ∷ (span p bs).0, (span p bs).1) else ([], b ∷ bs)

abbrev block_span : List ℕ → List ℕ × List ℕ
block_span [] = ([], [])
block_span (b ∷ bs) =
    if closes (b ∷ bs) then ([], drop 1 bs) else (b ∷ (block_span bs).0, (block_span bs).1)

abbrev Cut : Type 0
Cut = Part × List ℕ

abbrev cut : (List ℕ → Part) → List ℕ × List ℕ → Cut
cut make x = (make x.0, x.1)

abbrev after_slash : List ℕ → Cut
after_slash bs =
    if begins (λ b. b == 47) bs
    then (if begins (λ b. b == 47) (drop 1 bs)
    then cut (λ w. token (doc w)) (span is_line_byte (drop 2 bs))
    else cut comment (span is_line_byte (drop 1 bs)))
    else cut block (block_span (drop 1 bs))

abbrev text_cut : ℕ → List ℕ → Result (List ℕ) (LexFault × ℕ) → Cut
text_cut q bs (Ok rest) = (token (text (q ∷ take (length bs - length rest) bs)), rest)
text_cut q bs (Err e) = (blank 0, [])

abbrev first_part : List ℕ → Cut
first_part [] = (blank 0, [])
first_part (b ∷ bs) =
    if starts_number (b ∷ bs) then cut (λ w. token (number w)) (span is_number_byte (b ∷ bs))
    else if is_word_byte b then cut (λ w. token (word w)) (span is_word_byte (b ∷ bs))
    else if is_blank b then (blank b, bs)
    else if is_mark b then (token (mark b), bs)
    else if is_quote b then text_cut b bs (string_end b start bs)
    else after_slash bs

span_is : (p : ℕ → Bool) (w r : List ℕ) → list_all p w ≡ true → begins p r ≡ false → span p (w ++ r) ≡ (w, r)
span_is p [] [] h s = refl
span_is p [] (b ∷ r) h s = rw s refl
span_is p (c ∷ w) r h s =
    let a = both (p c) (list_all p w) h in
    ap (λ v. cond v (c ∷ (span p (w ++ r)).0, (span p (w ++ r)).1) ([], c ∷ (w ++ r))) a.0
    ∙ ap (λ (x : List ℕ × List ℕ). (c ∷ x.0, x.1)) (span_is p w r a.1 s)

block_span_is : (w r : List ℕ) → stays_open w ≡ true → block_span (w ++ 42 ∷ 47 ∷ r) ≡ (w, r)
block_span_is [] r h = refl
block_span_is (c ∷ w) r h =
    let a = both (not (closes (c ∷ w))) (stays_open w) h in
    let n = closes_on c w r (not_true (closes (c ∷ w)) a.0) in
    let more = w ++ 42 ∷ 47 ∷ r in
    ap (λ v. cond v ([], drop 1 more) (c ∷ (block_span more).0, (block_span more).1)) n
    ∙ ap (λ (x : List ℕ × List ℕ). (c ∷ x.0, x.1)) (block_span_is w r a.1)

word_point_at : (c : ℕ) (v : Bool) → (c == 46) ≡ v → is_word_byte c ≡ true → (c == 46) ≡ false
word_point_at c true e h =
    let P : ℕ → Type 0 = λ x. is_word_byte x ≡ true in
    absurd (let f = subst P (eqb-true c 46 e) h in cc)
word_point_at c false e h = e

abbrev First : Part → List ℕ → Type 0
First p r = first_part (part_bytes p ++ r) ≡ (p, r)

word_first : (w r : List ℕ) → is_part (token (word w)) ≡ true → begins is_word_byte r ≡ false → First (token (word w)) r
word_first [] r h s = absurd cc
word_first (c ∷ w) r h s =
    let a = both (list_all is_word_byte (c ∷ w)) (not (is_number_start c)) h in
    let l = (both (is_word_byte c) (list_all is_word_byte w) a.0).0 in
    let n = not_true (is_number_start c) a.1 in
    let d = word_point_at c (c == 46) refl l in
    let e : first_part (c ∷ (w ++ r)) ≡ cut (λ v. token (word v)) (span is_word_byte (c ∷ (w ++ r))) = rw (n, d, l) refl in
    e ∙ ap (cut (λ v. token (word v))) (span_is is_word_byte (c ∷ w) r a.0 s)

number_first : (w r : List ℕ) → is_part (token (number w)) ≡ true → begins is_number_byte r ≡ false → First (token (number w)) r
number_first [] r h s = absurd cc
number_first (c ∷ w) r h s =
    let a = both (starts_number (c ∷ w)) (list_all is_number_byte (c ∷ w) && is_number (c ∷ w)) h in
    let b = both (list_all is_number_byte (c ∷ w)) (is_number (c ∷ w)) a.1 in
    let n : starts_number (c ∷ (w ++ r)) ≡ true = starts_on (c ∷ w) r a.0 in
    let e : first_part (c ∷ (w ++ r)) ≡ cut (λ v. token (number v)) (span is_number_byte (c ∷ (w ++ r))) = rw n refl in
    e ∙ ap (cut (λ v. token (number v))) (span_is is_number_byte (c ∷ w) r b.0 s)

text_first : (w r : List ℕ) → is_part (token (text w)) ≡ true → First (token (text w)) r
text_first [] r h = absurd cc
text_first (q ∷ w) r h =
    let a = both (is_string (q ∷ w)) (is_utf8 (q ∷ w)) h in
    let b = both (is_quote q) (is_closed (fold (string_step q) start w)) a.0 in
    let cuts : first_part (q ∷ (w ++ r)) ≡ text_cut q (w ++ r) (string_end q start (w ++ r)) =
    of_quotes (λ x. first_part (x ∷ (w ++ r)) ≡ text_cut x (w ++ r) (string_end x start (w ++ r))) q b.0 refl refl in
    cuts ∙ ap (text_cut q (w ++ r)) (string_ends q start w r refl b.1)
    ∙ ap (λ v. (token (text (q ∷ v)), r)) (cut_front w r)

doc_first : (w r : List ℕ) → list_all is_line_byte w ≡ true → begins is_line_byte r ≡ false → First (token (doc w)) r
doc_first w r h s = ap (cut (λ v. token (doc v))) (span_is is_line_byte w r h s)

comment_first : (w r : List ℕ) → is_part (comment w) ≡ true → begins is_line_byte r ≡ false → First (comment w) r
comment_first w r h s =
    let a = both (list_all is_line_byte w) (not (begins (λ b. b == 47) w)) h in
    let n = no_third w r (not_true (begins (λ b. b == 47) w) a.1) s in
    ap (λ v. cond v (cut (λ v. token (doc v)) (span is_line_byte (drop 1 (w ++ r)))) (cut comment (span is_line_byte (w ++ r)))) n
    ∙ ap (cut comment) (span_is is_line_byte w r a.0 s)

block_first : (w r : List ℕ) → stays_open w ≡ true → First (block w) r
block_first w r h =
    ap (cut block) (ap block_span (append_assoc w (42 ∷ 47 ∷ []) r) ∙ block_span_is w r h)

blank_first : (b : ℕ) (r : List ℕ) → is_blank b ≡ true → First (blank b) r
blank_first b r h = blank_at (λ x. first_part (x ∷ r) ≡ (blank x, r)) b (b == 32) (b == 10) (b == 9) (b == 13) refl refl refl refl h refl refl refl refl

abbrev MarkFirst : List ℕ → ℕ → Type 0
MarkFirst r x = begins (λ c. x == 46 && is_ascii_digit c) r ≡ false → first_part (x ∷ r) ≡ (token (mark x), r)

point_first : (r : List ℕ) → MarkFirst r 46
point_first r s = let d = no_digit true r refl s in rw d refl

mark_first : (b : ℕ) (r : List ℕ) → is_mark b ≡ true → begins (goes_on (token (mark b))) r ≡ false → First (token (mark b)) r
mark_first b r h s = one_of (MarkFirst r) (codes "{}()[]:;,=.") b (λ n. refl, (λ n. refl, (λ n. refl, (λ n. refl, (λ n. refl, (λ n. refl, (λ n. refl, (λ n. refl, (λ n. refl, (λ n. refl, (point_first r, tt))))))))))) h s

part_first : (p : Part) (r : List ℕ) → is_part p ≡ true → begins (goes_on p) r ≡ false → First p r
part_first (token (word w)) r h s = word_first w r h s
part_first (token (number w)) r h s = number_first w r h s
part_first (token (text w)) r h s = text_first w r h
part_first (token (doc w)) r h s = doc_first w r h s
part_first (token (mark b)) r h s = mark_first b r h s
part_first (blank b) r h s = blank_first b r h
part_first (comment w) r h s = comment_first w r h s
part_first (block w) r h s = block_first w r h

clash : (v : Bool) → v ≡ true → false ≡ v → ⊥
clash true h f = cc
clash false h f = cc

none_first : (p : Part) (r : List ℕ) → is_part p ≡ true → begins (goes_on p) r ≡ false → [] ≡ part_bytes p ++ r → ⊥
none_first p r h s e =
    let same : (blank 0, []) ≡ (p, r) = ap first_part e ∙ part_first p r h s in
    let f : false ≡ is_part p = ap (λ (x : Cut). is_part x.0) same in
    clash (is_part p) h f

pub one_spelling : (xs ys : List Part) → AreParts xs → AreParts ys → spelled xs ≡ spelled ys → xs ≡ ys
one_spelling [] [] h k e = refl
one_spelling [] (y ∷ ys) h k e = absurd (none_first y (spelled ys) k.0 k.1 e)
one_spelling (x ∷ xs) [] h k e = absurd (none_first x (spelled xs) h.0 h.1 (sym e))
one_spelling (x ∷ xs) (y ∷ ys) h k e =
    let same : (x, spelled xs) ≡ (y, spelled ys) = sym (part_first x (spelled xs) h.0 h.1) ∙ ap first_part e ∙ part_first y (spelled ys) k.0 k.1 in
    let head : x ≡ y = ap (λ (c : Cut). c.0) same in
    let tail : spelled xs ≡ spelled ys = ap (λ (c : Cut). c.1) same in
    ap (λ (z : Part). z ∷ xs) head ∙ ap (λ zs. y ∷ zs) (one_spelling xs ys h.2 k.2 tail)

-- the part that leads a text is the first of its parts
pub next_part : (p : Part) (rest after : List ℕ) (left : List Part) → Leads rest p after → AreParts left → rest ≡ spelled left
    → (more : List Part) × (left ≡ p ∷ more) × AreParts more × (after ≡ spelled more)
next_part p rest after [] l a f = absurd (none_first p after l.lawful l.stops (sym f ∙ l.whole))
next_part p rest after (y ∷ ys) l a f =
    let same : (y, spelled ys) ≡ (p, after) = sym (part_first y (spelled ys) a.0 a.1) ∙ ap first_part (sym f ∙ l.whole) ∙ part_first p after l.lawful l.stops in
    (ys, ap (λ (c : Cut). c.0 ∷ ys) same, a.2, sym (ap (λ (c : Cut). c.1) same))

-- nothing has no parts
pub none_left : (left : List Part) → AreParts left → [] ≡ spelled left → left ≡ []
none_left [] a e = refl
none_left (y ∷ ys) a e = absurd (none_first y (spelled ys) a.0 a.1 e)

two_kinds : (p : Piece) (b : ℕ) → token p ≡ blank b → ⊥
two_kinds p b e = cc

no_blank_at : (p : Piece) (b : ℕ) (v : Bool) (rest bs : List ℕ) → is_blank b ≡ v → is_part (token p) ≡ true → begins (goes_on (token p)) rest ≡ false → b ∷ bs ≡ part_bytes (token p) ++ rest → is_blank b ≡ false
no_blank_at p b true rest bs v h s e =
    let same : (token p, rest) ≡ (blank b, bs) = sym (part_first (token p) rest h s) ∙ ap first_part (sym e) ∙ blank_first b bs v in
    absurd (two_kinds p b (ap (λ (c : Cut). c.0) same))
no_blank_at p b false rest bs v h s e = v

-- a token begins with no blank
pub no_blank : (p : Piece) (b : ℕ) (rest bs : List ℕ) → is_part (token p) ≡ true → begins (goes_on (token p)) rest ≡ false → b ∷ bs ≡ part_bytes (token p) ++ rest → is_blank b ≡ false
no_blank p b rest bs h s e = no_blank_at p b (is_blank b) rest bs refl h s e

pub no_empty : (p : Piece) (rest : List ℕ) → is_part (token p) ≡ true → begins (goes_on (token p)) rest ≡ false → [] ≡ part_bytes (token p) ++ rest → ⊥
no_empty p rest h s e = none_first (token p) rest h s e

abbrev heads : Part → List Part → Part
heads d [] = d
heads d (x ∷ xs) = x

-- no parts before a token that is the first
no_parts : (y : Part) (ys us : List Part) → us ≡ y ∷ ys → TokenFirst us → 0 ≡ length (tokens_in (y ∷ [])) → ⊥
no_parts (token p) ys us e f n = omega arith
no_parts (blank b) ys us e f n = subst TokenFirst e f
no_parts (comment w) ys us e f n = subst TokenFirst e f
no_parts (block w) ys us e f n = subst TokenFirst e f

fewer : (x : Part) (xs ys : List Part) → length (tokens_in (x ∷ xs)) ≡ length (tokens_in (x ∷ ys)) → length (tokens_in xs) ≡ length (tokens_in ys)
fewer (token p) xs ys n = omega arith
fewer (blank b) xs ys n = n
fewer (comment w) xs ys n = n
fewer (block w) xs ys n = n

alone : (y : Part) (ys : List Part) → 0 ≡ length (tokens_in (y ∷ ys)) → 0 ≡ length (tokens_in (y ∷ []))
alone (token p) ys n = absurd (omega arith)
alone (blank b) ys n = refl
alone (comment w) ys n = refl
alone (block w) ys n = refl

same_cut : (xs ys us vs : List Part) → xs ++ us ≡ ys ++ vs → length (tokens_in xs) ≡ length (tokens_in ys) → TokenFirst us → TokenFirst vs → xs ≡ ys
same_cut [] [] us vs e n f g = refl
same_cut [] (y ∷ ys) us vs e n f g = absurd (no_parts y (ys ++ vs) us e f (alone y ys n))
same_cut (x ∷ xs) [] us vs e n f g = absurd (no_parts x (xs ++ us) vs (sym e) g (alone x xs (sym n)))
same_cut (x ∷ xs) (y ∷ ys) us vs e n f g =
    let head : x ≡ y = ap (heads x) e in
    let m : length (tokens_in (y ∷ xs)) ≡ length (tokens_in (y ∷ ys)) = ap (λ (z : Part). length (tokens_in (z ∷ xs))) (sym head) ∙ n in
    ap (λ (z : Part). z ∷ xs) head ∙ ap (λ zs. y ∷ zs) (same_cut xs ys us vs (ap (drop 1) e) (fewer y xs ys m) f g)

-- one byte of a text at most is the place of the token of an index
pub one_place : (bytes : List ℕ) (ps : List Piece) (index a b : ℕ) → StandsAt bytes ps index a → StandsAt bytes ps index b → a ≡ b
one_place bytes ps index a b h k =
    let parts = one_spelling (h.0 ++ h.1) (k.0 ++ k.1) h.2 k.2 (sym h.3 ∙ k.3) in
    let before = same_cut h.0 k.0 h.1 k.1 parts (sym h.5 ∙ k.5) h.7 k.7 in
    h.6 ∙ ap (λ xs. length (spelled xs)) before ∙ sym k.6
