-- Where tokens are in a text.
use Rattle.std.specs.Prelude.{◌==◌, not, None}
use Rattle.std.specs.List.{list_all}
use Rattle.std.proofs.Common.{true, false, ◌≡◌, ℕ, ◌+◌, ◌-◌, ◌<◌, ◌≤◌, List, [], ◌∷◌, ◌++◌, length, drop, refl, sym, ap, subst, ◌∙◌, append_assoc, arith, Ok, Err}
use Rattle.std.proofs.lemmas.Bool.{eqb-true}
use Rattle.std.proofs.lemmas.List.{length-append, append-nil, length-drop, drop-drop}
use Rattle.planus_syntax.specs.declared.lexer.LexFault.{LexFault}
use Rattle.planus_syntax.specs.Tokens.{Piece, word, number, doc, mark, bytes_of, begins, is_word_byte, is_number_start, starts_number, is_number_byte, is_number, is_line_byte, is_blank, is_mark}
use Rattle.planus_syntax.specs.Lexing.{Read, with_front, lex_of}
use Rattle.planus_syntax.specs.Cutting.{Splits, Leads, Starts, Closes}
use Rattle.planus_syntax.specs.Spelled.{Part, token, blank, comment, block, part_bytes, goes_on, spelled, tokens_in, AreParts, closes, stays_open}
use Rattle.planus_syntax.specs.Placing.{TokenFirst, StandsAt}
use Rattle.planus_syntax.proofs.Scanning.{no_front}
use Rattle.planus_syntax.proofs.Marks.{a_mark, never, point_stops}
use Rattle.planus_syntax.proofs.Spelling.{cut_starts, all_two, all_three, all_and, not_begins, closes_earlier, spelling_read, spelling_found}

pub word_leads : (bytes w rest : List ℕ) → Splits is_word_byte bytes w rest → begins is_word_byte bytes ≡ true → begins is_number_start bytes ≡ false → Leads bytes (token (word w)) rest
word_leads bytes [] rest split h m = absurd (let f : begins is_word_byte rest ≡ true = sym (ap (begins is_word_byte) split.whole) ∙ h in let g = split.stops in cc)
word_leads bytes (c ∷ w) rest split h m = record {
  whole = split.whole;
  lawful = all_three true (list_all is_word_byte (c ∷ w)) (begins is_number_start (c ∷ w)) refl split.each (sym (ap (begins is_number_start) split.whole) ∙ m);
  stops = split.stops;
}

pub number_leads : (bytes w rest : List ℕ) → Splits is_number_byte bytes w rest → starts_number bytes ≡ true → is_number w ≡ true → Leads bytes (token (number w)) rest
number_leads bytes w rest split h d = record {
  whole = split.whole;
  lawful = all_and (starts_number w) (list_all is_number_byte w) (is_number w) (cut_starts bytes w rest split h) split.each d;
  stops = split.stops;
}

pub doc_leads : (bytes rest w after : List ℕ) → bytes ≡ 47 ∷ rest → Splits is_line_byte rest w after → Leads (47 ∷ 47 ∷ bytes) (token (doc w)) after
doc_leads bytes rest w after e split = record {
  whole = ap (λ r. 47 ∷ 47 ∷ r) (e ∙ ap (λ r. 47 ∷ r) split.whole);
  lawful = split.each;
  stops = split.stops;
}

pub comment_leads : (bytes w after : List ℕ) → begins (λ b. b == 47) bytes ≡ false → Splits is_line_byte bytes w after → Starts (47 ∷ 47 ∷ bytes) None after
comment_leads bytes w after n split = (
  comment w,
  refl,
  record {
    whole = ap (λ r. 47 ∷ 47 ∷ r) split.whole;
    lawful = all_two (list_all is_line_byte w) (not (begins (λ b. b == 47) w)) split.each (not_begins w after (sym (ap (begins (λ b. b == 47)) split.whole) ∙ n));
    stops = split.stops;
  },
)

pub block_leads : (bytes rest after : List ℕ) → bytes ≡ 42 ∷ rest → Closes rest after → Starts (47 ∷ bytes) None after
block_leads bytes rest after e c = (
  block c.0,
  refl,
  record {
    whole = ap (λ r. 47 ∷ r) (e ∙ ap (λ r. 42 ∷ r) (c.1 ∙ sym (append_assoc c.0 (42 ∷ 47 ∷ []) after)));
    lawful = c.2;
    stops = never after;
  },
)

pub blank_leads : (bytes : List ℕ) (b : ℕ) (rest : List ℕ) → bytes ≡ b ∷ rest → is_blank b ≡ true → Starts bytes None rest
blank_leads bytes b rest e h = (blank b, refl, record { whole = e; lawful = h; stops = never rest })

pub mark_leads : (bytes : List ℕ) (b : ℕ) (rest : List ℕ) → bytes ≡ b ∷ rest → is_mark b ≡ true → starts_number bytes ≡ false → Leads bytes (token (mark b)) rest
mark_leads bytes b rest e h n = record { whole = e; lawful = h; stops = point_stops b rest (sym (ap starts_number e) ∙ n) }

pub mark_cuts : (bytes : List ℕ) (b : ℕ) (rest : List ℕ) → bytes ≡ b ∷ rest → is_mark b ≡ true → starts_number bytes ≡ false → lex_of bytes ≡ with_front (mark b ∷ []) (lex_of rest)
mark_cuts bytes b rest e h n = ap lex_of e ∙ a_mark b rest h (point_stops b rest (sym (ap starts_number e) ∙ n))

pub closes_later : (bytes : List ℕ) (b : ℕ) (rest after : List ℕ) → bytes ≡ b ∷ rest → closes bytes ≡ false → Closes rest after → Closes bytes after
closes_later bytes b rest after e n c = (
  b ∷ c.0,
  e ∙ ap (λ r. b ∷ r) c.1,
  all_two (not (closes (b ∷ c.0))) (stays_open c.0) (closes_earlier b c.0 after (sym (ap closes (e ∙ ap (λ r. b ∷ r) c.1)) ∙ n)) c.2,
)

-- The bytes before `rest` are parts with this many tokens, whatever parts follow.
abbrev pub Reaches : List ℕ → List ℕ → ℕ → Type 0
Reaches text rest count = (before : List Part) × (text ≡ spelled before ++ rest) × (count ≡ length (tokens_in before))
    × ((after : List Part) → AreParts after → rest ≡ spelled after → AreParts (before ++ after))

spelled_append : (xs ys : List Part) → spelled (xs ++ ys) ≡ spelled xs ++ spelled ys
spelled_append [] ys = refl
spelled_append (x ∷ xs) ys = ap (λ r. part_bytes x ++ r) (spelled_append xs ys) ∙ sym (append_assoc (part_bytes x) (spelled xs) (spelled ys))

tokens_append : (xs ys : List Part) → tokens_in (xs ++ ys) ≡ tokens_in xs ++ tokens_in ys
tokens_append [] ys = refl
tokens_append (token p ∷ xs) ys = ap (λ r. p ∷ r) (tokens_append xs ys)
tokens_append (blank b ∷ xs) ys = tokens_append xs ys
tokens_append (comment w ∷ xs) ys = tokens_append xs ys
tokens_append (block w ∷ xs) ys = tokens_append xs ys

pub reaches_self : (text : List ℕ) → Reaches text text 0
reaches_self text = ([], refl, refl, λ after a e. a)

pub reaches_on : (text rest after : List ℕ) (count n : ℕ) (p : Part) → Reaches text rest count → Leads rest p after → n ≡ count + length (tokens_in (p ∷ [])) → Reaches text after n
reaches_on text rest after count n p r l e =
    let b = r.0 in (
      b ++ p ∷ [],
      r.1 ∙ ap (λ x. spelled b ++ x) (l.whole ∙ ap (λ x. x ++ after) (sym (append-nil (part_bytes p)))) ∙ sym (append_assoc (spelled b) (spelled (p ∷ [])) after) ∙ ap (λ x. x ++ after) (sym (spelled_append b (p ∷ []))),
      omega (arith, r.2, ap length (tokens_append b (p ∷ [])), length-append (tokens_in b) (tokens_in (p ∷ []))),
      λ qs a f. subst AreParts (sym (append_assoc b (p ∷ []) qs)) (r.3 (p ∷ qs) (l.lawful, subst (λ x. begins (goes_on p) x ≡ false) f l.stops, a) (l.whole ∙ ap (λ x. part_bytes p ++ x) f)),
    )

abbrev ok : List Piece → Read
ok ps = Ok ps

ok_is : (a b : List Piece) → ok a ≡ ok b → a ≡ b
ok_is a b e = cc

pub not_both : (ps : List Piece) (f : LexFault × ℕ) (r : Read) → r ≡ Ok ps → r ≡ Err f → ⊥
not_both ps f (Ok x) e g = cc
not_both ps f (Err x) e g = cc

-- of the whole text no token is counted yet
pub begun : (text : List ℕ) (index : ℕ) (ps : List Piece) → lex_of text ≡ Ok ps → lex_of text ≡ Ok (drop (index - index) ps)
begun text index ps o =
    let n : 0 ≡ index - index = omega arith in
    o ∙ ap (λ k. ok (drop k ps)) n

fronted : (p : Piece) (r : Read) (ps : List Piece) → with_front (p ∷ []) r ≡ Ok ps → (qs : List Piece) × (r ≡ Ok qs) × (p ∷ qs ≡ ps)
fronted p (Ok qs) ps e = (qs, refl, cc)
fronted p (Err f) ps e = absurd cc

pub one_off : (p : Piece) (rest after : List ℕ) (ps : List Piece) → lex_of rest ≡ with_front (p ∷ []) (lex_of after) → lex_of rest ≡ Ok ps → (qs : List Piece) × (lex_of after ≡ Ok qs) × (p ∷ qs ≡ ps)
one_off p rest after ps l o = fronted p (lex_of after) ps (sym l ∙ o)

pub none_off : (rest after : List ℕ) (ps : List Piece) → lex_of rest ≡ with_front [] (lex_of after) → lex_of rest ≡ Ok ps → lex_of after ≡ Ok ps
none_off rest after ps l o = sym (no_front (lex_of after)) ∙ sym l ∙ o

pub drop_next : (n : ℕ) (ps : List Piece) (p : Piece) (qs : List Piece) → p ∷ qs ≡ drop n ps → qs ≡ drop (n + 1) ps
drop_next n ps p qs e = ap (drop 1) e ∙ drop-drop 1 n ps

pub counted : (p : Piece) (text rest after : List ℕ) (index left : ℕ) → left < index + 1 → 0 < left → lex_of rest ≡ with_front (p ∷ []) (lex_of after)
    → ((ps : List Piece) → lex_of text ≡ Ok ps → index ≤ length ps → lex_of rest ≡ Ok (drop (index - left) ps))
    → (ps : List Piece) → lex_of text ≡ Ok ps → index ≤ length ps → lex_of after ≡ Ok (drop (index - (left - 1)) ps)
counted p text rest after index left h k l so_far ps o i =
    let f = one_off p rest after (drop (index - left) ps) l (so_far ps o i) in
    let e : (index - left) + 1 ≡ index - (left - 1) = omega arith in
    f.1 ∙ ap ok (drop_next (index - left) ps p f.0 f.2 ∙ ap (λ n. drop n ps) e)

stands : (text rest : List ℕ) (index count : ℕ) (ps : List Piece) → Reaches text rest count → index ≡ count → lex_of text ≡ Ok ps → (after : List Part) → AreParts after → rest ≡ spelled after → TokenFirst after
    → StandsAt text ps index (length text - length rest)
stands text rest index count ps r i o after a e f =
    let b = r.0 in
    let parts = r.3 after a e in
    let spells : text ≡ spelled (b ++ after) = r.1 ∙ ap (λ x. spelled b ++ x) e ∙ sym (spelled_append b after) in
    (b, after, parts, spells, ok_is ps (tokens_in (b ++ after)) (sym o ∙ ap lex_of spells ∙ spelling_read (b ++ after) parts), i ∙ r.2, omega (arith, ap length r.1, length-append (spelled b) rest), f)

pub found_at : (p : Piece) (text rest after : List ℕ) (index left : ℕ) → Reaches text rest (index - left) → left ≡ 0 → lex_of rest ≡ with_front (p ∷ []) (lex_of after) → Leads rest (token p) after
    → ((ps : List Piece) → lex_of text ≡ Ok ps → index ≤ length ps → lex_of rest ≡ Ok (drop (index - left) ps))
    → (ps : List Piece) → lex_of text ≡ Ok ps → index ≤ length ps → StandsAt text ps index (length text - length rest)
found_at p text rest after index left r z l w so_far ps o i =
    let f = one_off p rest after (drop (index - left) ps) l (so_far ps o i) in
    let g = spelling_found after f.0 f.1 in
    stands text rest index (index - left) ps r (omega arith) o (token p ∷ g.0) (w.lawful, subst (λ x. begins (goes_on (token p)) x ≡ false) g.2 w.stops, g.1) (w.whole ∙ ap (λ x. bytes_of p ++ x) g.2) tt

abbrev nothing : List Piece
nothing = []

no_more : (ps : List Piece) → lex_of [] ≡ Ok ps → ps ≡ nothing
no_more ps o = cc

pub ends_at : (text rest : List ℕ) (index left : ℕ) → rest ≡ [] → left ≤ index → Reaches text rest (index - left)
    → ((ps : List Piece) → lex_of text ≡ Ok ps → index ≤ length ps → lex_of rest ≡ Ok (drop (index - left) ps))
    → (ps : List Piece) → lex_of text ≡ Ok ps → index ≤ length ps → StandsAt text ps index (length text)
ends_at text rest index left z h r so_far ps o i =
    let none : drop (index - left) ps ≡ [] = no_more (drop (index - left) ps) (sym (ap lex_of z) ∙ so_far ps o i) in
    let same : index ≡ index - left = omega (arith, ap length none, length-drop (index - left) ps) in
    subst (λ at. StandsAt text ps index at) (omega (arith, ap length z)) (stands text rest index (index - left) ps r same o [] tt z tt)

more_front : (xs : List Piece) (p : Piece) (r : Read) → with_front (xs ++ p ∷ []) r ≡ with_front xs (with_front (p ∷ []) r)
more_front xs p (Ok qs) = ap ok (append_assoc xs (p ∷ []) qs)
more_front xs p (Err e) = refl

pub read_more : (xs : List Piece) (p : Piece) (text rest after : List ℕ) → lex_of rest ≡ with_front (p ∷ []) (lex_of after) → with_front xs (lex_of rest) ≡ lex_of text → with_front (xs ++ p ∷ []) (lex_of after) ≡ lex_of text
read_more xs p text rest after l h = more_front xs p (lex_of after) ∙ ap (with_front xs) (sym l) ∙ h

pub empty_is : (bytes : List ℕ) → (length bytes == 0) ≡ true → bytes ≡ []
empty_is [] h = refl
empty_is (b ∷ bs) h = absurd (omega (arith, eqb-true (length (b ∷ bs)) 0 h))
