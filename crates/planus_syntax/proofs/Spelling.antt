-- However tokens are spelled, they are read.
use Rattle.std.proofs.Common.{◌≡◌, ℕ, zero, suc, ◌<◌, ◌≤◌, List, [], ◌∷◌, ◌++◌, length, take, drop, arith, Bool, true, false, refl, sym, ap, ◌∙◌, subst, append_assoc, Result, Ok, Err}
use Rattle.std.specs.Prelude.{fold, not, ◌==◌, ◌||◌, ◌&&◌}
use Rattle.std.specs.List.{list_all}
use Rattle.std.specs.Str.{is_utf8}
use Rattle.std.specs.Char.{is_ascii_digit}
use Rattle.std.proofs.lemmas.Bool.{eqb-true}
use Rattle.std.proofs.lemmas.List.{length-append}
use Rattle.planus_syntax.specs.declared.lexer.LexFault.{LexFault}
use Rattle.planus_syntax.specs.declared.lexer.LexFault.TheVariants.{Strange}
use Rattle.planus_syntax.proofs.Runs.{end, splits}
use Rattle.planus_syntax.specs.Tokens.{Piece, word, number, text, doc, mark, begins, is_word_byte, is_number_start, starts_number, is_number_byte, is_number, is_line_byte, is_blank, is_mark, is_some, is_lawful, bytes_of}
use Rattle.planus_syntax.specs.Lexing.{LexState, between, run, slash, slashes, Read, opened, going, with_front, lex_from, lex_of}
use Rattle.planus_syntax.specs.Lexing as machine
use Rattle.planus_syntax.specs.Strings.{start, is_quote, is_string, is_closed, string_step}
use Rattle.planus_syntax.specs.Cutting.{Splits, string_end}
use Rattle.planus_syntax.proofs.Quotes.{Quoted, string_found, string_lawful, a_string, bad_string, no_string}
use Rattle.planus_syntax.specs.Spelled.{Part, token, blank, comment, block, part_bytes, is_part, goes_on, spelled, tokens_in, AreParts, closes, stays_open}
use Rattle.planus_syntax.proofs.Scanning.{both, no_front, digit_goes, a_word, a_number, started, third_slash, two_slashes, slash_slash, slash_star, block_closes, block_goes, no_number, one_slash}
use Rattle.planus_syntax.proofs.Marks.{a_mark, point_stops, neither, word_front, front_says, not_true, never}

pub blank_at : (P : ℕ → Type 0) (b : ℕ) (u v w x : Bool) → (b == 32) ≡ u → (b == 10) ≡ v → (b == 9) ≡ w → (b == 13) ≡ x → (u || (v || (w || x))) ≡ true → P 32 → P 10 → P 9 → P 13 → P b
blank_at P b true v w x e f g h t p q r s = subst P (sym (eqb-true b 32 e)) p
blank_at P b false true w x e f g h t p q r s = subst P (sym (eqb-true b 10 f)) q
blank_at P b false false true x e f g h t p q r s = subst P (sym (eqb-true b 9 g)) r
blank_at P b false false false true e f g h t p q r s = subst P (sym (eqb-true b 13 h)) s
blank_at P b false false false false e f g h t p q r s = absurd cc

blank_skips : (b : ℕ) (rest : List ℕ) → is_blank b ≡ true → lex_of (b ∷ rest) ≡ lex_of rest
blank_skips b rest h = blank_at (λ x. lex_of (x ∷ rest) ≡ lex_of rest) b (b == 32) (b == 10) (b == 9) (b == 13) refl refl refl refl h (no_front (lex_of rest)) (no_front (lex_of rest)) (no_front (lex_of rest)) (no_front (lex_of rest))

feed : (b : ℕ) (v : Bool) → (b == 10) ≡ v → not v ≡ false → b ≡ 10
feed b true e h = eqb-true b 10 e
feed b false e h = absurd cc

pub no_third : (w rest : List ℕ) → begins (λ b. b == 47) w ≡ false → begins is_line_byte rest ≡ false → begins (λ b. b == 47) (w ++ rest) ≡ false
no_third (c ∷ w) rest h s = h
no_third [] [] h s = refl
no_third [] (b ∷ rest) h s = subst (λ x. (x == 47) ≡ false) (sym (feed b (b == 10) refl s)) refl

digit_on : (v : Bool) (w rest : List ℕ) → (v && begins is_ascii_digit w) ≡ true → (v && begins is_ascii_digit (w ++ rest)) ≡ true
digit_on true [] rest h = absurd cc
digit_on true (c ∷ w) rest h = h
digit_on false w rest h = h

starts_on_at : (v x : Bool) (w rest : List ℕ) → (v || (x && begins is_ascii_digit w)) ≡ true → (v || (x && begins is_ascii_digit (w ++ rest))) ≡ true
starts_on_at true x w rest h = refl
starts_on_at false x w rest h = digit_on x w rest h

pub starts_on : (w rest : List ℕ) → starts_number w ≡ true → starts_number (w ++ rest) ≡ true
starts_on [] rest h = absurd cc
starts_on (c ∷ w) rest h = starts_on_at (is_number_start c) (c == 46) w rest h

pub one_part : (p : Piece) (rest : List ℕ) → is_lawful p ≡ true → begins (goes_on (token p)) rest ≡ false → lex_of (bytes_of p ++ rest) ≡ with_front (p ∷ []) (lex_of rest)
one_part (word w) rest h s =
    let a = both (is_some w) (list_all is_word_byte w && not (begins is_number_start w)) h in
    let b = both (list_all is_word_byte w) (not (begins is_number_start w)) a.1 in
    a_word (w ++ rest) w rest (record { whole = refl; each = b.0; stops = s }) (word_front w rest a.0 b.0) (front_says is_number_start w rest false a.0 (not_true (begins is_number_start w) b.1))
one_part (number w) rest h s =
    let a = both (starts_number w) (list_all is_number_byte w && is_number w) h in
    let b = both (list_all is_number_byte w) (is_number w) a.1 in
    a_number (w ++ rest) w rest (record { whole = refl; each = b.0; stops = s }) (starts_on w rest a.0) b.1
one_part (text []) rest h s = absurd cc
one_part (text (q ∷ w)) rest h s =
    let a = both (is_string (q ∷ w)) (is_utf8 (q ∷ w)) h in
    let b = both (is_quote q) (is_closed (fold (string_step q) start w)) a.0 in
    a_string q (w ++ rest) rest (record { front = w; whole = refl; ends = b.1 }) b.0 a.1
one_part (doc w) rest h s =
    slash_slash (47 ∷ (w ++ rest))
    ∙ third_slash (47 ∷ (w ++ rest)) (w ++ rest) w rest refl (record { whole = refl; each = h; stops = s })
one_part (mark b) rest h s = a_mark b rest h s

comment_skips : (w rest : List ℕ) → is_part (comment w) ≡ true → begins is_line_byte rest ≡ false → lex_of (47 ∷ 47 ∷ (w ++ rest)) ≡ lex_of rest
comment_skips w rest h s =
    let a = both (list_all is_line_byte w) (not (begins (λ b. b == 47) w)) h in
    slash_slash (w ++ rest)
    ∙ two_slashes (w ++ rest) w rest (no_third w rest (not_true (begins (λ b. b == 47) w) a.1) s) (record { whole = refl; each = a.0; stops = s })
    ∙ no_front (lex_of rest)

and_false : (a : Bool) → (a && false) ≡ false
and_false true = refl
and_false false = refl

pub closes_on : (b : ℕ) (w rest : List ℕ) → closes (b ∷ w) ≡ false → closes (b ∷ (w ++ 42 ∷ 47 ∷ rest)) ≡ false
closes_on b [] rest h = and_false (b == 42)
closes_on b (c ∷ w) rest h = h

block_on : (w rest : List ℕ) → stays_open w ≡ true → lex_from machine.block (w ++ 42 ∷ 47 ∷ rest) ≡ lex_of rest
block_on [] rest h = block_closes rest
block_on (b ∷ w) rest h =
    let a = both (not (closes (b ∷ w))) (stays_open w) h in
    block_goes (b ∷ (w ++ 42 ∷ 47 ∷ rest)) b (w ++ 42 ∷ 47 ∷ rest) refl (closes_on b w rest (not_true (closes (b ∷ w)) a.0))
    ∙ block_on w rest a.1

block_skips : (w rest : List ℕ) → stays_open w ≡ true → lex_of (47 ∷ 42 ∷ ((w ++ 42 ∷ 47 ∷ []) ++ rest)) ≡ lex_of rest
block_skips w rest h =
    slash_star ((w ++ 42 ∷ 47 ∷ []) ++ rest)
    ∙ ap (lex_from machine.block) (append_assoc w (42 ∷ 47 ∷ []) rest)
    ∙ block_on w rest h

pub spelling_read : (parts : List Part) → AreParts parts → lex_of (spelled parts) ≡ Ok (tokens_in parts)
spelling_read [] h = refl
spelling_read (token p ∷ parts) h = one_part p (spelled parts) h.0 h.1 ∙ ap (with_front (p ∷ [])) (spelling_read parts h.2)
spelling_read (blank b ∷ parts) h = blank_skips b (spelled parts) h.0 ∙ spelling_read parts h.2
spelling_read (comment w ∷ parts) h = comment_skips w (spelled parts) h.0 h.1 ∙ spelling_read parts h.2
spelling_read (block w ∷ parts) h = block_skips w (spelled parts) h.0 ∙ spelling_read parts h.2

abbrev pub Found : List ℕ → List Piece → Type 0
Found bytes ps = (parts : List Part) × AreParts parts × (bytes ≡ spelled parts) × (ps ≡ tokens_in parts)

front_ok : (p : Piece) (r : Read) (ps : List Piece) → with_front (p ∷ []) r ≡ Ok ps → (qs : List Piece) × (r ≡ Ok qs) × (p ∷ qs ≡ ps)
front_ok p (Ok qs) ps e = (qs, refl, cc)
front_ok p (Err f) ps e = absurd cc

shorter : (bytes front rest : List ℕ) → bytes ≡ front ++ rest → 0 < length front → (n : ℕ) → length bytes ≤ suc n → length rest ≤ n
shorter bytes front rest e h n le = omega (arith, length-append front rest, ap length e)

pub token_found : (p : Piece) (bytes rest : List ℕ) (ps : List Piece) → is_lawful p ≡ true → begins (goes_on (token p)) rest ≡ false → bytes ≡ bytes_of p ++ rest → lex_of bytes ≡ with_front (p ∷ []) (lex_of rest) → lex_of bytes ≡ Ok ps
    → ((qs : List Piece) → lex_of rest ≡ Ok qs → Found rest qs) → Found bytes ps
token_found p bytes rest ps h s e l o again =
    let f = front_ok p (lex_of rest) ps (sym l ∙ o) in
    let g = again f.0 f.1 in
    (token p ∷ g.0, (h, subst (λ r. begins (goes_on (token p)) r ≡ false) g.2 s, g.1), e ∙ ap (λ r. bytes_of p ++ r) g.2, sym f.2 ∙ ap (λ qs. p ∷ qs) g.3)

skip_found : (p : Part) (bytes rest : List ℕ) (ps : List Piece) → ((qs : List Part) → tokens_in (p ∷ qs) ≡ tokens_in qs) → is_part p ≡ true → begins (goes_on p) rest ≡ false → bytes ≡ part_bytes p ++ rest → Found rest ps → Found bytes ps
skip_found p bytes rest ps t h s e g =
    (p ∷ g.0, (h, subst (λ r. begins (goes_on p) r ≡ false) g.2 s, g.1), e ∙ ap (λ r. part_bytes p ++ r) g.2, g.3 ∙ sym (t g.0))

differ : (r : Read) (f : LexFault × ℕ) (ps : List Piece) → r ≡ Err f → r ≡ Ok ps → ⊥
differ (Ok x) f ps e o = cc
differ (Err x) f ps e o = cc

err_not_ok : (bytes : List ℕ) (f : LexFault × ℕ) (ps : List Piece) → lex_of bytes ≡ Err f → lex_of bytes ≡ Ok ps → ⊥
err_not_ok bytes f ps e o = differ (lex_of bytes) f ps e o

pub all_three : (a b c : Bool) → a ≡ true → b ≡ true → c ≡ false → (a && (b && not c)) ≡ true
all_three a b c e f g = rw (e, f, g) refl

pub all_and : (a b c : Bool) → a ≡ true → b ≡ true → c ≡ true → (a && (b && c)) ≡ true
all_and a b c e f g = rw (e, f, g) refl

pub all_two : (a b : Bool) → a ≡ true → b ≡ true → (a && b) ≡ true
all_two a b e f = rw (e, f) refl

abbrev Below : ℕ → Type 0
Below n = (rest : List ℕ) (qs : List Piece) → length rest ≤ n → lex_of rest ≡ Ok qs → Found rest qs

cut_digit : (w rest : List ℕ) → begins is_number_byte rest ≡ false → begins is_ascii_digit (w ++ rest) ≡ true → begins is_ascii_digit w ≡ true
cut_digit [] [] s h = absurd cc
cut_digit [] (b ∷ bs) s h = absurd (let g = digit_goes b h in cc)
cut_digit (c ∷ w) rest s h = h

cut_at : (c : ℕ) (w rest : List ℕ) (v : Bool) → is_number_start c ≡ v → begins is_number_byte rest ≡ false → (is_number_start c || (c == 46 && begins is_ascii_digit (w ++ rest))) ≡ true → (is_number_start c || (c == 46 && begins is_ascii_digit w)) ≡ true
cut_at c w rest true e s h = rw e refl
cut_at c w rest false e s h =
    let a = both (c == 46) (begins is_ascii_digit (w ++ rest)) (sym (ap (λ v. v || (c == 46 && begins is_ascii_digit (w ++ rest))) e) ∙ h) in
    let d = cut_digit w rest s a.1 in
    rw (e, a.0, d) refl

-- what is cut off a text where a number starts, and is a number, starts one too
pub cut_starts : (bytes w rest : List ℕ) → Splits is_number_byte bytes w rest → starts_number bytes ≡ true → starts_number w ≡ true
cut_starts bytes [] rest split h = absurd (let f : begins is_number_byte rest ≡ true = sym (ap (begins is_number_byte) split.whole) ∙ started bytes h in let g = split.stops in cc)
cut_starts bytes (c ∷ w) rest split h = cut_at c w rest (is_number_start c) refl split.stops (sym (ap starts_number split.whole) ∙ h)

number_found : (n : ℕ) (bytes w rest : List ℕ) (ps : List Piece) (v : Bool) → is_number w ≡ v → Splits is_number_byte bytes w rest → starts_number bytes ≡ true → length bytes ≤ suc n → lex_of bytes ≡ Ok ps → Below n → Found bytes ps
number_found n bytes [] rest ps v e split h le o below = absurd (let f : begins is_number_byte rest ≡ true = sym (ap (begins is_number_byte) split.whole) ∙ started bytes h in let g = split.stops in cc)
number_found n bytes (c ∷ w) rest ps true e split h le o below =
    token_found (number (c ∷ w)) bytes rest ps (all_and (starts_number (c ∷ w)) (list_all is_number_byte (c ∷ w)) (is_number (c ∷ w)) (cut_starts bytes (c ∷ w) rest split h) split.each e) split.stops split.whole (a_number bytes (c ∷ w) rest split h e) o
    (λ qs q. below rest qs (shorter bytes (c ∷ w) rest split.whole (omega arith) n le) q)
number_found n bytes (c ∷ w) rest ps false e split h le o below = absurd (err_not_ok bytes _ ps (no_number bytes (c ∷ w) rest split h e) o)

word_found : (n : ℕ) (bytes w rest : List ℕ) (ps : List Piece) → Splits is_word_byte bytes w rest → begins is_word_byte bytes ≡ true → begins is_number_start bytes ≡ false → length bytes ≤ suc n → lex_of bytes ≡ Ok ps → Below n → Found bytes ps
word_found n bytes [] rest ps split h m le o below = absurd (let f : begins is_word_byte rest ≡ true = sym (ap (begins is_word_byte) split.whole) ∙ h in let g = split.stops in cc)
word_found n bytes (c ∷ w) rest ps split h m le o below =
    let f : begins is_number_start (c ∷ w) ≡ false = sym (ap (begins is_number_start) split.whole) ∙ m in
    token_found (word (c ∷ w)) bytes rest ps (all_three true (list_all is_word_byte (c ∷ w)) (begins is_number_start (c ∷ w)) refl split.each f) split.stops split.whole (a_word bytes (c ∷ w) rest split h m) o
    (λ qs q. below rest qs (shorter bytes (c ∷ w) rest split.whole (omega arith) n le) q)

front_is : (m : ℕ) (bs : List ℕ) → begins (λ b. b == m) bs ≡ true → (rest : List ℕ) × (bs ≡ m ∷ rest)
front_is m [] h = absurd cc
front_is m (b ∷ bs) h = (bs, ap (λ x. x ∷ bs) (eqb-true b m h))

closed_found : (n q : ℕ) (bs rest : List ℕ) (ps : List Piece) (s : Quoted q start bs rest) (u : Bool) → is_utf8 (q ∷ s.front) ≡ u → is_quote q ≡ true → length bs ≤ n → lex_of (q ∷ bs) ≡ Ok ps → Below n → Found (q ∷ bs) ps
closed_found n q bs rest ps s true u h le o below =
    token_found (text (q ∷ s.front)) (q ∷ bs) rest ps (string_lawful q bs rest s h u) (never rest) (ap (λ r. q ∷ r) s.whole) (a_string q bs rest s h u) o
    (λ qs r. below rest qs (omega (arith, ap length s.whole, length-append s.front rest)) r)
closed_found n q bs rest ps s false u h le o below =
    absurd (err_not_ok (q ∷ bs) _ ps (bad_string q bs rest s h u) o)

text_found : (n q : ℕ) (bs : List ℕ) (ps : List Piece) (r : Result (List ℕ) (LexFault × ℕ)) → string_end q start bs ≡ r → is_quote q ≡ true → length bs ≤ n → lex_of (q ∷ bs) ≡ Ok ps → Below n → Found (q ∷ bs) ps
text_found n q bs ps (Ok rest) e h le o below =
    let s = string_found q start bs rest e in
    closed_found n q bs rest ps s (is_utf8 (q ∷ s.front)) refl h le o below
text_found n q bs ps (Err f) e h le o below = absurd (err_not_ok (q ∷ bs) f ps (no_string q bs f h e) o)

pub not_begins : (w after : List ℕ) → begins (λ b. b == 47) (w ++ after) ≡ false → not (begins (λ b. b == 47) w) ≡ true
not_begins [] after h = refl
not_begins (c ∷ w) after h = rw h refl

second_found : (n : ℕ) (rest : List ℕ) (ps : List Piece) (v : Bool) → begins (λ b. b == 47) rest ≡ v → suc (length rest) ≤ n → lex_of (47 ∷ 47 ∷ rest) ≡ Ok ps → Below n → Found (47 ∷ 47 ∷ rest) ps
second_found n rest ps true e le o below =
    let f = front_is 47 rest e in
    let split = splits is_line_byte f.0 in
    token_found (doc (take (end is_line_byte f.0) f.0)) (47 ∷ 47 ∷ rest) (drop (end is_line_byte f.0) f.0) ps split.each split.stops
    (ap (λ r. 47 ∷ 47 ∷ r) (f.1 ∙ ap (λ r. 47 ∷ r) split.whole))
    (slash_slash rest ∙ third_slash rest f.0 _ _ f.1 split) o
    (λ qs q. below (drop (end is_line_byte f.0) f.0) qs (omega (arith, ap length f.1, ap length split.whole, length-append (take (end is_line_byte f.0) f.0) (drop (end is_line_byte f.0) f.0))) q)
second_found n rest ps false e le o below =
    let split = splits is_line_byte rest in
    let w = take (end is_line_byte rest) rest in
    let after = drop (end is_line_byte rest) rest in
    let lawful : is_part (comment w) ≡ true = all_two (list_all is_line_byte w) (not (begins (λ b. b == 47) w)) split.each (not_begins w after (sym (ap (begins (λ b. b == 47)) split.whole) ∙ e)) in
    skip_found (comment w) (47 ∷ 47 ∷ rest) after ps (λ qs. refl) lawful split.stops (ap (λ r. 47 ∷ 47 ∷ r) split.whole)
    (below after ps (omega (arith, ap length split.whole, length-append w after)) (sym (slash_slash rest ∙ two_slashes rest w after e split ∙ no_front (lex_of after)) ∙ o))

abbrev Closed : List ℕ → List Piece → Type 0
Closed bytes ps = (w : List ℕ) × (rest : List ℕ) × (bytes ≡ w ++ 42 ∷ 47 ∷ rest) × (stays_open w ≡ true) × (lex_of rest ≡ Ok ps)

and_parts : (b : ℕ) (bs : List ℕ) (u v : Bool) → (b == 42) ≡ u → begins (λ c. c == 47) bs ≡ v → (u && v) ≡ true → (rest : List ℕ) × (b ∷ bs ≡ 42 ∷ 47 ∷ rest)
and_parts b bs true true e f h =
    let g = front_is 47 bs f in
    (g.0, ap (λ c. c ∷ bs) (eqb-true b 42 e) ∙ ap (λ r. 42 ∷ r) g.1)
and_parts b bs true false e f h = absurd cc
and_parts b bs false v e f h = absurd cc

not_and : (a : Bool) → not (a && false) ≡ true
not_and true = refl
not_and false = refl

pub closes_earlier : (b : ℕ) (w rest : List ℕ) → closes (b ∷ (w ++ 42 ∷ 47 ∷ rest)) ≡ false → not (closes (b ∷ w)) ≡ true
closes_earlier b [] rest h = not_and (b == 42)
closes_earlier b (c ∷ w) rest h = rw h refl

block_found_at : (b : ℕ) (bs : List ℕ) (ps : List Piece) (v : Bool) → closes (b ∷ bs) ≡ v → (lex_from machine.block bs ≡ Ok ps → Closed bs ps) → lex_from machine.block (b ∷ bs) ≡ Ok ps → Closed (b ∷ bs) ps
block_found_at b bs ps true e again o =
    let f = and_parts b bs (b == 42) (begins (λ c. c == 47) bs) refl refl e in
    ([], f.0, f.1, refl, sym (ap (lex_from machine.block) f.1 ∙ block_closes f.0) ∙ o)
block_found_at b bs ps false e again o =
    let g = again (sym (block_goes (b ∷ bs) b bs refl e) ∙ o) in
    (b ∷ g.0, g.1, ap (λ r. b ∷ r) g.2, all_two (not (closes (b ∷ g.0))) (stays_open g.0) (closes_earlier b g.0 g.1 (sym (ap (λ r. closes (b ∷ r)) g.2) ∙ e)) g.3, g.4)

block_found : (bs : List ℕ) (ps : List Piece) → lex_from machine.block bs ≡ Ok ps → Closed bs ps
block_found [] ps o = absurd cc
block_found (b ∷ bs) ps o = block_found_at b bs ps (closes (b ∷ bs)) refl (block_found bs ps) o

star_found : (n : ℕ) (rest : List ℕ) (ps : List Piece) → suc (length rest) ≤ n → lex_of (47 ∷ 42 ∷ rest) ≡ Ok ps → Below n → Found (47 ∷ 42 ∷ rest) ps
star_found n rest ps le o below =
    let f = block_found rest ps (sym (slash_star rest) ∙ o) in
    skip_found (block f.0) (47 ∷ 42 ∷ rest) f.1 ps (λ qs. refl) f.3 (never f.1) (ap (λ r. 47 ∷ 42 ∷ r) (f.2 ∙ sym (append_assoc f.0 (42 ∷ 47 ∷ []) f.1)))
    (below f.1 ps (omega (arith, ap length f.2, length-append f.0 (42 ∷ 47 ∷ f.1))) f.4)

slash_found : (n : ℕ) (bs : List ℕ) (ps : List Piece) (u v : Bool) → begins (λ b. b == 47) bs ≡ u → begins (λ b. b == 42) bs ≡ v → length bs ≤ n → lex_of (47 ∷ bs) ≡ Ok ps → Below n → Found (47 ∷ bs) ps
slash_found n bs ps true v e f le o below =
    let g = front_is 47 bs e in
    subst (λ r. Found (47 ∷ r) ps) (sym g.1) (second_found n g.0 ps (begins (λ b. b == 47) g.0) refl (omega (arith, ap length g.1)) (sym (ap (λ r. lex_of (47 ∷ r)) g.1) ∙ o) below)
slash_found n bs ps false true e f le o below =
    let g = front_is 42 bs f in
    subst (λ r. Found (47 ∷ r) ps) (sym g.1) (star_found n g.0 ps (omega (arith, ap length g.1)) (sym (ap (λ r. lex_of (47 ∷ r)) g.1) ∙ o) below)
slash_found n bs ps false false e f le o below = absurd (err_not_ok (47 ∷ bs) _ ps (one_slash bs e f) o)

no_point_at : (b : ℕ) (v : Bool) → (b == 46) ≡ v → is_mark b ≡ false → (b == 46) ≡ false
no_point_at b true e h =
    let f : is_mark b ≡ true = let P : ℕ → Type 0 = λ x. is_mark x ≡ true in subst P (sym (eqb-true b 46 e)) refl in
    absurd cc
no_point_at b false e h = e

pub no_point : (b : ℕ) → is_mark b ≡ false → (b == 46) ≡ false
no_point b h = no_point_at b (b == 46) refl h

class_found : (n b : ℕ) (bs : List ℕ) (ps : List Piece) (u v w x y z : Bool) → starts_number (b ∷ bs) ≡ u → is_word_byte b ≡ v → is_blank b ≡ w → is_mark b ≡ x → is_quote b ≡ y → (b == 47) ≡ z → length bs ≤ n → lex_of (b ∷ bs) ≡ Ok ps → Below n → Found (b ∷ bs) ps
class_found n b bs ps true v w x y z eu ev ew ex ey ez le o below =
    number_found n (b ∷ bs) _ _ ps _ refl (splits is_number_byte (b ∷ bs)) eu (omega arith) o below
class_found n b bs ps false true w x y z eu ev ew ex ey ez le o below =
    word_found n (b ∷ bs) _ _ ps (splits is_word_byte (b ∷ bs)) ev (neither (is_number_start b) _ eu).0 (omega arith) o below
class_found n b bs ps false false true x y z eu ev ew ex ey ez le o below =
    skip_found (blank b) (b ∷ bs) bs ps (λ qs. refl) ew (never bs) refl (below bs ps le (sym (blank_skips b bs ew) ∙ o))
class_found n b bs ps false false false true y z eu ev ew ex ey ez le o below =
    token_found (mark b) (b ∷ bs) bs ps ex (point_stops b bs eu) refl (a_mark b bs ex (point_stops b bs eu)) o (λ qs q. below bs qs le q)
class_found n b bs ps false false false false true z eu ev ew ex ey ez le o below =
    text_found n b bs ps (string_end b start bs) refl ey le o below
class_found n b bs ps false false false false false true eu ev ew ex ey ez le o below =
    subst (λ c. Found (c ∷ bs) ps) (sym (eqb-true b 47 ez)) (slash_found n bs ps _ _ refl refl le (sym (ap (λ c. lex_of (c ∷ bs)) (eqb-true b 47 ez)) ∙ o) below)
class_found n b bs ps false false false false false false eu ev ew ex ey ez le o below =
    absurd (err_not_ok (b ∷ bs) (Strange, suc (length bs)) ps (rw ((neither (is_number_start b) _ eu).0, ev, ew, no_point b ex, ex, ey, ez) refl) o)

nil_is : (ps : List Piece) → lex_of [] ≡ Ok ps → ps ≡ []
nil_is ps o = cc

found_below : (n : ℕ) → Below n
found_below zero [] ps le o = ([], tt, refl, nil_is ps o)
found_below zero (b ∷ bs) ps le o = absurd (omega arith)
found_below (suc n) [] ps le o = ([], tt, refl, nil_is ps o)
found_below (suc n) (b ∷ bs) ps le o = class_found n b bs ps (starts_number (b ∷ bs)) (is_word_byte b) (is_blank b) (is_mark b) (is_quote b) (b == 47) refl refl refl refl refl refl (omega arith) o (found_below n)

pub spelling_found : (bytes : List ℕ) (ps : List Piece) → lex_of bytes ≡ Ok ps → Found bytes ps
spelling_found bytes ps o = found_below (length bytes) bytes ps (omega arith) o
