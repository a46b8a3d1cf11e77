-- Strings are read up to their closing quote.
use Rattle.std.proofs.Common.{◌≡◌, ℕ, suc, ◌+◌, ◌-◌, ◌<◌, ◌≤◌, List, [], ◌∷◌, ◌++◌, length, take, Bool, true, false, cond, refl, sym, ap, ◌∙◌, subst, append_assoc, arith, Result, Ok, Err}
use Rattle.std.specs.Prelude.{fold, ◌==◌, ◌||◌}
use Rattle.std.specs.Str.{is_utf8}
use Rattle.std.proofs.lemmas.Bool.{eqb-true}
use Rattle.std.proofs.lemmas.List.{length-append}
use Rattle.planus_syntax.specs.declared.lexer.LexFault.{LexFault}
use Rattle.planus_syntax.specs.declared.lexer.LexFault.TheVariants.{NotUtf8}
use Rattle.planus_syntax.specs.declared.strings.StringState.{StringState}
use Rattle.planus_syntax.specs.declared.strings.StringState.TheVariants.{Plain, Escape, HexMark, HexDigit, Digits, End, Wrong}
use Rattle.planus_syntax.specs.Strings.{start, is_quote, string_step, is_closed, is_wrong}
use Rattle.planus_syntax.specs.Tokens.{Piece, text, begins, is_lawful}
use Rattle.planus_syntax.specs.Spelled.{token}
use Rattle.planus_syntax.specs.Lexing.{Read, between, quoted, text_piece, string_fault, closed, with_front, going, lex_from, lex_of}
use Rattle.planus_syntax.specs.Cutting.{string_end, Leads}
use Rattle.planus_syntax.proofs.Scanning.{no_front}
use Rattle.planus_syntax.proofs.Marks.{never}

closed_wrong : (q b : ℕ) (s : StringState) → is_closed s ≡ true → string_step q s b ≡ Wrong
closed_wrong q b (Plain due) h = absurd cc
closed_wrong q b (Escape due) h = absurd cc
closed_wrong q b (HexMark due) h = absurd cc
closed_wrong q b (HexDigit due value) h = absurd cc
closed_wrong q b (Digits high left value) h = absurd cc
closed_wrong q b End h = refl
closed_wrong q b Wrong h = refl

wrong_is : (s : StringState) → is_wrong s ≡ true → s ≡ Wrong
wrong_is (Plain due) h = absurd cc
wrong_is (Escape due) h = absurd cc
wrong_is (HexMark due) h = absurd cc
wrong_is (HexDigit due value) h = absurd cc
wrong_is (Digits high left value) h = absurd cc
wrong_is End h = absurd cc
wrong_is Wrong h = refl

wrong_stays : (q : ℕ) (w : List ℕ) → is_closed (fold (string_step q) Wrong w) ≡ false
wrong_stays q [] = refl
wrong_stays q (b ∷ w) = wrong_stays q w

not_wrong : (q : ℕ) (s : StringState) (w : List ℕ) → is_closed (fold (string_step q) s w) ≡ true → is_wrong s ≡ true → ⊥
not_wrong q s w h k =
    let f : is_closed (fold (string_step q) s w) ≡ false = ap (λ x. is_closed (fold (string_step q) x w)) (wrong_is s k) ∙ wrong_stays q w in cc

closes_alone : (q : ℕ) (s : StringState) (w : List ℕ) → is_closed s ≡ true → is_closed (fold (string_step q) s w) ≡ true → w ≡ []
closes_alone q s [] h k = refl
closes_alone q s (b ∷ w) h k =
    let f : is_closed (fold (string_step q) (string_step q s b) w) ≡ false = ap (λ x. is_closed (fold (string_step q) x w)) (closed_wrong q b s h) ∙ wrong_stays q w in absurd cc

-- ---- where a string ends

ends_at : (q : ℕ) (next : StringState) (w rest : List ℕ) (e : LexFault × ℕ) (u v : Bool) → is_closed next ≡ u → is_wrong next ≡ v → is_closed (fold (string_step q) next w) ≡ true
    → (is_closed next ≡ false → string_end q next (w ++ rest) ≡ Ok rest)
    → cond u (Ok (w ++ rest)) (cond v (Err e) (string_end q next (w ++ rest))) ≡ Ok rest
ends_at q next w rest e true v f g k again = ap (λ r. Ok (r ++ rest)) (closes_alone q next w f k)
ends_at q next w rest e false true f g k again = absurd (not_wrong q next w k g)
ends_at q next w rest e false false f g k again = again f

pub string_ends : (q : ℕ) (s : StringState) (w rest : List ℕ) → is_closed s ≡ false → is_closed (fold (string_step q) s w) ≡ true → string_end q s (w ++ rest) ≡ Ok rest
string_ends q s [] rest h k = absurd cc
string_ends q s (b ∷ w) rest h k =
    let next = string_step q s b in
    ends_at q next w rest _ (is_closed next) (is_wrong next) refl refl k (λ f. string_ends q next w rest f k)

-- the bytes up to the closing quote, and the rest
pub record Quoted (q : ℕ) (s : StringState) (bytes rest : List ℕ) : Type 0 where
  pub front : List ℕ
  pub whole : bytes ≡ front ++ rest
  pub ends : is_closed (fold (string_step q) s front) ≡ true

found_at : (q b : ℕ) (s : StringState) (bs rest : List ℕ) (e : LexFault × ℕ) (u v : Bool) → is_closed (string_step q s b) ≡ u → is_wrong (string_step q s b) ≡ v
    → cond u (Ok bs) (cond v (Err e) (string_end q (string_step q s b) bs)) ≡ Ok rest
    → (string_end q (string_step q s b) bs ≡ Ok rest → Quoted q (string_step q s b) bs rest) → Quoted q s (b ∷ bs) rest
found_at q b s bs rest e true v f g o again = record {
  front = b ∷ [];
  whole = ap (λ r. b ∷ r) cc;
  ends = f;
}
found_at q b s bs rest e false true f g o again = absurd cc
found_at q b s bs rest e false false f g o again =
    let a = again o in record { front = b ∷ a.front; whole = ap (λ r. b ∷ r) a.whole; ends = a.ends }

pub string_found : (q : ℕ) (s : StringState) (bs rest : List ℕ) → string_end q s bs ≡ Ok rest → Quoted q s bs rest
string_found q s [] rest o = absurd cc
string_found q s (b ∷ bs) rest o =
    let next = string_step q s b in
    found_at q b s bs rest _ (is_closed next) (is_wrong next) refl refl o (string_found q next bs rest)

-- ---- what is read

abbrev pub after_text : Result Piece LexFault → List ℕ → Read
after_text (Ok p) rest = with_front (p ∷ []) (lex_of rest)
after_text (Err f) rest = Err (f, suc (length rest))

text_ends : (r : Result Piece LexFault) (rest : List ℕ) → going (suc (length rest)) (closed r (Ok ([], between))) (λ next. lex_from next rest) ≡ after_text r rest
text_ends (Ok p) rest = refl
text_ends (Err f) rest = refl

read_at : (q : ℕ) (next : StringState) (b : ℕ) (acc w rest : List ℕ) (fault : LexFault) (u v : Bool) → is_closed next ≡ u → is_wrong next ≡ v → is_closed (fold (string_step q) next w) ≡ true
    → (is_closed next ≡ false → lex_from (quoted q next (acc ++ b ∷ [])) (w ++ rest) ≡ after_text (text_piece ((acc ++ b ∷ []) ++ w)) rest)
    → going (suc (length (w ++ rest))) (cond u (closed (text_piece (acc ++ b ∷ [])) (Ok ([], between))) (cond v (Err fault) (Ok ([], quoted q next (acc ++ b ∷ []))))) (λ n. lex_from n (w ++ rest))
    ≡ after_text (text_piece (acc ++ b ∷ w)) rest
read_at q next b acc w rest fault true v f g k again =
    let P : List ℕ → Type 0 = λ x. going (suc (length (x ++ rest))) (closed (text_piece (acc ++ b ∷ [])) (Ok ([], between))) (λ n. lex_from n (x ++ rest)) ≡ after_text (text_piece (acc ++ b ∷ x)) rest in
    subst P (sym (closes_alone q next w f k)) (text_ends (text_piece (acc ++ b ∷ [])) rest)
read_at q next b acc w rest fault false true f g k again = absurd (not_wrong q next w k g)
read_at q next b acc w rest fault false false f g k again =
    no_front (lex_from (quoted q next (acc ++ b ∷ [])) (w ++ rest)) ∙ again f ∙ ap (λ x. after_text (text_piece x) rest) (append_assoc acc (b ∷ []) w)

closed_read : (q : ℕ) (s : StringState) (acc w rest : List ℕ) → is_closed s ≡ false → is_closed (fold (string_step q) s w) ≡ true → lex_from (quoted q s acc) (w ++ rest) ≡ after_text (text_piece (acc ++ w)) rest
closed_read q s acc [] rest h k = absurd cc
closed_read q s acc (b ∷ w) rest h k =
    let next = string_step q s b in
    read_at q next b acc w rest (string_fault s b) (is_closed next) (is_wrong next) refl refl k (λ f. closed_read q next (acc ++ b ∷ []) w rest f k)

open_at : (q : ℕ) (next : StringState) (acc bs : List ℕ) (fault : LexFault) (e : LexFault × ℕ) (u v : Bool)
    → cond u (Ok bs) (cond v (Err (fault, suc (length bs))) (string_end q next bs)) ≡ Err e
    → (string_end q next bs ≡ Err e → lex_from (quoted q next acc) bs ≡ Err e)
    → going (suc (length bs)) (cond u (closed (text_piece acc) (Ok ([], between))) (cond v (Err fault) (Ok ([], quoted q next acc)))) (λ n. lex_from n bs) ≡ Err e
open_at q next acc bs fault e true v o again = absurd cc
open_at q next acc bs fault e false true o again = ap (λ x. Err x) cc
open_at q next acc bs fault e false false o again = no_front (lex_from (quoted q next acc) bs) ∙ again o

open_read : (q : ℕ) (s : StringState) (acc bs : List ℕ) (e : LexFault × ℕ) → string_end q s bs ≡ Err e → lex_from (quoted q s acc) bs ≡ Err e
open_read q s acc [] e o = ap (λ x. Err x) cc
open_read q s acc (b ∷ bs) e o =
    let next = string_step q s b in
    open_at q next (acc ++ b ∷ []) bs (string_fault s b) e (is_closed next) (is_wrong next) o (open_read q next (acc ++ b ∷ []) bs e)

-- ---- from the opening quote on

quote_at : (P : ℕ → Type 0) (q : ℕ) (u v : Bool) → (q == 34) ≡ u → (q == 39) ≡ v → (u || v) ≡ true → P 34 → P 39 → P q
quote_at P q true v e f h a b = subst P (sym (eqb-true q 34 e)) a
quote_at P q false true e f h a b = subst P (sym (eqb-true q 39 f)) b
quote_at P q false false e f h a b = absurd cc

-- what holds of both quotes
pub of_quotes : (P : ℕ → Type 0) (q : ℕ) → is_quote q ≡ true → P 34 → P 39 → P q
of_quotes P q h a b = quote_at P q (q == 34) (q == 39) refl refl h a b

opens : (q : ℕ) (bs : List ℕ) → is_quote q ≡ true → lex_of (q ∷ bs) ≡ lex_from (quoted q start (q ∷ [])) bs
opens q bs h = of_quotes (λ x. lex_of (x ∷ bs) ≡ lex_from (quoted x start (x ∷ [])) bs) q h
    (no_front (lex_from (quoted 34 start (34 ∷ [])) bs)) (no_front (lex_from (quoted 39 start (39 ∷ [])) bs))

string_read : (q : ℕ) (bs rest : List ℕ) (s : Quoted q start bs rest) → is_quote q ≡ true → lex_of (q ∷ bs) ≡ after_text (text_piece (q ∷ s.front)) rest
string_read q bs rest s h =
    opens q bs h ∙ ap (lex_from (quoted q start (q ∷ []))) s.whole ∙ closed_read q start (q ∷ []) s.front rest refl s.ends

pub a_string : (q : ℕ) (bs rest : List ℕ) (s : Quoted q start bs rest) → is_quote q ≡ true → is_utf8 (q ∷ s.front) ≡ true → lex_of (q ∷ bs) ≡ with_front (text (q ∷ s.front) ∷ []) (lex_of rest)
a_string q bs rest s h u = string_read q bs rest s h ∙ ap (λ b. after_text (cond b (Ok (text (q ∷ s.front))) (Err NotUtf8)) rest) u

pub bad_string : (q : ℕ) (bs rest : List ℕ) (s : Quoted q start bs rest) → is_quote q ≡ true → is_utf8 (q ∷ s.front) ≡ false → lex_of (q ∷ bs) ≡ Err (NotUtf8, suc (length rest))
bad_string q bs rest s h u = string_read q bs rest s h ∙ ap (λ b. after_text (cond b (Ok (text (q ∷ s.front))) (Err NotUtf8)) rest) u

pub no_string : (q : ℕ) (bs : List ℕ) (e : LexFault × ℕ) → is_quote q ≡ true → string_end q start bs ≡ Err e → lex_of (q ∷ bs) ≡ Err e
no_string q bs e h o = opens q bs h ∙ open_read q start (q ∷ []) bs e o

pub string_lawful : (q : ℕ) (bs rest : List ℕ) (s : Quoted q start bs rest) → is_quote q ≡ true → is_utf8 (q ∷ s.front) ≡ true → is_lawful (text (q ∷ s.front)) ≡ true
string_lawful q bs rest s h u = let e = s.ends in rw (h, e, u) refl

abbrev left_of : Result (List ℕ) (LexFault × ℕ) → ℕ
left_of (Ok rest) = 0
left_of (Err e) = e.1

left_at : (q : ℕ) (next : StringState) (bs : List ℕ) (fault f : LexFault) (n : ℕ) (u v : Bool)
    → cond u (Ok bs) (cond v (Err (fault, suc (length bs))) (string_end q next bs)) ≡ Err (f, n)
    → (string_end q next bs ≡ Err (f, n) → n ≤ length bs) → n ≤ suc (length bs)
left_at q next bs fault f n true v o again = absurd cc
left_at q next bs fault f n false true o again = omega (arith, ap left_of o)
left_at q next bs fault f n false false o again = let e = again o in omega arith

-- an error is in the string
pub string_left : (q : ℕ) (s : StringState) (bs : List ℕ) (f : LexFault) (n : ℕ) → string_end q s bs ≡ Err (f, n) → n ≤ length bs
string_left q s [] f n o = omega (arith, ap left_of o)
string_left q s (b ∷ bs) f n o =
    let next = string_step q s b in
    left_at q next bs (string_fault s b) f n (is_closed next) (is_wrong next) o (string_left q next bs f n)

take_front : (v r : List ℕ) → take (length v) (v ++ r) ≡ v
take_front [] r = refl
take_front (b ∷ v) r = ap (λ w. b ∷ w) (take_front v r)

-- the bytes before the rest
pub cut_front : (v r : List ℕ) → take (length (v ++ r) - length r) (v ++ r) ≡ v
cut_front v r =
    let e : length (v ++ r) - length r ≡ length v = omega (arith, length-append v r) in
    ap (λ n. take n (v ++ r)) e ∙ take_front v r

-- ---- a string that is cut off a text

-- `t`: the bytes before the rest
pub record CutOff (bytes t rest : List ℕ) : Type 0 where
  pub quote : ℕ
  pub more : List ℕ
  pub first : bytes ≡ quote ∷ more
  pub opens : is_quote quote ≡ true
  pub quoted : Quoted quote start more rest
  pub cut : t ≡ quote ∷ quoted.front

pub cut_off : (q : ℕ) (bytes bs rest t : List ℕ) → bytes ≡ q ∷ bs → begins is_quote bytes ≡ true → string_end q start bs ≡ Ok rest → t ≡ take (length bytes - length rest) bytes → CutOff bytes t rest
cut_off q bytes bs rest t e h o c =
    let s = string_found q start bs rest o in
    let whole : bytes ≡ (q ∷ s.front) ++ rest = e ∙ ap (λ r. q ∷ r) s.whole in
    record {
      quote = q;
      more = bs;
      first = e;
      opens = sym (ap (begins is_quote) e) ∙ h;
      quoted = s;
      cut = c ∙ ap (λ x. take (length x - length rest) x) whole ∙ cut_front (q ∷ s.front) rest;
    }

pub cut_shorter : (q : ℕ) (bytes bs rest : List ℕ) → bytes ≡ q ∷ bs → string_end q start bs ≡ Ok rest → length rest < length bytes
cut_shorter q bytes bs rest e o =
    let s = string_found q start bs rest o in omega (arith, ap length e, ap length s.whole, length-append s.front rest)

pub cut_read : (bytes t rest : List ℕ) → CutOff bytes t rest → is_utf8 t ≡ true → lex_of bytes ≡ with_front (text t ∷ []) (lex_of rest)
cut_read bytes t rest c u =
    ap lex_of c.first ∙ a_string c.quote c.more rest c.quoted c.opens (sym (ap is_utf8 c.cut) ∙ u)
    ∙ ap (λ x. with_front (text x ∷ []) (lex_of rest)) (sym c.cut)

pub cut_refused : (bytes t rest : List ℕ) → CutOff bytes t rest → is_utf8 t ≡ false → lex_of bytes ≡ Err (NotUtf8, length rest + 1)
cut_refused bytes t rest c u =
    let e : suc (length rest) ≡ length rest + 1 = omega arith in
    let fails : ℕ → Read = λ n. Err (NotUtf8, n) in
    ap lex_of c.first ∙ bad_string c.quote c.more rest c.quoted c.opens (sym (ap is_utf8 c.cut) ∙ u) ∙ ap fails e

pub none_cut : (q : ℕ) (bytes bs : List ℕ) (f : LexFault) (n : ℕ) → bytes ≡ q ∷ bs → begins is_quote bytes ≡ true → string_end q start bs ≡ Err (f, n) → lex_of bytes ≡ Err (f, n)
none_cut q bytes bs f n e h o = ap lex_of e ∙ no_string q bs (f, n) (sym (ap (begins is_quote) e) ∙ h) o

pub none_left : (q : ℕ) (bytes bs : List ℕ) (f : LexFault) (n : ℕ) → bytes ≡ q ∷ bs → string_end q start bs ≡ Err (f, n) → n ≤ length bytes
none_left q bytes bs f n e o = let h = string_left q start bs f n o in omega (arith, ap length e)

pub cut_leads : (bytes t rest : List ℕ) → CutOff bytes t rest → is_utf8 t ≡ true → Leads bytes (token (text t)) rest
cut_leads bytes t rest c u = record {
  whole = c.first ∙ ap (λ r. c.quote ∷ r) c.quoted.whole ∙ ap (λ x. x ++ rest) (sym c.cut);
  lawful = ap (λ x. is_lawful (text x)) c.cut ∙ string_lawful c.quote c.more rest c.quoted c.opens (sym (ap is_utf8 c.cut) ∙ u);
  stops = never rest;
}
