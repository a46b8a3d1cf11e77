-- What is read was spelled: tokens.
use Rattle.std.proofs.Common.{◌≡◌, ℕ, suc, List, [], ◌∷◌, ◌++◌, length, true, false, Bool, refl, sym, ap, ◌∙◌, append_assoc, append-nil, Result, Ok, Err, Option, Some, None, subst, inl, inr, ◌⊎◌}
use Rattle.std.specs.Prelude.{◌==◌, ◌&&◌, not}
use Rattle.std.specs.List.{list_all}
use Rattle.std.specs.Str.{is_utf8}
use Rattle.std.proofs.lemmas.Bool.{eqb-true}
use Rattle.planus_json_syntax.specs.declared.fault_kind.FaultKind.TheVariants.{Strange}
use Rattle.planus_json_syntax.specs.Strings.{Fault, Content, string_at}
use Rattle.planus_json_syntax.specs.Tokens.{◌>>=◌, mark, word, text, Front, is_blank, is_mark, is_word_byte, begins_word, word_of, after_word, skip, slash, line as line', block as block', front_at, text_front, next}
use Rattle.planus_json_syntax.specs.Spelling.{written, Gap, blank, line, block, is_line_byte, begins_slash, stays_open, is_gap, gap_bytes, between, Piece, mark_piece, word_piece, string_piece, is_word, is_piece, piece_bytes, token_of, lengthens, TokenAt, EndAt}
use Rattle.planus_json_syntax.proofs.SpelledStrings.{both}
use Rattle.planus_json_syntax.proofs.FoundStrings.{if_is, both_true, StringIs, string_found}

-- ---- blanks and comments

abbrev ok_bytes : List ℕ → Result (List ℕ) Fault
ok_bytes bytes = Ok bytes

-- what is skipped before the rest
record Skipped (bytes rest : List ℕ) : Type 0 where
  gaps : List Gap
  are : list_all is_gap gaps ≡ true
  last : List ℕ
  ended : (last ≡ rest) ⊎ ((rest ≡ []) × ((w : List ℕ) × (list_all is_line_byte w ≡ true) × (last ≡ 47 ∷ 47 ∷ w)))
  whole : bytes ≡ between gaps ++ last

nothing : (rest : List ℕ) → Skipped rest rest
nothing rest = record { gaps = []; are = refl; last = rest; ended = inl refl; whole = refl }

one_gap : (g : Gap) (bytes next rest : List ℕ) → is_gap g ≡ true → bytes ≡ gap_bytes g ++ next → Skipped next rest → Skipped bytes rest
one_gap g bytes next rest h e s = record {
  gaps = g ∷ s.gaps;
  are = both_true _ _ h s.are;
  last = s.last;
  ended = s.ended;
  whole = e ∙ ap (λ bs. gap_bytes g ++ bs) s.whole ∙ sym (append_assoc (gap_bytes g) (between s.gaps) s.last);
}

all_more : (w : List ℕ) (b : ℕ) → list_all is_line_byte w ≡ true → (b == 10) ≡ false → list_all is_line_byte (w ++ b ∷ []) ≡ true
all_more [] b h e = rw e refl
all_more (c ∷ w) b h e =
    let k = both (is_line_byte c) (list_all is_line_byte w) h in
    both_true _ _ k.0 (all_more w b k.1 e)

abbrev ends_star : List ℕ → Bool
ends_star [] = false
ends_star (c ∷ []) = c == 42
ends_star (c ∷ d ∷ w) = ends_star (d ∷ w)

star_last : (w : List ℕ) (b : ℕ) → ends_star (w ++ b ∷ []) ≡ (b == 42)
star_last [] b = refl
star_last (c ∷ []) b = refl
star_last (c ∷ d ∷ w) b = star_last (d ∷ w) b

no_pair : (a : Bool) → (not (a && false) && true) ≡ true
no_pair true = refl
no_pair false = refl

and_false : (a : Bool) → not (a && false) ≡ true
and_false true = refl
and_false false = refl

open_more : (w : List ℕ) (b : ℕ) → stays_open w ≡ true → (ends_star w && b == 47) ≡ false → stays_open (w ++ b ∷ []) ≡ true
open_more [] b h e = no_pair (b == 42)
open_more (c ∷ []) b h e = both_true _ _ (rw e refl) (no_pair (b == 42))
open_more (c ∷ d ∷ w) b h e =
    let k = both (not (c == 42 && begins_slash (d ∷ w))) (stays_open (d ∷ w)) h in
    both_true _ _ k.0 (open_more (d ∷ w) b k.1 e)

-- the front of a text that stays open stays so
front_open : (c d : ℕ) (w v : List ℕ) → d ∷ w ≡ v ++ 42 ∷ [] → not (c == 42 && begins_slash (d ∷ w)) ≡ true → not (c == 42 && begins_slash v) ≡ true
front_open c d w [] e h = and_false (c == 42)
front_open c d w (x ∷ v) e h = rw (ap begins_slash e) at h

star_split : (w : List ℕ) → ends_star w ≡ true → stays_open w ≡ true → (v : List ℕ) × (w ≡ v ++ 42 ∷ []) × (stays_open v ≡ true)
star_split [] e h = absurd cc
star_split (c ∷ []) e h = ([], ap (λ b. b ∷ []) (eqb-true c 42 e), refl)
star_split (c ∷ d ∷ w) e h =
    let k = both (not (c == 42 && begins_slash (d ∷ w))) (stays_open (d ∷ w)) h in
    let v = star_split (d ∷ w) e k.1 in
    (c ∷ v.0, ap (λ bs. c ∷ bs) v.1, both_true _ _ (front_open c d w v.0 v.1 k.0) v.2)

same_ok : (a b : List ℕ) → ok_bytes a ≡ ok_bytes b → a ≡ b
same_ok a b e = cc

-- a comment ends at a slash after a star
block_ends : (w : List ℕ) (starred : Bool) (b : ℕ) (bs rest : List ℕ) → stays_open w ≡ true → ends_star w ≡ starred → (starred ≡ true) × ((b == 47) ≡ true) → Skipped bs rest → Skipped (47 ∷ 42 ∷ (w ++ b ∷ bs)) rest
block_ends w starred b bs rest h s k skipped =
    let v = star_split w (s ∙ k.0) h in
    let same : w ++ b ∷ bs ≡ (v.0 ++ 42 ∷ 47 ∷ []) ++ bs =
    ap (λ x. x ++ b ∷ bs) v.1 ∙ rw (eqb-true b 47 k.1) (append_assoc v.0 (42 ∷ []) (47 ∷ bs) ∙ sym (append_assoc v.0 (42 ∷ 47 ∷ []) bs)) in
    one_gap (block v.0) (47 ∷ 42 ∷ (w ++ b ∷ bs)) bs rest v.2 (ap (λ x. 47 ∷ 42 ∷ x) same) skipped

mutual
  skip_found : (bytes rest : List ℕ) → skip bytes ≡ Ok rest → Skipped bytes rest
  skip_found [] rest e = subst (λ r. Skipped [] r) (same_ok [] rest e) (nothing [])
  skip_found (b ∷ bs) rest e =
      let P = λ (r : Result (List ℕ) Fault). r ≡ Ok rest → Skipped (b ∷ bs) rest in
      if_is P (is_blank b) (skip bs) _
      (λ h f. one_gap (blank b) (b ∷ bs) bs rest h refl (skip_found bs rest f))
      (λ h. if_is P (b == 47) (slash bs) (Ok (b ∷ bs))
      (λ k f. subst (λ c. Skipped (c ∷ bs) rest) (sym (eqb-true b 47 k)) (slash_found bs rest f))
      (λ k f. subst (λ r. Skipped (b ∷ bs) r) (same_ok (b ∷ bs) rest f) (nothing (b ∷ bs)))) e

  slash_found : (bytes rest : List ℕ) → slash bytes ≡ Ok rest → Skipped (47 ∷ bytes) rest
  slash_found [] rest e = absurd cc
  slash_found (b ∷ bs) rest e =
      let P = λ (r : Result (List ℕ) Fault). r ≡ Ok rest → Skipped (47 ∷ b ∷ bs) rest in
      if_is P (b == 47) (line' bs) _
      (λ h f. subst (λ c. Skipped (47 ∷ c ∷ bs) rest) (sym (eqb-true b 47 h)) (line_found [] bs rest refl f))
      (λ h. if_is P (b == 42) (block' false bs) (Err (Strange, suc (suc (length bs))))
      (λ k f. subst (λ c. Skipped (47 ∷ c ∷ bs) rest) (sym (eqb-true b 42 k)) (block_found [] false bs rest refl refl f))
      (λ k f. absurd cc)) e

  line_found : (w bytes rest : List ℕ) → list_all is_line_byte w ≡ true → line' bytes ≡ Ok rest → Skipped (47 ∷ 47 ∷ (w ++ bytes)) rest
  line_found w [] rest h e = record {
    gaps = [];
    are = refl;
    last = 47 ∷ 47 ∷ (w ++ []);
    ended = inr (sym (same_ok [] rest e), (w, h, ap (λ x. 47 ∷ 47 ∷ x) (append-nil w)));
    whole = refl;
  }
  line_found w (b ∷ bs) rest h e =
      let P = λ (r : Result (List ℕ) Fault). r ≡ Ok rest → Skipped (47 ∷ 47 ∷ (w ++ b ∷ bs)) rest in
      if_is P (b == 10) (skip bs) (line' bs)
      (λ k f. one_gap (line w) (47 ∷ 47 ∷ (w ++ b ∷ bs)) bs rest h
      (rw (eqb-true b 10 k) (ap (λ x. 47 ∷ 47 ∷ x) (sym (append_assoc w (10 ∷ []) bs)))) (skip_found bs rest f))
      (λ k f. subst (λ x. Skipped (47 ∷ 47 ∷ x) rest) (append_assoc w (b ∷ []) bs) (line_found (w ++ b ∷ []) bs rest (all_more w b h k) f)) e

  block_found : (w : List ℕ) (starred : Bool) (bytes rest : List ℕ) → stays_open w ≡ true → ends_star w ≡ starred → block' starred bytes ≡ Ok rest → Skipped (47 ∷ 42 ∷ (w ++ bytes)) rest
  block_found w starred [] rest h s e = absurd cc
  block_found w starred (b ∷ bs) rest h s e =
      let P = λ (r : Result (List ℕ) Fault). r ≡ Ok rest → Skipped (47 ∷ 42 ∷ (w ++ b ∷ bs)) rest in
      if_is P (starred && b == 47) (skip bs) (block' (b == 42) bs)
      (λ k f. block_ends w starred b bs rest h s (both starred (b == 47) k) (skip_found bs rest f))
      (λ k f. subst (λ x. Skipped (47 ∷ 42 ∷ x) rest) (append_assoc w (b ∷ []) bs)
      (block_found (w ++ b ∷ []) (b == 42) bs rest (open_more w b h (rw s k)) (star_last w b) f)) e

-- ---- tokens

-- a token with which these bytes begin
record Begun (bytes : List ℕ) (front : Front) : Type 0 where
  piece : Piece
  is : is_piece piece ≡ true
  ends : lengthens piece front.rest ≡ false
  whole : bytes ≡ piece_bytes piece ++ front.rest
  token : front.token ≡ token_of piece
  left : front.left ≡ length bytes

each_word : (bytes : List ℕ) → list_all is_word_byte (word_of bytes) ≡ true
each_word [] = refl
each_word (b ∷ bs) =
    if_is (λ w. list_all is_word_byte w ≡ true) (is_word_byte b) (b ∷ word_of bs) [] (λ h. both_true _ _ h (each_word bs)) (λ h. refl)

word_ends : (bytes : List ℕ) → begins_word (after_word bytes) ≡ false
word_ends [] = refl
word_ends (b ∷ bs) = if_is (λ w. begins_word w ≡ false) (is_word_byte b) (after_word bs) (b ∷ bs) (λ h. word_ends bs) (λ h. h)

word_cut : (b : ℕ) (bs : List ℕ) (c : Bool) → is_word_byte b ≡ c → bs ≡ word_of bs ++ after_word bs → b ∷ bs ≡ word_of (b ∷ bs) ++ after_word (b ∷ bs)
word_cut b bs true h e = rw h (ap (λ x. b ∷ x) e)
word_cut b bs false h e = rw h refl

word_whole : (bytes : List ℕ) → bytes ≡ word_of bytes ++ after_word bytes
word_whole [] = refl
word_whole (b ∷ bs) = word_cut b bs (is_word_byte b) refl (word_whole bs)

word_if : (w : List ℕ) → list_all is_word_byte w ≡ true → (w ≡ [] → ⊥) → is_word w ≡ true
word_if [] h e = absurd (e refl)
word_if (b ∷ w) h e = h

some_word : (b : ℕ) (bs : List ℕ) → is_word_byte b ≡ true → is_word (word_of (b ∷ bs)) ≡ true
some_word b bs h = rw h (both_true _ _ h (each_word bs))

word_begun : (b : ℕ) (bs : List ℕ) → is_word_byte b ≡ true → Begun (b ∷ bs) (record { token = word (word_of (b ∷ bs)); left = suc (length bs); rest = after_word (b ∷ bs) })
word_begun b bs h = record {
  piece = word_piece (word_of (b ∷ bs));
  is = some_word b bs h;
  ends = word_ends (b ∷ bs);
  whole = word_whole (b ∷ bs);
  token = refl;
  left = refl;
}

string_begun : (bs content rest : List ℕ) → StringIs [] bs content rest → Begun (34 ∷ bs) (record { token = text content; left = suc (length bs); rest = rest })
string_begun bs content rest s = record {
  piece = string_piece s.parts;
  is = both_true _ _ s.are (subst (λ w. is_utf8 w ≡ true) s.says s.utf8);
  ends = refl;
  whole = ap (λ x. 34 ∷ x) (s.whole ∙ sym (append_assoc (written s.parts) (34 ∷ []) rest));
  token = ap text s.says;
  left = refl;
}

abbrev ok_front : Option Front → Result (Option Front) Fault
ok_front found = Ok found

same_front : (a b : Front) → ok_front (Some a) ≡ ok_front (Some b) → a ≡ b
same_front a b e = cc

text_begun : (bs : List ℕ) (content : Content) (front : Front) → string_at bs ≡ content → text_front (suc (length bs)) content ≡ ok_front (Some front) → Begun (34 ∷ bs) front
text_begun bs (Err f) front o e = absurd cc
text_begun bs (Ok x) front o e = subst (λ f. Begun (34 ∷ bs) f) (same_front _ front e) (string_begun bs x.0 x.1 (string_found bs x.0 x.1 o))

front_found : (bytes : List ℕ) (front : Front) → front_at bytes ≡ ok_front (Some front) → Begun bytes front
front_found [] front e = absurd cc
front_found (b ∷ bs) front e =
    let P = λ (r : Result (Option Front) Fault). r ≡ ok_front (Some front) → Begun (b ∷ bs) front in
    if_is P (is_mark b) (ok_front (Some (record { token = mark b; left = suc (length bs); rest = bs }))) _
    (λ h f. subst (λ r. Begun (b ∷ bs) r) (same_front _ front f)
    (record { piece = mark_piece b; is = h; ends = refl; whole = refl; token = refl; left = refl }))
    (λ h. if_is P (b == 34) (text_front (suc (length bs)) (string_at bs)) _
    (λ k f. subst (λ c. Begun (c ∷ bs) front) (sym (eqb-true b 34 k)) (text_begun bs (string_at bs) front refl f))
    (λ k. if_is P (is_word_byte b) (ok_front (Some (record { token = word (word_of (b ∷ bs)); left = suc (length bs); rest = after_word (b ∷ bs) }))) (Err (Strange, suc (length bs)))
    (λ l f. subst (λ r. Begun (b ∷ bs) r) (same_front _ front f) (word_begun b bs l))
    (λ l f. absurd cc))) e

no_text : {P : Type 0} (left : ℕ) (content : Content) → text_front left content ≡ ok_front None → P
no_text left (Ok x) e = absurd cc
no_text left (Err f) e = absurd cc

none_found : (bytes : List ℕ) → front_at bytes ≡ ok_front None → bytes ≡ []
none_found [] e = refl
none_found (b ∷ bs) e =
    let P = λ (r : Result (Option Front) Fault). r ≡ ok_front None → b ∷ bs ≡ [] in
    if_is P (is_mark b) (ok_front (Some (record { token = mark b; left = suc (length bs); rest = bs }))) _
    (λ h f. absurd cc)
    (λ h. if_is P (b == 34) (text_front (suc (length bs)) (string_at bs)) _
    (λ k f. no_text (suc (length bs)) (string_at bs) f)
    (λ k. if_is P (is_word_byte b) (ok_front (Some (record { token = word (word_of (b ∷ bs)); left = suc (length bs); rest = after_word (b ∷ bs) }))) (Err (Strange, suc (length bs)))
    (λ l f. absurd cc) (λ l f. absurd cc))) e

pub then_ok : {A B : Type 0} (r : Result A Fault) (f : A → Result B Fault) (y : B) → (r >>= f) ≡ Ok y → (x : A) × (r ≡ Ok x) × (f x ≡ Ok y)
then_ok (Ok x) f y e = (x, refl, e)
then_ok (Err g) f y e = absurd cc

-- a token is no end of the text
no_end : (p : Piece) (rest : List ℕ) → is_piece p ≡ true → [] ≡ piece_bytes p ++ rest → ⊥
no_end (mark_piece m) rest h e = cc
no_end (word_piece []) rest h e = cc
no_end (word_piece (b ∷ w)) rest h e = cc
no_end (string_piece parts) rest h e = cc

last_is : (rest last : List ℕ) (p : Piece) (after : List ℕ) → is_piece p ≡ true → rest ≡ piece_bytes p ++ after
    → (last ≡ rest) ⊎ ((rest ≡ []) × ((w : List ℕ) × (list_all is_line_byte w ≡ true) × (last ≡ 47 ∷ 47 ∷ w))) → last ≡ rest
last_is rest last p after h e (inl k) = k
last_is rest last p after h e (inr k) = absurd (no_end p after h (sym k.0 ∙ e))

to_end : (rest last : List ℕ) → rest ≡ [] → (last ≡ rest) ⊎ ((rest ≡ []) × ((w : List ℕ) × (list_all is_line_byte w ≡ true) × (last ≡ 47 ∷ 47 ∷ w)))
    → (last ≡ []) ⊎ ((w : List ℕ) × (list_all is_line_byte w ≡ true) × (last ≡ 47 ∷ 47 ∷ w))
to_end rest last e (inl k) = inl (k ∙ e)
to_end rest last e (inr k) = inr k.1

placed : (bytes rest : List ℕ) (front : Front) → Skipped bytes rest → Begun rest front → TokenAt bytes front
placed bytes rest front s t = record {
  gaps = s.gaps;
  are = s.are;
  piece = t.piece;
  is = t.is;
  ends = t.ends;
  whole = s.whole ∙ ap (λ x. between s.gaps ++ x) (last_is rest s.last t.piece front.rest t.is t.whole s.ended ∙ t.whole);
  token = t.token;
  left = t.left ∙ ap length t.whole;
}

pub token_found : (bytes : List ℕ) (front : Front) → next bytes ≡ Ok (Some front) → TokenAt bytes front
unfolding next
token_found bytes front e =
    let k = then_ok (skip bytes) front_at (Some front) e in
    placed bytes k.0 front (skip_found bytes k.0 k.1) (front_found k.0 front k.2)

pub end_found : (bytes : List ℕ) → next bytes ≡ Ok None → EndAt bytes
unfolding next
end_found bytes e =
    let k = then_ok (skip bytes) front_at None e in
    let s = skip_found bytes k.0 k.1 in
    record { gaps = s.gaps; are = s.are; last = s.last; ended = to_end k.0 s.last (none_found k.0 k.2) s.ended; whole = s.whole }
