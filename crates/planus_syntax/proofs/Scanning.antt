-- The machine over whole runs.
use Rattle.std.proofs.Common.{◌≡◌, ℕ, suc, drop, List, [], ◌∷◌, ◌++◌, length, Bool, true, false, cond, refl, sym, ap, ◌∙◌, subst, append_assoc, Result, Ok, Err}
use Rattle.std.specs.Prelude.{not, ◌==◌, ◌||◌, ◌&&◌}
use Rattle.std.specs.List.{list_all}
use Rattle.std.specs.Char.{is_ascii_digit, is_ascii_alphabetic}
use Rattle.std.proofs.lemmas.List.{append-nil}
use Rattle.std.proofs.lemmas.Bool.{eqb-true}
use Rattle.planus_syntax.specs.declared.lexer.LexFault.{LexFault}
use Rattle.planus_syntax.specs.declared.lexer.LexFault.TheVariants.{BadNumber, OpenComment, Strange}
use Rattle.planus_syntax.specs.Tokens.{Piece, word, number, doc, mark, begins, is_word_byte, is_number_start, starts_number, is_number_byte, is_number, is_line_byte}
use Rattle.planus_syntax.specs.Lexing.{LexState, between, run, figures, point, slash, slashes, comment, documented, block, starred, Step, Read, number_piece, opened, in_front, closed, step, with_front, going, lex_from, lex_of}
use Rattle.planus_syntax.specs.Cutting.{Splits}
use Rattle.planus_syntax.specs.Spelled.{closes}

pub both : (a b : Bool) → (a && b) ≡ true → (a ≡ true) × (b ≡ true)
both true b h = (refl, h)
both false b h = absurd cc

abbrev pub after_run : Result Piece LexFault → List ℕ → Read
after_run (Ok p) rest = with_front (p ∷ []) (lex_of rest)
after_run (Err f) rest = Err (f, length rest)

front_of_read : (p : Piece) (ps : List Piece) (r : Read) → with_front (p ∷ ps) r ≡ with_front (p ∷ []) (with_front ps r)
front_of_read p ps (Ok qs) = refl
front_of_read p ps (Err e) = refl

front_of_step : (left : ℕ) (p : Piece) (s : Step) (more : LexState → Read) → going left (in_front p s) more ≡ with_front (p ∷ []) (going left s more)
front_of_step left p (Ok x) more = front_of_read p x.0 (more x.1)
front_of_step left p (Err f) more = refl

at_end : (r : Result Piece LexFault) → going 0 (closed r (Ok ([], between))) (λ _. Ok []) ≡ after_run r []
at_end (Ok p) = refl
at_end (Err f) = refl

at_byte : (r : Result Piece LexFault) (b : ℕ) (bs : List ℕ) → going (length (b ∷ bs)) (closed r (opened b)) (λ next. lex_from next bs) ≡ after_run r (b ∷ bs)
at_byte (Ok p) b bs = front_of_step (length (b ∷ bs)) p (opened b) (λ next. lex_from next bs)
at_byte (Err f) b bs = refl

pub no_front : (r : Read) → with_front [] r ≡ r
no_front (Ok ps) = refl
no_front (Err e) = refl

run_on : (w acc rest : List ℕ) → list_all is_word_byte w ≡ true → lex_from (run acc) (w ++ rest) ≡ lex_from (run (acc ++ w)) rest
run_on [] acc rest h = rw append-nil refl
run_on (c ∷ w) acc rest h =
    let both_hold = both (is_word_byte c) (list_all is_word_byte w) h in
    let e : is_word_byte c ≡ true = both_hold.0 in
    rw e (no_front (lex_from (run (acc ++ c ∷ [])) (w ++ rest)) ∙ run_on w (acc ++ c ∷ []) rest both_hold.1 ∙ ap (λ x. lex_from (run x) rest) (append_assoc acc (c ∷ []) w))

run_ends : (w rest : List ℕ) → begins is_word_byte rest ≡ false → lex_from (run w) rest ≡ after_run (Ok (word w)) rest
run_ends w [] s = refl
run_ends w (b ∷ bs) s =
    let e : step (run w) b ≡ closed (Ok (word w)) (opened b) = rw s refl in
    ap (λ x. going (length (b ∷ bs)) x (λ next. lex_from next bs)) e ∙ at_byte (Ok (word w)) b bs

figures_on : (w acc rest : List ℕ) → list_all is_number_byte w ≡ true → lex_from (figures acc) (w ++ rest) ≡ lex_from (figures (acc ++ w)) rest
figures_on [] acc rest h = rw append-nil refl
figures_on (c ∷ w) acc rest h =
    let both_hold = both (is_number_byte c) (list_all is_number_byte w) h in
    let e : is_number_byte c ≡ true = both_hold.0 in
    rw e (no_front (lex_from (figures (acc ++ c ∷ [])) (w ++ rest)) ∙ figures_on w (acc ++ c ∷ []) rest both_hold.1 ∙ ap (λ x. lex_from (figures x) rest) (append_assoc acc (c ∷ []) w))

figures_ends : (w rest : List ℕ) → begins is_number_byte rest ≡ false → lex_from (figures w) rest ≡ after_run (number_piece w) rest
figures_ends w [] s = at_end (number_piece w)
figures_ends w (b ∷ bs) s =
    let e : step (figures w) b ≡ closed (number_piece w) (opened b) = rw s refl in
    ap (λ x. going (length (b ∷ bs)) x (λ next. lex_from next bs)) e ∙ at_byte (number_piece w) b bs

pub a_word : (bytes w rest : List ℕ) → Splits is_word_byte bytes w rest → begins is_word_byte bytes ≡ true → begins is_number_start bytes ≡ false → lex_of bytes ≡ with_front (word w ∷ []) (lex_of rest)
a_word bytes [] rest split h n = absurd (let e : begins is_word_byte rest ≡ true = (sym (ap (begins is_word_byte) split.whole) ∙ h) in let f = split.stops in cc)
a_word bytes (c ∷ w) rest split h n =
    let holds = both (is_word_byte c) (list_all is_word_byte w) split.each in
    let e : is_word_byte c ≡ true = holds.0 in
    let f : is_number_start c ≡ false = sym (ap (begins is_number_start) split.whole) ∙ n in
    let one : lex_of (c ∷ (w ++ rest)) ≡ lex_from (run (c ∷ [])) (w ++ rest) = rw (f, e) (no_front (lex_from (run (c ∷ [])) (w ++ rest))) in
    ap lex_of split.whole ∙ one ∙ run_on w (c ∷ []) rest holds.1 ∙ run_ends (c ∷ w) rest split.stops

goes_at : (digit sign letter line dot : Bool) → (digit || sign) ≡ true → ((letter || (digit || line)) || (dot || sign)) ≡ true
goes_at true sign true line dot h = refl
goes_at true sign false line dot h = refl
goes_at false sign true line dot h = refl
goes_at false true false true dot h = refl
goes_at false true false false true h = refl
goes_at false true false false false h = refl
goes_at false false letter line dot h = absurd cc

start_goes : (c : ℕ) → is_number_start c ≡ true → is_number_byte c ≡ true
start_goes c h = goes_at (is_ascii_digit c) (c == 43 || c == 45) (is_ascii_alphabetic c) (c == 95) (c == 46) h

either_or : (a b : Bool) → a ≡ true → (a || b) ≡ true
either_or true b h = refl
either_or false b h = absurd cc

abbrev front : ℕ → List ℕ → ℕ
front d [] = d
front d (b ∷ bs) = b

figures_whole : (bytes w rest : List ℕ) → Splits is_number_byte bytes w rest → begins is_number_byte bytes ≡ true → begins is_number_start bytes ≡ true → lex_of bytes ≡ after_run (number_piece w) rest
figures_whole bytes [] rest split h n = absurd (let e : begins is_number_byte rest ≡ true = (sym (ap (begins is_number_byte) split.whole) ∙ h) in let f = split.stops in cc)
figures_whole bytes (c ∷ w) rest split h n =
    let holds = both (is_number_byte c) (list_all is_number_byte w) split.each in
    let f : is_number_start c ≡ true = sym (ap (begins is_number_start) split.whole) ∙ n in
    let one : lex_of (c ∷ (w ++ rest)) ≡ lex_from (figures (c ∷ [])) (w ++ rest) = rw f (no_front (lex_from (figures (c ∷ [])) (w ++ rest))) in
    ap lex_of split.whole ∙ one ∙ figures_on w (c ∷ []) rest holds.1 ∙ figures_ends (c ∷ w) rest split.stops

pub digit_goes : (c : ℕ) → is_ascii_digit c ≡ true → is_number_byte c ≡ true
digit_goes c h = goes_at (is_ascii_digit c) (c == 43 || c == 45) (is_ascii_alphabetic c) (c == 95) (c == 46) (either_or (is_ascii_digit c) (c == 43 || c == 45) h)

-- a number that begins with a point
point_whole : (bytes w rest : List ℕ) (c : ℕ) (more : List ℕ) → bytes ≡ 46 ∷ c ∷ more → is_ascii_digit c ≡ true → Splits is_number_byte bytes w rest → lex_of bytes ≡ after_run (number_piece w) rest
point_whole bytes [] rest c more e d split = absurd (let f : begins is_number_byte rest ≡ true = ap (begins is_number_byte) (sym split.whole ∙ e) in let g = split.stops in cc)
point_whole bytes (a ∷ []) rest c more e d split =
    let same : rest ≡ c ∷ more = ap (drop 1) (sym split.whole ∙ e) in
    absurd (let f : begins is_number_byte rest ≡ true = ap (begins is_number_byte) same ∙ digit_goes c d in let g = split.stops in cc)
point_whole bytes (a ∷ b ∷ w) rest c more e d split =
    let first : a ≡ 46 = ap (front 0) (sym split.whole ∙ e) in
    let next : b ≡ c = ap (λ (r : List ℕ). front 0 (drop 1 r)) (sym split.whole ∙ e) in
    let digit : is_ascii_digit b ≡ true = ap is_ascii_digit next ∙ d in
    let tail = both (is_number_byte b) (list_all is_number_byte w) (both (is_number_byte a) (list_all is_number_byte (b ∷ w)) split.each).1 in
    let opens : lex_of (46 ∷ b ∷ (w ++ rest)) ≡ lex_from point (b ∷ (w ++ rest)) = no_front (lex_from point (b ∷ (w ++ rest))) in
    let one : lex_from point (b ∷ (w ++ rest)) ≡ lex_from (figures (46 ∷ b ∷ [])) (w ++ rest) = rw digit (no_front (lex_from (figures (46 ∷ b ∷ [])) (w ++ rest))) in
    ap lex_of split.whole ∙ ap (λ x. lex_of (x ∷ b ∷ (w ++ rest))) first ∙ opens ∙ one ∙ figures_on w (46 ∷ b ∷ []) rest tail.1
    ∙ figures_ends (46 ∷ b ∷ w) rest split.stops ∙ ap (λ x. after_run (number_piece (x ∷ b ∷ w)) rest) (sym first)

second_digit : (bs : List ℕ) → begins is_ascii_digit bs ≡ true → (c : ℕ) × (more : List ℕ) × (bs ≡ c ∷ more) × (is_ascii_digit c ≡ true)
second_digit [] h = absurd cc
second_digit (c ∷ more) h = (c, more, refl, h)

number_whole_at : (b : ℕ) (bs w rest : List ℕ) (v : Bool) → is_number_start b ≡ v → (v || (b == 46 && begins is_ascii_digit bs)) ≡ true → Splits is_number_byte (b ∷ bs) w rest → lex_of (b ∷ bs) ≡ after_run (number_piece w) rest
number_whole_at b bs w rest true e h split = figures_whole (b ∷ bs) w rest split (start_goes b e) e
number_whole_at b bs w rest false e h split =
    let a = both (b == 46) (begins is_ascii_digit bs) h in
    let d = second_digit bs a.1 in
    point_whole (b ∷ bs) w rest d.0 d.1 (ap (λ x. x ∷ bs) (eqb-true b 46 a.0) ∙ ap (λ r. 46 ∷ r) d.2) d.3 split

number_whole : (bytes w rest : List ℕ) → Splits is_number_byte bytes w rest → starts_number bytes ≡ true → lex_of bytes ≡ after_run (number_piece w) rest
number_whole [] w rest split h = absurd cc
number_whole (b ∷ bs) w rest split h = number_whole_at b bs w rest (is_number_start b) refl h split

pub point_ends : (rest : List ℕ) → begins is_ascii_digit rest ≡ false → lex_of (46 ∷ rest) ≡ with_front (mark 46 ∷ []) (lex_of rest)
point_ends [] s = refl
point_ends (b ∷ bs) s =
    let e : step point b ≡ closed (Ok (mark 46)) (opened b) = rw s refl in
    no_front (lex_from point (b ∷ bs)) ∙ ap (λ x. going (length (b ∷ bs)) x (λ next. lex_from next bs)) e ∙ at_byte (Ok (mark 46)) b bs

nots : (a : Bool) → not a ≡ true → a ≡ false
nots true h = absurd cc
nots false h = refl

differ_bool : (a : Bool) → a ≡ true → a ≡ false → ⊥
differ_bool true h k = cc
differ_bool false h k = cc

pub documented_on : (w acc rest : List ℕ) → list_all is_line_byte w ≡ true → lex_from (documented acc) (w ++ rest) ≡ lex_from (documented (acc ++ w)) rest
documented_on [] acc rest h = rw append-nil refl
documented_on (c ∷ w) acc rest h =
    let holds = both (is_line_byte c) (list_all is_line_byte w) h in
    let b : (c == 10) ≡ false = nots (c == 10) holds.0 in
    rw b (no_front (lex_from (documented (acc ++ c ∷ [])) (w ++ rest)) ∙ documented_on w (acc ++ c ∷ []) rest holds.1 ∙ ap (λ x. lex_from (documented x) rest) (append_assoc acc (c ∷ []) w))

pub comment_on : (w rest : List ℕ) → list_all is_line_byte w ≡ true → lex_from comment (w ++ rest) ≡ lex_from comment rest
comment_on [] rest h = refl
comment_on (c ∷ w) rest h =
    let holds = both (is_line_byte c) (list_all is_line_byte w) h in
    let b : (c == 10) ≡ false = nots (c == 10) holds.0 in
    rw b (no_front (lex_from comment (w ++ rest)) ∙ comment_on w rest holds.1)

line_at : (b : ℕ) (v : Bool) → (b == 10) ≡ v → not v ≡ false → (b == 10) ≡ true
line_at b true e h = e
line_at b false e h = absurd cc

is_feed : (b : ℕ) → is_line_byte b ≡ false → b ≡ 10
is_feed b s = eqb-true b 10 (line_at b (b == 10) refl s)

documented_ends : (w rest : List ℕ) → begins is_line_byte rest ≡ false → lex_from (documented w) rest ≡ with_front (doc w ∷ []) (lex_of rest)
documented_ends w [] s = refl
documented_ends w (b ∷ bs) s = let e : b ≡ 10 = is_feed b s in
    subst (λ x. lex_from (documented w) (x ∷ bs) ≡ with_front (doc w ∷ []) (lex_of (x ∷ bs))) (sym e) (ap (with_front (doc w ∷ [])) (sym (no_front (lex_of bs))))

comment_ends : (rest : List ℕ) → begins is_line_byte rest ≡ false → lex_from comment rest ≡ lex_of rest
comment_ends [] s = refl
comment_ends (b ∷ bs) s = let e : b ≡ 10 = is_feed b s in subst (λ x. lex_from comment (x ∷ bs) ≡ lex_of (x ∷ bs)) (sym e) refl

pub a_doc : (bytes w rest : List ℕ) → Splits is_line_byte bytes w rest → lex_from (documented []) bytes ≡ with_front (doc w ∷ []) (lex_of rest)
a_doc bytes w rest split = ap (lex_from (documented [])) split.whole ∙ documented_on w [] rest split.each ∙ documented_ends w rest split.stops

comment_whole : (w rest : List ℕ) → list_all is_line_byte w ≡ true → begins is_line_byte rest ≡ false → lex_from comment (w ++ rest) ≡ lex_of rest
comment_whole w rest h s = comment_on w rest h ∙ comment_ends rest s

slashes_end : (w rest : List ℕ) → list_all is_line_byte w ≡ true → begins is_line_byte rest ≡ false → begins (λ b. b == 47) (w ++ rest) ≡ false → lex_from slashes (w ++ rest) ≡ lex_of rest
slashes_end [] [] h s n = refl
slashes_end [] (b ∷ bs) h s n = let e : b ≡ 10 = is_feed b s in subst (λ x. lex_from slashes (x ∷ bs) ≡ lex_of (x ∷ bs)) (sym e) refl
slashes_end (c ∷ w) rest h s n =
    let holds = both (is_line_byte c) (list_all is_line_byte w) h in
    let b : (c == 10) ≡ false = nots (c == 10) holds.0 in
    rw (n, b) (no_front (lex_from comment (w ++ rest)) ∙ comment_whole w rest holds.1 s)

pub a_comment : (bytes w rest : List ℕ) → Splits is_line_byte bytes w rest → begins (λ b. b == 47) bytes ≡ false → lex_from slashes bytes ≡ lex_of rest
a_comment bytes w rest split n = ap (lex_from slashes) split.whole ∙ slashes_end w rest split.each split.stops (sym (ap (begins (λ b. b == 47)) split.whole) ∙ n)

number_is : (w : List ℕ) → is_number w ≡ true → number_piece w ≡ Ok (number w)
number_is w d = ap (λ b. cond b (Ok (number w)) (Err BadNumber)) d

bad_is : (w : List ℕ) → is_number w ≡ false → number_piece w ≡ Err BadNumber
bad_is w d = ap (λ b. cond b (Ok (number w)) (Err BadNumber)) d

started_at : (b : ℕ) (bs : List ℕ) (v : Bool) → is_number_start b ≡ v → (v || (b == 46 && begins is_ascii_digit bs)) ≡ true → is_number_byte b ≡ true
started_at b bs true e h = start_goes b e
started_at b bs false e h =
    let P : ℕ → Type 0 = λ x. is_number_byte x ≡ true in
    subst P (sym (eqb-true b 46 (both (b == 46) (begins is_ascii_digit bs) h).0)) refl

pub started : (bytes : List ℕ) → starts_number bytes ≡ true → begins is_number_byte bytes ≡ true
started [] h = absurd cc
started (b ∷ bs) h = started_at b bs (is_number_start b) refl h

pub a_number : (bytes w rest : List ℕ) → Splits is_number_byte bytes w rest → starts_number bytes ≡ true → is_number w ≡ true → lex_of bytes ≡ with_front (number w ∷ []) (lex_of rest)
a_number bytes w rest split h d = number_whole bytes w rest split h ∙ ap (λ r. after_run r rest) (number_is w d)

pub no_number : (bytes w rest : List ℕ) → Splits is_number_byte bytes w rest → starts_number bytes ≡ true → is_number w ≡ false → lex_of bytes ≡ Err (BadNumber, length rest)
no_number bytes w rest split h d = number_whole bytes w rest split h ∙ ap (λ r. after_run r rest) (bad_is w d)

pub third_slash : (rest more w after : List ℕ) → rest ≡ 47 ∷ more → Splits is_line_byte more w after → lex_from slashes rest ≡ with_front (doc w ∷ []) (lex_of after)
third_slash rest more w after f split =
    ap (lex_from slashes) f ∙ no_front (lex_from (documented []) more) ∙ a_doc more w after split

pub two_slashes : (rest w after : List ℕ) → begins (λ b. b == 47) rest ≡ false → Splits is_line_byte rest w after → lex_from slashes rest ≡ with_front [] (lex_of after)
two_slashes rest w after n split = a_comment rest w after split n ∙ sym (no_front (lex_of after))

pub slash_slash : (rest : List ℕ) → lex_of (47 ∷ 47 ∷ rest) ≡ lex_from slashes rest
slash_slash rest = no_front (lex_from slash (47 ∷ rest)) ∙ no_front (lex_from slashes rest)

pub slash_star : (rest : List ℕ) → lex_of (47 ∷ 42 ∷ rest) ≡ lex_from block rest
slash_star rest = no_front (lex_from slash (42 ∷ rest)) ∙ no_front (lex_from block rest)

pub one_slash : (bytes : List ℕ) → begins (λ b. b == 47) bytes ≡ false → begins (λ b. b == 42) bytes ≡ false → lex_of (47 ∷ bytes) ≡ Err (Strange, length bytes)
one_slash [] n m = refl
one_slash (b ∷ bs) n m =
    no_front (lex_from slash (b ∷ bs))
    ∙ ap (λ x. going (suc (length bs)) x (λ next. lex_from next bs))
    (ap (λ q. cond q (Ok ([], slashes)) (cond (b == 42) (Ok ([], block)) (Err Strange))) n
    ∙ ap (λ q. cond q (Ok ([], block)) (Err Strange)) m)

pub block_closes : (rest : List ℕ) → lex_from block (42 ∷ 47 ∷ rest) ≡ lex_of rest
block_closes rest = no_front (lex_from starred (47 ∷ rest)) ∙ no_front (lex_of rest)

star_goes : (rest : List ℕ) → begins (λ c. c == 47) rest ≡ false → lex_from starred rest ≡ lex_from block rest
star_goes [] n = refl
star_goes (c ∷ cs) n =
    ap (λ x. going (suc (length cs)) x (λ next. lex_from next cs))
    (ap (λ q. cond q (Ok ([], between)) (cond (c == 42) (Ok ([], starred)) (Ok ([], block)))) n)

block_at : (b : ℕ) (rest : List ℕ) (v : Bool) → (b == 42) ≡ v → (v && begins (λ c. c == 47) rest) ≡ false → lex_from block (b ∷ rest) ≡ lex_from block rest
block_at b rest true e n =
    ap (λ x. going (suc (length rest)) x (λ next. lex_from next rest)) (ap (λ q. cond q (Ok ([], starred)) (Ok ([], block))) e)
    ∙ no_front (lex_from starred rest) ∙ star_goes rest n
block_at b rest false e n =
    ap (λ x. going (suc (length rest)) x (λ next. lex_from next rest)) (ap (λ q. cond q (Ok ([], starred)) (Ok ([], block))) e)
    ∙ no_front (lex_from block rest)

pub block_goes : (bytes : List ℕ) (b : ℕ) (rest : List ℕ) → bytes ≡ b ∷ rest → closes bytes ≡ false → lex_from block bytes ≡ lex_from block rest
block_goes bytes b rest e n =
    let m : closes (b ∷ rest) ≡ false = sym (ap closes e) ∙ n in
    ap (lex_from block) e ∙ block_at b rest (b == 42) refl m

pub block_open : lex_from block [] ≡ Err (OpenComment, 0)
block_open = refl
