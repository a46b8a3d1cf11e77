-- Marks and blanks, byte by byte.
use Rattle.std.proofs.Common.{◌≡◌, ℕ, suc, List, [], ◌∷◌, ◌++◌, length, Bool, true, false, refl, sym, ap, subst, Ok}
use Rattle.std.specs.Prelude.{not, ◌==◌, ◌||◌, ◌&&◌, codes}
use Rattle.std.specs.Char.{is_ascii_digit}
use Rattle.std.specs.List.{list_all, list_any, AllByRecursion}
use Rattle.std.proofs.lemmas.Bool.{eqb-true}
use Rattle.planus_syntax.specs.Tokens.{mark, begins, is_word_byte, is_mark, is_number_start, starts_number, is_some}
use Rattle.planus_syntax.specs.Lexing.{between, opened, going, with_front, lex_from, lex_of}
use Rattle.planus_syntax.proofs.Scanning.{both, point_ends}

one_of_at : (P : ℕ → Type 0) (m b : ℕ) (v more : Bool) → (m == b) ≡ v → (v || more) ≡ true → P m → (more ≡ true → P b) → P b
one_of_at P m b true more e h here there = subst P (eqb-true m b e) here
one_of_at P m b false more e h here there = there h

pub one_of : (P : ℕ → Type 0) (ms : List ℕ) (b : ℕ) → AllByRecursion P ms → list_any (λ m. m == b) ms ≡ true → P b
one_of P [] b all h = absurd cc
one_of P (m ∷ ms) b all h = one_of_at P m b (m == b) (list_any (λ m. m == b) ms) refl h all.0 (λ more. one_of P ms b all.1 more)

abbrev Opens : ℕ → Type 0
Opens b = (b == 46) ≡ false → opened b ≡ Ok (mark b ∷ [], between)

pub mark_opens : (b : ℕ) → is_mark b ≡ true → (b == 46) ≡ false → opened b ≡ Ok (mark b ∷ [], between)
mark_opens b h = one_of Opens (codes "{}()[]:;,=.") b (λ n. refl, (λ n. refl, (λ n. refl, (λ n. refl, (λ n. refl, (λ n. refl, (λ n. refl, (λ n. refl, (λ n. refl, (λ n. refl, (λ n. absurd cc, tt))))))))))) h

begins_same : (rest : List ℕ) → begins (λ b. true && is_ascii_digit b) rest ≡ false → begins is_ascii_digit rest ≡ false
begins_same [] h = refl
begins_same (b ∷ rest) h = h

pub no_digit : (v : Bool) (rest : List ℕ) → v ≡ true → begins (λ b. v && is_ascii_digit b) rest ≡ false → begins is_ascii_digit rest ≡ false
no_digit true rest e h = begins_same rest h
no_digit false rest e h = absurd cc

mark_at : (b : ℕ) (rest : List ℕ) (v : Bool) → (b == 46) ≡ v → is_mark b ≡ true → begins (λ c. b == 46 && is_ascii_digit c) rest ≡ false → lex_of (b ∷ rest) ≡ with_front (mark b ∷ []) (lex_of rest)
mark_at b rest true e h s =
    let P : ℕ → Type 0 = λ x. lex_of (x ∷ rest) ≡ with_front (mark x ∷ []) (lex_of rest) in
    subst P (sym (eqb-true b 46 e)) (point_ends rest (no_digit (b == 46) rest e s))
mark_at b rest false e h s = ap (λ x. going (suc (length rest)) x (λ next. lex_from next rest)) (mark_opens b h e)

-- a mark before what does not lengthen it
pub a_mark : (b : ℕ) (rest : List ℕ) → is_mark b ≡ true → begins (λ c. b == 46 && is_ascii_digit c) rest ≡ false → lex_of (b ∷ rest) ≡ with_front (mark b ∷ []) (lex_of rest)
a_mark b rest h s = mark_at b rest (b == 46) refl h s

pub neither : (a b : Bool) → (a || b) ≡ false → (a ≡ false) × (b ≡ false)
neither true b h = absurd cc
neither false b h = (refl, h)

-- where no number starts, a point is not before a digit
pub point_stops : (b : ℕ) (bs : List ℕ) → starts_number (b ∷ bs) ≡ false → begins (λ c. b == 46 && is_ascii_digit c) bs ≡ false
point_stops b [] h = refl
point_stops b (c ∷ bs) h = (neither (is_number_start b) (b == 46 && is_ascii_digit c) h).1

pub not_true : (a : Bool) → not a ≡ true → a ≡ false
not_true true h = absurd cc
not_true false h = refl

pub word_front : (w rest : List ℕ) → is_some w ≡ true → list_all is_word_byte w ≡ true → begins is_word_byte (w ++ rest) ≡ true
word_front [] rest s h = absurd cc
word_front (c ∷ w) rest s h = (both (is_word_byte c) (list_all is_word_byte w) h).0

pub front_says : (p : ℕ → Bool) (w rest : List ℕ) (v : Bool) → is_some w ≡ true → begins p w ≡ v → begins p (w ++ rest) ≡ v
front_says p [] rest v s h = absurd cc
front_says p (c ∷ w) rest v s h = h

pub start_some : (p : ℕ → Bool) (w : List ℕ) → begins p w ≡ true → is_some w ≡ true
start_some p [] h = absurd cc
start_some p (c ∷ w) h = refl

pub never : (rest : List ℕ) → begins (λ b. false) rest ≡ false
never [] = refl
never (b ∷ rest) = refl
