-- A text of lines is cut into these lines, and a name before a quote at this quote.
use Rattle.std.proofs.Common.{◌≡◌, ℕ, List, [], ◌∷◌, ◌++◌, ap, ◌∙◌, sym, append_assoc, append-nil, refl, map, Bool, true, false, cond}
use Rattle.std.specs.Prelude.{◌==◌, ◌&&◌, not}
use Rattle.std.specs.List.{flat_map, list_all}
use Rattle.planus_dot.specs.Reading.{lines_from, quoted_from, Quoted, no_feed, no_quote}

pub both : (a b : Bool) → (a && b) ≡ true → (a ≡ true) × (b ≡ true)
both true true p = (refl, refl)
both true false p = cc
both false b p = cc

pub and_true : (a b : Bool) → a ≡ true → b ≡ true → (a && b) ≡ true
and_true a b p q = ap (λ v. v && b) p ∙ q

not_true : (a : Bool) → not a ≡ true → a ≡ false
not_true false p = refl
not_true true p = cc

-- ---- lines

pub line_cut : (front line rest : List ℕ) → list_all no_feed line ≡ true → lines_from front (line ++ 10 ∷ rest) ≡ (front ++ line) ∷ lines_from [] rest
line_cut front [] rest h = ap (λ l. l ∷ lines_from [] rest) (sym (append-nil front))
line_cut front (b ∷ bs) rest h =
    let t = both (no_feed b) (list_all no_feed bs) h in
    ap (λ v. cond v (front ∷ lines_from [] (bs ++ 10 ∷ rest)) (lines_from (front ++ b ∷ []) (bs ++ 10 ∷ rest))) (not_true (b == 10) t.0)
    ∙ line_cut (front ++ b ∷ []) bs rest t.1 ∙ ap (λ l. l ∷ lines_from [] rest) (append_assoc front (b ∷ []) bs)

regrouped : (a f r : List ℕ) → ((a ++ 10 ∷ []) ++ f) ++ r ≡ a ++ (10 ∷ (f ++ r))
regrouped a f r = append_assoc (a ++ 10 ∷ []) f r ∙ append_assoc a (10 ∷ []) (f ++ r)

pub lines_cut : {A : Type 0} (f : A → List ℕ) (xs : List A) (rest : List ℕ) → list_all (λ x. list_all no_feed (f x)) xs ≡ true
    → lines_from [] (flat_map (λ x. f x ++ 10 ∷ []) xs ++ rest) ≡ map f xs ++ lines_from [] rest
lines_cut f [] rest h = refl
lines_cut f (x ∷ xs) rest h =
    let t = both (list_all no_feed (f x)) (list_all (λ x. list_all no_feed (f x)) xs) h in
    let more = flat_map (λ x. f x ++ 10 ∷ []) xs in
    ap (lines_from []) (regrouped (f x) more rest)
    ∙ line_cut [] (f x) (more ++ rest) t.0
    ∙ ap (λ l. f x ∷ l) (lines_cut f xs rest t.1)

-- ---- names in quotes

abbrev made : List ℕ → List ℕ → Quoted
made name rest = record { name = name; rest = rest }

pub quoted_cut : (front name rest : List ℕ) → list_all no_quote name ≡ true → quoted_from front (name ++ 34 ∷ rest) ≡ record { name = front ++ name; rest = rest }
quoted_cut front [] rest h = ap (λ l. made l rest) (sym (append-nil front))
quoted_cut front (b ∷ bs) rest h =
    let t = both (no_quote b) (list_all no_quote bs) h in
    ap (λ v. cond v (made front (bs ++ 34 ∷ rest)) (quoted_from (front ++ b ∷ []) (bs ++ 34 ∷ rest))) (not_true (b == 34) t.0)
    ∙ quoted_cut (front ++ b ∷ []) bs rest t.1 ∙ ap (λ l. made l rest) (append_assoc front (b ∷ []) bs)
