-- Lists.
use Rattle.std.proofs.Common.{◌≡◌, ℕ, zero, suc, ◌+◌, ◌-◌, ◌<◌, Bool, false, cond, List, [], ◌∷◌, ◌++◌, length, map, take, drop, get_or, add-one, drop-cons, refl, sym, ap, ◌∙◌, arith, append_assoc, sub-one}
use Rattle.std.specs.Prelude.{◌==◌, position, nat_lt, not, Option, Some, None, fold}
use Rattle.std.specs.List.{prefix_len}
use Rattle.std.proofs.Math.ListN.{length-map}
use Rattle.planus_syntax.specs.Values.{Name}
use Rattle.planus_resolve.specs.Names.{HeadV, cut_words, with_word, named_if, found_from}

prefix_len-map : {A B : Type 0} (p : B → Bool) (f : A → B) (xs : List A) → prefix_len p (map f xs) ≡ prefix_len (λ x. p (f x)) xs
prefix_len-map p f [] = refl
prefix_len-map p f (x ∷ xs) = ap (λ n. cond (p (f x)) (1 + n) 0) (prefix_len-map p f xs)

pub position-map : {A B : Type 0} (p : B → Bool) (f : A → B) (xs : List A) → position p (map f xs) ≡ position (λ x. p (f x)) xs
position-map p f xs =
    let e = prefix_len-map (λ x. not (p x)) f xs in
    let l = length-map xs f in
    ap (λ n. cond (nat_lt n (length (map f xs))) (Some n) None) e
    ∙ ap (λ k. cond (nat_lt (prefix_len (λ x. not (p (f x))) xs) k) (Some (prefix_len (λ x. not (p (f x))) xs)) None) l

pub words_taken : (out : List ℕ) (first : Name) (more : List Name) (n : ℕ) → 0 < n → fold with_word (with_word out first) (take (n - 1) more) ≡ fold with_word out (take n (first ∷ more))
words_taken out first more zero h = absurd (omega arith)
words_taken out first more (suc n) h = rw sub-one refl

pub further_out : (hs : List HeadV) (test : ℕ → Bool) (space words : List Name) (n : ℕ) (r : Option ℕ) → 0 < n → r ≡ None → r ≡ named_if hs test (take n space ++ words) → found_from hs test space words (n - 1) ≡ found_from hs test space words n
further_out hs test space words zero r h e i = absurd (omega arith)
further_out hs test space words (suc n) r h e i =
    let k : named_if hs test (take (suc n) space ++ words) ≡ None = sym i ∙ e in
    rw (sub-one, k) refl

pub word_cut : (front : List Name) (word : List ℕ) (b : ℕ) (text rest : List ℕ) (all : List Name) → text ≡ b ∷ rest → b ≡ 32 → front ++ cut_words word text ≡ all → (front ++ word ∷ []) ++ cut_words [] rest ≡ all
word_cut front word b text rest all here e same =
    append_assoc front (word ∷ []) (cut_words [] rest) ∙ ap (λ x. front ++ cut_words word (x ∷ rest)) (sym e) ∙ ap (λ t. front ++ cut_words word t) (sym here) ∙ same

pub word_goes_on : (front : List Name) (word : List ℕ) (b : ℕ) (text rest : List ℕ) (all : List Name) → text ≡ b ∷ rest → (b == 32) ≡ false → front ++ cut_words word text ≡ all → front ++ cut_words (word ++ b ∷ []) rest ≡ all
word_goes_on front word b text rest all here e same =
    ap (λ q. front ++ cond q (word ∷ cut_words [] rest) (cut_words (word ++ b ∷ []) rest)) (sym e) ∙ ap (λ t. front ++ cut_words word t) (sym here) ∙ same

pub byte_next : (xs : List ℕ) (i d : ℕ) → i < length xs → drop i xs ≡ get_or xs i d ∷ drop (i + 1) xs
byte_next xs i d h = rw add-one (drop-cons xs i d h)
