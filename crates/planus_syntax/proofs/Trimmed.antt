-- A comment without the blanks at its end.
use Rattle.std.proofs.Common.{◌≡◌, ℕ, List, [], ◌∷◌, ◌++◌, Bool, true, false, cond, refl, sym, ap, ◌∙◌}
use Rattle.std.specs.Prelude.{◌==◌, ◌&&◌, not}
use Rattle.std.specs.List.{list_all}
use Rattle.planus_syntax.specs.Tokens.{begins, is_blank, is_line_byte}
use Rattle.planus_syntax.specs.Spelled.{comment, is_part}
use Rattle.planus_syntax.specs.Comments.{trimmed, trimmed_front}
use Rattle.planus_syntax.proofs.Scanning.{both}
use Rattle.planus_syntax.proofs.Spelling.{all_two}

one_again : (b : ℕ) (v : Bool) → is_blank b ≡ v → trimmed (cond v [] (b ∷ [])) ≡ cond v [] (b ∷ [])
one_again b true e = refl
one_again b false e = ap (λ v. cond v [] (b ∷ [])) e

front_again : (b : ℕ) (cs : List ℕ) → trimmed cs ≡ cs → trimmed (trimmed_front b cs) ≡ trimmed_front b cs
front_again b [] h = one_again b (is_blank b) refl
front_again b (c ∷ cs) h = ap (trimmed_front b) h

pub trimmed_again : (w : List ℕ) → trimmed (trimmed w) ≡ trimmed w
trimmed_again [] = refl
trimmed_again (b ∷ bs) = front_again b (trimmed bs) (trimmed_again bs)

one_passes : (p : ℕ → Bool) (b : ℕ) (v : Bool) → p b ≡ true → list_all p (cond v [] (b ∷ [])) ≡ true
one_passes p b true h = refl
one_passes p b false h = ap (λ u. u && true) h

front_passes : (p : ℕ → Bool) (b : ℕ) (cs : List ℕ) → p b ≡ true → list_all p cs ≡ true → list_all p (trimmed_front b cs) ≡ true
front_passes p b [] h k = one_passes p b (is_blank b) h
front_passes p b (c ∷ cs) h k = all_two (p b) (list_all p (c ∷ cs)) h k

pub trimmed_passes : (p : ℕ → Bool) (w : List ℕ) → list_all p w ≡ true → list_all p (trimmed w) ≡ true
trimmed_passes p [] h = refl
trimmed_passes p (b ∷ bs) h =
    let a = both (p b) (list_all p bs) h in
    front_passes p b (trimmed bs) a.0 (trimmed_passes p bs a.1)

one_begins : (b : ℕ) (v : Bool) → not (b == 47) ≡ true → not (begins (λ c. c == 47) (cond v [] (b ∷ []))) ≡ true
one_begins b true h = refl
one_begins b false h = h

front_begins : (b : ℕ) (cs : List ℕ) → not (b == 47) ≡ true → not (begins (λ c. c == 47) (trimmed_front b cs)) ≡ true
front_begins b [] h = one_begins b (is_blank b) h
front_begins b (c ∷ cs) h = h

trimmed_begins : (w : List ℕ) → not (begins (λ c. c == 47) w) ≡ true → not (begins (λ c. c == 47) (trimmed w)) ≡ true
trimmed_begins [] h = refl
trimmed_begins (b ∷ bs) h = front_begins b (trimmed bs) h

pub trimmed_part : (w : List ℕ) → is_part (comment w) ≡ true → is_part (comment (trimmed w)) ≡ true
trimmed_part w h =
    let a = both (list_all is_line_byte w) (not (begins (λ c. c == 47) w)) h in
    all_two (list_all is_line_byte (trimmed w)) (not (begins (λ c. c == 47) (trimmed w)))
    (trimmed_passes is_line_byte w a.0) (trimmed_begins w a.1)

-- a blank at the end is dropped
blank_dropped : (b : ℕ) → is_blank b ≡ true → trimmed (b ∷ []) ≡ []
blank_dropped b h = ap (λ v. cond v [] (b ∷ [])) h

pub trimmed_blank : (front : List ℕ) (b : ℕ) → is_blank b ≡ true → trimmed (front ++ b ∷ []) ≡ trimmed front
trimmed_blank [] b h = blank_dropped b h
trimmed_blank (c ∷ front) b h = ap (trimmed_front c) (trimmed_blank front b h)

-- what ends with no blank stays
full_front : (c : ℕ) (front : List ℕ) (b : ℕ) → trimmed_front c (front ++ b ∷ []) ≡ c ∷ (front ++ b ∷ [])
full_front c [] b = refl
full_front c (d ∷ front) b = refl

pub trimmed_full : (front : List ℕ) (b : ℕ) → is_blank b ≡ false → trimmed (front ++ b ∷ []) ≡ front ++ b ∷ []
trimmed_full [] b h = ap (λ v. cond v [] (b ∷ [])) h
trimmed_full (c ∷ front) b h = ap (trimmed_front c) (trimmed_full front b h) ∙ full_front c front b

pub full_rest : (rest front : List ℕ) (b : ℕ) → rest ≡ front ++ b ∷ [] → is_blank b ≡ false → rest ≡ trimmed rest
full_rest rest front b e h = e ∙ sym (trimmed_full front b h) ∙ ap trimmed (sym e)

pub blank_rest : (rest front : List ℕ) (b : ℕ) → rest ≡ front ++ b ∷ [] → is_blank b ≡ true → trimmed front ≡ trimmed rest
blank_rest rest front b e h = sym (trimmed_blank front b h) ∙ ap trimmed (sym e)
