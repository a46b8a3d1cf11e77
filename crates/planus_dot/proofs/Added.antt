-- Texts that are added one after another.
use Rattle.std.proofs.Common.{◌≡◌, ℕ, List, ◌++◌, ap, ◌∙◌, append_assoc}

regrouped : (t a n b l e f : List ℕ) → ((((t ++ a) ++ n) ++ b) ++ l) ++ (e ++ f) ≡ t ++ ((a ++ (n ++ (b ++ (l ++ e)))) ++ f)
regrouped t a n b l e f = simp append_assoc

pub line_added : (t0 t1 t2 t3 t4 t5 a m n b l e f : List ℕ) → t1 ≡ t0 ++ a → t2 ≡ t1 ++ m → m ≡ n → t3 ≡ t2 ++ b → t4 ≡ t3 ++ l → t5 ≡ t4 ++ (e ++ f)
    → t5 ≡ t0 ++ ((a ++ (n ++ (b ++ (l ++ e)))) ++ f)
line_added t0 t1 t2 t3 t4 t5 a m n b l e f h1 h2 hm h3 h4 h5 =
    h5 ∙ ap (λ x. x ++ (e ++ f)) (h4 ∙ ap (λ x. x ++ l) (h3 ∙ ap (λ x. x ++ b) (h2 ∙ ap (λ x. t1 ++ x) hm ∙ ap (λ x. x ++ n) h1)))
    ∙ regrouped t0 a n b l e f
