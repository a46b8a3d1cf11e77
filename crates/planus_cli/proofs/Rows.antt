-- Texts that are added one after another.
use Rattle.std.proofs.Common.{◌≡◌, List, ◌++◌, ℕ, ap, ◌∙◌, append_assoc, Result, Ok, Err}
use Rattle.std.specs.Prelude.{OnOk}

pub on_ok_map : {T E : Type 0} (r : Result T E) (P Q : Type 0) → (P → Q) → OnOk r P → OnOk r Q
on_ok_map (Ok x) P Q f h = f h
on_ok_map (Err e) P Q f h = tt

-- one more text before the others
pub added_first : (old mid new first rest : List ℕ) → mid ≡ old ++ first → new ≡ mid ++ rest → new ≡ old ++ (first ++ rest)
added_first old mid new first rest e h = h ∙ ap (λ l. l ++ rest) e ∙ append_assoc old first rest

pub all_added : (t0 t1 t2 t3 t4 t5 t6 a b c d e f g : List ℕ) → t0 ≡ a → t1 ≡ t0 ++ b → t2 ≡ t1 ++ c → t3 ≡ t2 ++ d → t4 ≡ t3 ++ e → t5 ≡ t4 ++ f → t6 ≡ t5 ++ g
    → t6 ≡ a ++ (b ++ (c ++ (d ++ (e ++ (f ++ g)))))
all_added t0 t1 t2 t3 t4 t5 t6 a b c d e f g h0 h1 h2 h3 h4 h5 h6 =
    added_first t0 t1 t6 b (c ++ (d ++ (e ++ (f ++ g)))) h1
    (added_first t1 t2 t6 c (d ++ (e ++ (f ++ g))) h2 (added_first t2 t3 t6 d (e ++ (f ++ g)) h3 (added_first t3 t4 t6 e (f ++ g) h4 (added_first t4 t5 t6 f g h5 h6))))
    ∙ ap (λ l. l ++ (b ++ (c ++ (d ++ (e ++ (f ++ g)))))) h0
