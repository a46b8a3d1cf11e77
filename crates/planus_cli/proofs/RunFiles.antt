-- Files of a call, one after the other.
use Rattle.std.proofs.Common.{◌≡◌, ◌<◌, ◌≤◌, ◌+◌, ℕ, List, [], ◌∷◌, length, drop, map, get_or, refl, sym, subst, arith}
use Rattle.std.specs.Prelude.{zero, suc, max, Option}
use Rattle.std.specs.Borrow.{Bor}
use Rattle.std.proofs.Math.Seq.{drop-nil}
use Rattle.planus_cli.specs.Each.{Does, RunsFiles}

-- what is left to do is one file and those after it
pub next_run : (One : List ℕ → Does) (ws : List (Bor (List ℕ))) (i : ℕ) (w any : Bor (List ℕ)) (worst one : ℕ)
    (before written unsaid told : Option (List ℕ)) → i < length ws → w ≡ get_or ws i any → One w.now one before written unsaid told
    → (status : ℕ) (after said : Option (List ℕ)) → RunsFiles One (map (λ x. x.now) (drop (i + 1) ws)) (max worst one) status written after told said
    → RunsFiles One (map (λ x. x.now) (drop i ws)) worst status before after unsaid said
next_run One [] i w any worst one before written unsaid told within at runs status after said rest = absurd (omega (arith, within))
next_run One (v ∷ ws) zero w any worst one before written unsaid told within at runs status after said rest =
    (one, written, told, subst (λ (x : Bor (List ℕ)). One x.now one before written unsaid told) at runs, rest)
next_run One (v ∷ ws) (suc i) w any worst one before written unsaid told within at runs status after said rest =
    let one_more : suc i + 1 ≡ suc (i + 1) = omega arith in
    next_run One ws i w any worst one before written unsaid told (omega (arith, within)) at runs status after said
    (subst (λ n. RunsFiles One (map (λ x. x.now) (drop n (v ∷ ws))) (max worst one) status written after told said) one_more rest)

pub all_run : (One : List ℕ → Does) (ws : List (Bor (List ℕ))) (i worst : ℕ) (before unsaid : Option (List ℕ))
    → length ws ≤ i → RunsFiles One (map (λ x. x.now) (drop i ws)) worst worst before before unsaid unsaid
all_run One [] i worst before unsaid end =
    subst (λ xs. RunsFiles One (map (λ x. x.now) xs) worst worst before before unsaid unsaid) (sym (drop-nil {A = Bor (List ℕ)} i)) (refl, refl, refl)
all_run One (w ∷ ws) zero worst before unsaid end = absurd (omega (arith, end))
all_run One (w ∷ ws) (suc i) worst before unsaid end = all_run One ws i worst before unsaid (omega (arith, end))
