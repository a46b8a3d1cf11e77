-- Items that are prepared one after another.
use Rattle.std.proofs.Common.{◌≡◌, ℕ, suc, zero, ◌≤◌, List, [], ◌∷◌, ◌++◌, length}
use Rattle.std.proofs.Common.{refl, sym, ap, subst, inl, inr, Some}
use Rattle.std.specs.Prelude.{Ok, Err, slice_get}
use Rattle.std.specs.List.{AllByRecursion}
use Rattle.planus_write.specs.State.{State, Grows}
use Rattle.planus_write.specs.Placing.{Outcome}
use Rattle.planus_write.specs.Preparing.{PreparesAll}
use Rattle.planus_write.specs.lemmas.Laws.{reached_still}
use Rattle.planus_write.specs.declared.errors.BuildError.{BuildError}

module _ {X A : Type 0} (prepare : X → Outcome A) where
  pub prepares_more : (xs : List X) (old : State) (all : List A) (mid : State) (x : X) (a : A) (new : State)
      → PreparesAll prepare xs old (Ok all) mid → prepare x mid (Ok a) new
      → PreparesAll prepare (xs ++ x ∷ []) old (Ok (all ++ a ∷ [])) new
  prepares_more [] old all mid x a new h last =
      let same : all ≡ [] = cc in (
        a,
        new,
        subst (λ (s : State). prepare x s (Ok a) new) h.1 last,
        ([], new, (refl, refl), (ap (λ (others : List A). Ok (others ++ a ∷ [])) same, refl)),
      )
  prepares_more (first ∷ xs) old all mid x a new h last =
      let others : List A = h.3.0 in
      let rest = prepares_more xs h.1 others mid x a new (subst (λ (s : State). PreparesAll prepare xs h.1 (Ok others) s) (sym h.3.3.1) h.3.2) last in
      let same : all ≡ h.0 ∷ others = cc in
      (h.0, h.1, h.2, (others ++ a ∷ [], new, rest, (ap (λ (items : List A). Ok (items ++ a ∷ [])) same, refl)))

  pub prepares_stops : (xs : List X) (old : State) (all : List A) (mid : State) (x : X) (others : List X) (error : BuildError) (new : State)
      → PreparesAll prepare xs old (Ok all) mid → prepare x mid (Err error) new
      → PreparesAll prepare (xs ++ x ∷ others) old (Err error) new
  prepares_stops [] old all mid x others error new h refused = inl (subst (λ (s : State). prepare x s (Err error) new) h.1 refused)
  prepares_stops (first ∷ xs) old all mid x others error new h refused =
      let rest = prepares_stops xs h.1 h.3.0 mid x others error new (subst (λ (s : State). PreparesAll prepare xs h.1 (Ok h.3.0) s) (sym h.3.3.1) h.3.2) refused in
      inr (h.0, h.1, h.2, inl rest)

pub may_at : {X : Type 0} (P : X → Type 0) (xs : List X) (i : ℕ) (x : X) → AllByRecursion P xs → slice_get xs i ≡ Some x → P x
may_at P [] i x h e = (cc)
may_at P (first ∷ xs) zero x h e = let same : first ≡ x = cc in subst P same h.0
may_at P (first ∷ xs) (suc i) x h e = may_at P xs i x h.1 e

pub reached_further : {A : Type 0} (reach : A → ℕ) (all : List A) (old new : State) → Grows old new
    → AllByRecursion (λ a. reach a ≤ length old.bytes) all → AllByRecursion (λ a. reach a ≤ length new.bytes) all
reached_further reach [] old new grows h = tt
reached_further reach (a ∷ all) old new grows h = (reached_still (reach a) old new grows h.0, reached_further reach all old new grows h.1)

pub all_more : {A : Type 0} (P : A → Type 0) (all : List A) (a : A) → AllByRecursion P all → P a → AllByRecursion P (all ++ a ∷ [])
all_more P [] a h last = (last, tt)
all_more P (first ∷ all) a h last = (h.0, all_more P all a h.1 last)
