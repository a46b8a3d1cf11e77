-- The last finish of a replay.
use Rattle.std.proofs.Common.{◌≡◌, ℕ, suc, ◌+◌, List, [], ◌∷◌, ◌++◌, length, Bool, true, false, refl, sym, ap, ◌∙◌, arith, subst}
use Rattle.std.specs.Prelude.{if◌then◌else◌}
use Rattle.planus_write.specs.Shared.{CacheSettings}
use Rattle.planus.specs.Steps.{Step}
use Rattle.planus.specs.Runs.{Finish}
use Rattle.planus.specs.FinishHolds.{IsFinishOf, AreFinishesOf, finishes_from, is_finish}

-- the last of these is what the finish of this number gives
pub record LastOf (settings : CacheSettings) (all : List Step) (number : ℕ) (found : List Finish)
    : Type 0 where
  pub earlier : List Finish
  pub given : Finish
  pub whole : found ≡ earlier ++ given ∷ []
  pub is : IsFinishOf settings all number given

module _ (settings : CacheSettings) (all : List Step) (last : Step) (ends : is_finish last ≡ true) where
  abbrev Are : ℕ → List Step → List Finish → Type 0
  Are n steps found = AreFinishesOf settings all (finishes_from n (steps ++ last ∷ [])) found

  one_last : (n : ℕ) (found : List Finish) → AreFinishesOf settings all (n ∷ []) found
      → LastOf settings all (n + 0) found
  one_last n [] are = absurd are
  one_last n (given ∷ []) are = record {
    earlier = [];
    given = given;
    whole = refl;
    is = subst (λ m. IsFinishOf settings all m given) (omega arith) are.0;
  }
  one_last n (given ∷ other ∷ found) are = absurd are.1

  more : (n m : ℕ) (given : Finish) (found : List Finish) → n ≡ m → LastOf settings all n found
      → LastOf settings all m (given ∷ found)
  more n m given found same l = record {
    earlier = given ∷ l.earlier;
    given = l.given;
    whole = ap (λ gs. given ∷ gs) l.whole;
    is = subst (λ k. IsFinishOf settings all k l.given) same l.is;
  }

  same_found : (n m : ℕ) (found : List Finish) → n ≡ m → LastOf settings all n found
      → LastOf settings all m found
  same_found n m found same l = subst (λ k. LastOf settings all k found) same l

  by_kind : (n : ℕ) (steps : List Step) (b : Bool)
      → ((found : List Finish) → Are (n + 1) steps found → LastOf settings all (n + 1 + length steps) found)
      → (found : List Finish)
      → AreFinishesOf settings all (if b then n ∷ finishes_from (n + 1) (steps ++ last ∷ []) else finishes_from (n + 1) (steps ++ last ∷ [])) found
      → LastOf settings all (n + suc (length steps)) found
  by_kind n steps true others [] are = absurd are
  by_kind n steps true others (given ∷ found) are = more (n + 1 + length steps) (n + suc (length steps)) given found (omega arith) (others found are.1)
  by_kind n steps false others found are = same_found (n + 1 + length steps) (n + suc (length steps)) found (omega arith) (others found are)

  pub last_of : (steps : List Step) (n : ℕ) (found : List Finish) → Are n steps found
      → LastOf settings all (n + length steps) found
  last_of [] n found are = one_last n found (subst (λ b. AreFinishesOf settings all (if b then n ∷ [] else []) found) ends are)
  last_of (s ∷ steps) n found are = by_kind n steps (is_finish s) (last_of steps (n + 1)) found are

final : Finish → List Finish → Finish
final d [] = d
final d (x ∷ xs) = final x xs

final_is : (d : Finish) (xs : List Finish) (x : Finish) → final d (xs ++ x ∷ []) ≡ x
unfolding final
final_is d [] x = refl
final_is d (y ∷ xs) x = final_is y xs x

-- two lists that are the same have the same last finish
pub same_last : (xs ys : List Finish) (x y : Finish) → xs ++ x ∷ [] ≡ ys ++ y ∷ [] → x ≡ y
same_last xs ys x y h = sym (final_is x xs x) ∙ ap (final x) h ∙ final_is x ys y

pub not_empty : (xs : List Finish) (x : Finish) → length (xs ++ x ∷ []) ≡ 0 → ⊥
not_empty [] x h = absurd (omega (arith, h))
not_empty (y ∷ xs) x h = absurd (omega (arith, h))
