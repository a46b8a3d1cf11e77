-- A text is cut where a run ends.
use Rattle.std.proofs.Common.{◌≡◌, ℕ, suc, ◌+◌, List, [], ◌∷◌, take, drop, Bool, true, false, cond, refl, sym, arith}
use Rattle.std.specs.Prelude.{not}
use Rattle.std.specs.List.{list_all, position_or_len}
use Rattle.std.proofs.lemmas.List.{take-append-drop}
use Rattle.planus_syntax.specs.Tokens.{begins}
use Rattle.planus_syntax.specs.Cutting.{Splits}

abbrev pub end : (ℕ → Bool) → List ℕ → ℕ
end p xs = position_or_len (λ b. not (p b)) xs

before_at : (p : ℕ → Bool) (x : ℕ) (xs : List ℕ) (b : Bool) → p x ≡ b → list_all p (take (end p xs) xs) ≡ true → list_all p (take (cond (not (not b)) (1 + end p xs) 0) (x ∷ xs)) ≡ true
before_at p x xs true e h = let k : 1 + end p xs ≡ suc (end p xs) = omega arith in rw k (rw e h)
before_at p x xs false e h = refl

before : (p : ℕ → Bool) (xs : List ℕ) → list_all p (take (end p xs) xs) ≡ true
before p [] = refl
before p (x ∷ xs) = before_at p x xs (p x) refl (before p xs)

after_at : (p : ℕ → Bool) (x : ℕ) (xs : List ℕ) (b : Bool) → p x ≡ b → begins p (drop (end p xs) xs) ≡ false → begins p (drop (cond (not (not b)) (1 + end p xs) 0) (x ∷ xs)) ≡ false
after_at p x xs true e h = let k : 1 + end p xs ≡ suc (end p xs) = omega arith in rw k h
after_at p x xs false e h = e

after : (p : ℕ → Bool) (xs : List ℕ) → begins p (drop (end p xs) xs) ≡ false
after p [] = refl
after p (x ∷ xs) = after_at p x xs (p x) refl (after p xs)

pub splits : (p : ℕ → Bool) (xs : List ℕ) → Splits p xs (take (end p xs) xs) (drop (end p xs) xs)
splits p xs = record { whole = sym (take-append-drop (end p xs) xs); each = before p xs; stops = after p xs }
