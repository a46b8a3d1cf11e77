-- Values of which equal ones are the same.
use Rattle.std.specs.Prelude.{◌≡◌, ℕ, ℤ, Bool, true, false, ◌&&◌, nat_eq, ⊤}
use Rattle.std.specs.Ordering.{int_eq}
use Rattle.std.proofs.Common.{refl, ap, rules, sym}
use mathlib.Core.Bool.{beq}

pub nat : (a b : ℕ) → nat_eq a b ≡ true → a ≡ b
nat a b e = search rules

pub int : (a b : ℤ) → int_eq a b ≡ true → a ≡ b
int a b e = search rules

pub bool : (a b : Bool) → beq a b ≡ true → a ≡ b
bool true true e = refl
bool true false e = sym e
bool false true e = e
bool false false e = refl

never : false ≡ true → ⊥
never e = let e1 = e in cc

both_true : (p q : Bool) → (p && q) ≡ true → (p ≡ true) × (q ≡ true)
both_true true q e = (refl, e)
both_true false q e = absurd (never e)

pair : {A B : Type 0} {a b : A} {x y : B} → a ≡ b → x ≡ y → ◌≡◌ {A = A × B} (a, x) (b, y)
pair first second = cc

-- the values of the last field of a struct, and of one with those after it
pub last : {A : Type 0} {q : Bool} {a b : A} → (q ≡ true → a ≡ b) → q ≡ true
    → ◌≡◌ {A = A × ⊤} (a, tt) (b, tt)
last same e = pair (same e) refl

pub both : {A B : Type 0} {p q : Bool} {a b : A} {x y : B} → (p ≡ true → a ≡ b)
    → (q ≡ true → x ≡ y) → (p && q) ≡ true → ◌≡◌ {A = A × B} (a, x) (b, y)
both {A} {B} {p} {q} first second e =
    let tests = both_true p q e in pair (first tests.0) (second tests.1)

-- what is made of the same values
pub made : {V A : Type 0} {x y : V} → x ≡ y → (make : V → A) → make x ≡ make y
made same make = ap make same
