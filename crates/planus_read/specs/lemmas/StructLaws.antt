-- Laws for the fields of structs.
use Prim.Native.Nat.{zero, suc}
use Rattle.std.specs.Prelude.{◌≡◌, ℕ, ◌+◌, List, [], ◌∷◌, ◌++◌, length, take, drop}
use Rattle.std.proofs.Common.{refl, sym, subst, ap, ◌∙◌, arith, length-append}
use Rattle.std.proofs.Math.Seq.{take-add, take-append_seam}
use Rattle.std.proofs.lemmas.List.{drop-drop, append_cancel_left, take-take}
use Rattle.planus_read.specs.Bytes.{BytesStand}
use Rattle.planus_read.specs.Clauses.{Clause, AllHold}
use Rattle.planus_read.specs.Plain.{place}

cut :
    (B x y : List ℕ) (p : ℕ)
    → take (length (x ++ y)) (drop p B) ≡ take (length x) (drop p B) ++ take (length y)
    (drop (p + length x) B)
cut B x y p = rw (
  length-append x y,
  take-add (length x) (length y) (drop p B),
  drop-drop (length x) p B,
) refl

pub parts_stand :
    (B x y : List ℕ) (p : ℕ) → BytesStand B p (x ++ y)
    → BytesStand B p x × BytesStand B (p + length x) y
parts_stand B x y p h =
    let front : take (length x) (drop p B) ≡ x =
    sym (take-take (length x) (length (x ++ y)) (drop p B) (rw (length-append x y) (omega arith)))
    ∙ ap (take (length x)) h ∙ take-append_seam x y in
    let back : x ++ take (length y) (drop (p + length x) B) ≡ x ++ y =
    ap (λ l. l ++ take (length y) (drop (p + length x) B)) (sym front) ∙ sym (cut B x y p) ∙ h in
    (front, append_cancel_left x (take (length y) (drop (p + length x) B)) y back)

pub place_is : (f k : ℕ) → place f k ≡ f + k
place_is f zero = omega arith
place_is f (suc n) = refl

pub behind : (S : List ℕ) (f k n m : ℕ) (bytes : List ℕ) → n ≡ m
    → BytesStand S (place f k + n) bytes
    → BytesStand S (place f (k + m)) bytes
behind S f k n m bytes same stands =
    let first = place_is f k in let second = place_is f (k + m) in
    let at : place f k + n ≡ place f (k + m) = omega (arith, same, first, second) in
    subst (λ p. BytesStand S p bytes) at stands

pub both_are : {A B : Type 0} (x y : A × B) → x.0 ≡ y.0 → x.1 ≡ y.1 → x ≡ y
both_are {A} {B} x y first second =
    let pair : A → B → A × B = λ a b. (a, b) in
    ap (λ a. pair a x.1) first ∙ ap (λ b. pair y.0 b) second

pub both_hold : (a b : List Clause) → AllHold a → AllHold b → AllHold (a ++ b)
both_hold [] b none more = more
both_hold (one ∷ a) b all more = (all.0, both_hold a b all.1 more)
