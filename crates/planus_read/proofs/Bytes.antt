-- Bytes at a position, cut in two and compared.
use Rattle.std.proofs.Common.{◌≡◌, ℕ, ◌+◌, ◌-◌, Bool, true, false, List, ◌++◌, length, take, drop}
use Rattle.std.proofs.Common.{refl, sym, ap, ◌∙◌, arith, nat_eq, IsTrue, length-append}
use Rattle.std.proofs.Math.Seq.{take-add, take-append_seam}
use Rattle.std.proofs.lemmas.List.{drop-drop, append_cancel_left, take-take, take_rest}
use Rattle.std.specs.Cmp.Lexicographic.{told_text}
use lib.Pointwise.{pointwise}
use Rattle.planus_read.specs.Bytes.{BytesStand}

cut :
    (B x y : List ℕ) (p : ℕ)
    → take (length (x ++ y)) (drop p B) ≡ take (length x) (drop p B) ++ take (length y)
    (drop (p + length x) B)
cut B x y p = rw (
  length-append x y,
  take-add (length x) (length y) (drop p B),
  drop-drop (length x) p B,
) refl

pub parts_stand :
    (B x y : List ℕ) (p : ℕ) → BytesStand B p (x ++ y)
    → BytesStand B p x × BytesStand B (p + length x) y
parts_stand B x y p h =
    let front : take (length x) (drop p B) ≡ x =
    sym (take-take (length x) (length (x ++ y)) (drop p B) (rw (length-append x y) (omega arith)))
    ∙ ap (take (length x)) h ∙ take-append_seam x y in
    let back : x ++ take (length y) (drop (p + length x) B) ≡ x ++ y =
    ap (λ l. l ++ take (length y) (drop (p + length x) B)) (sym front) ∙ sym (cut B x y p) ∙ h in
    (front, append_cancel_left x (take (length y) (drop (p + length x) B)) y back)

pub whole_stands :
    (B x y : List ℕ) (p : ℕ) → BytesStand B p x → BytesStand B (p + length x) y
    → BytesStand B p (x ++ y)
whole_stands B x y p h k = cut B x y p ∙ ap (λ l. l ++ take (length y) (drop (p + length x) B)) h
    ∙ ap (λ l. x ++ l) k

pub compared :
    (xs ys : List ℕ) (r : Bool) → r ≡ pointwise nat_eq xs ys
    → (IsTrue r → xs ≡ ys) × (xs ≡ ys → IsTrue r)
compared xs ys true e = (λ _. told_text xs ys true e, λ _. refl)
compared xs ys false e = (
  λ h. absurd (let f : false ≡ true = h in cc),
  λ h. absurd (told_text xs ys false e h),
)

pub compared_at :
    (B part : List ℕ) (p : ℕ) (r : Bool)
    → r ≡ pointwise nat_eq (take (length part) (take (length B - p) (drop p B))) part
    → (IsTrue r → BytesStand B p part) × (BytesStand B p part → IsTrue r)
compared_at B part p r e =
    let rest : take (length B - p) (drop p B) ≡ drop p B = take_rest B p in
    compared (take (length part) (drop p B)) part r
    (e ∙ ap (λ l. pointwise nat_eq (take (length part) l) part) rest)
