-- Lists of distinct items.
use Rattle.std.proofs.Common.{◌≡◌, Bool, true, false, List, [], ◌∷◌, ◌++◌, map, length, drop, get_or, ℕ, ◌+◌, ◌<◌, suc, add-one, drop-cons, refl, sym, ap, ◌∙◌}
use Rattle.std.specs.Prelude.{◌||◌}
use Rattle.std.specs.List.{list_any, IsDistinct, AllByRecursion}

all_push : {A : Type 0} (P : A → Type 0) (xs : List A) (y : A) → AllByRecursion P xs → P y → AllByRecursion P (xs ++ y ∷ [])
all_push P [] y h p = (p, tt)
all_push P (x ∷ xs) y h p = (h.0, all_push P xs y h.1 p)

or_left : (a b : Bool) → (a || b) ≡ false → a ≡ false
or_left false b h = refl
or_left true b h = absurd cc

or_right : (a b : Bool) → (a || b) ≡ false → b ≡ false
or_right false b h = h
or_right true b h = absurd cc

pub distinct_push : {A : Type 0} (eq : A → A → Bool) (xs : List A) (y : A) → list_any (λ x. eq x y) xs ≡ false → IsDistinct eq xs → IsDistinct eq (xs ++ y ∷ [])
unfolding IsDistinct
distinct_push eq [] y h d = (tt, tt)
distinct_push eq (x ∷ xs) y h d =
    (all_push (λ z. eq x z ≡ false) xs y d.0 (or_left (eq x y) _ h), distinct_push eq xs y (or_right (eq x y) _ h) d.1)

pub list_any-map : {A B : Type 0} (p : B → Bool) (f : A → B) (xs : List A) → list_any p (map f xs) ≡ list_any (λ x. p (f x)) xs
list_any-map p f [] = refl
list_any-map p f (x ∷ xs) = ap (λ b. p (f x) || b) (list_any-map p f xs)

pub distinct_none : {A : Type 0} (eq : A → A → Bool) → IsDistinct eq []
unfolding IsDistinct
distinct_none eq = tt

pub drop_next : {A : Type 0} (xs : List A) (i : ℕ) (x : A) → i < length xs → x ≡ get_or xs i x → drop i xs ≡ x ∷ drop (i + 1) xs
drop_next xs i x h e = rw add-one (drop-cons xs i x h ∙ ap (λ y. y ∷ drop (suc i) xs) (sym e))
