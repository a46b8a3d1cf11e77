-- Laws of arrays.
use Prim.Native.Nat.{zero, suc}
use Rattle.std.specs.Prelude.{◌≡◌, ℕ, ◌+◌, ◌*◌, ◌<◌, List, [], ◌∷◌, ◌++◌, length, replicate}
use Rattle.std.specs.Int.{◌∣◌}
use Rattle.std.proofs.Common.{refl, sym, ap, subst, ◌∙◌, arith, length-append, inl, inr}
use Rattle.std.proofs.Math.Nat.{suc-mul, dvd-mul_left_of_dvd}
use Rattle.std.proofs.lemmas.List.{length-replicate}
use Rattle.planus_read.specs.Bytes.{BytesStand}
use Rattle.planus_read.specs.Clauses.{Clause, AllHold, FirstBroken}
use Rattle.planus_read.specs.declared.errors.ErrorKind.{ErrorKind}
use Rattle.planus_read.specs.Plain.{IsLayout, Shape}
use Rattle.planus_read.specs.lemmas.StructLaws.{parts_stand, both_hold}
use Rattle.planus_read.specs.Arrays.{together, array_bytes, item_clauses, ItemsHold}
use Rattle.planus_read.specs.Arrays.{FirstItemBroken, array_clauses, ArrayThere, ArrayFits}

positive_product : (n size : ℕ) → 0 < n → 0 < size → 0 < n * size
positive_product zero size some positive = omega (arith, some)
positive_product (suc n) size some positive = omega (arith, suc-mul n size, positive)

pub array_layout : {size alignment : ℕ} (n : ℕ) → 0 < n → IsLayout size alignment
    → IsLayout (n * size) alignment
array_layout {size} {alignment} n some layout = record {
  power = layout.power;
  positive = positive_product n size some layout.positive;
  multiple = dvd-mul_left_of_dvd alignment layout.multiple n;
}

all_together : (clauses : List Clause) (holds : Type 0) (errors : ErrorKind → Type 0) → holds
    → AllHold (together clauses holds errors)
all_together [] holds errors all = tt
all_together (first ∷ rest) holds errors all = (all, tt)

broken_never_hold : (clauses : List Clause) (e : ErrorKind) → FirstBroken clauses e
    → AllHold clauses → ⊥
broken_never_hold [] e broken all = broken
broken_never_hold (first ∷ rest) e (inl now) all = now.0 all.0
broken_never_hold (first ∷ rest) e (inr later) all = broken_never_hold rest e later.1 all.1

broken_together : (clauses : List Clause) (holds : Type 0) (errors : ErrorKind → Type 0)
    (e : ErrorKind) → FirstBroken clauses e → (holds → ⊥) → errors e
    → FirstBroken (together clauses holds errors) e
broken_together [] holds errors e broken never error = broken
broken_together (first ∷ rest) holds errors e broken never error = inl (never, error)

module _ {A : Type 0} {size alignment : ℕ} (shape : Shape A size alignment) where
  pub array_sized : (n : ℕ) (xs : List A) → length (array_bytes shape n xs) ≡ n * size
  array_sized zero xs = omega arith
  array_sized (suc n) [] =
      length-append (replicate size 0) (array_bytes shape n [])
      ∙ ap (λ m. m + length (array_bytes shape n [])) (length-replicate size 0)
      ∙ ap (λ m. size + m) (array_sized n [])
      ∙ (let e : size + n * size ≡ suc n * size = omega (arith, suc-mul n size) in e)
  array_sized (suc n) (x ∷ xs) =
      length-append (shape.encoded x) (array_bytes shape n xs)
      ∙ ap (λ m. m + length (array_bytes shape n xs)) (shape.sized x)
      ∙ ap (λ m. size + m) (array_sized n xs)
      ∙ (let e : size + n * size ≡ suc n * size = omega (arith, suc-mul n size) in e)

  behind_first : (S : List ℕ) (f : ℕ) (x : A) (bytes : List ℕ)
      → BytesStand S (f + length (shape.encoded x)) bytes → BytesStand S (f + size) bytes
  behind_first S f x bytes stands = subst (λ m. BytesStand S (f + m) bytes) (shape.sized x) stands

  less : (n m : ℕ) → suc n ≡ suc m → n ≡ m
  less n m same = omega (arith, same)

  none_of_some : (n : ℕ) → 0 ≡ suc n → ⊥
  none_of_some n same = omega (arith, same)

  some_of_none : (n : ℕ) → suc n ≡ 0 → ⊥
  some_of_none n same = omega (arith, same)

  pub items_are_whole : (n : ℕ) (S : List ℕ) (f : ℕ) → AllHold (item_clauses shape n S f)
      → AllHold (array_clauses shape n S f)
  unfolding ItemsHold
  items_are_whole n S f all = all_together (item_clauses shape n S f) (ItemsHold shape n S f)
      (FirstItemBroken shape n S f) all

  pub item_is_broken : (n : ℕ) (S : List ℕ) (f : ℕ) (e : ErrorKind)
      → FirstBroken (item_clauses shape n S f) e → FirstBroken (array_clauses shape n S f) e
  unfolding ItemsHold FirstItemBroken
  item_is_broken n S f e broken =
      broken_together (item_clauses shape n S f) (ItemsHold shape n S f)
      (FirstItemBroken shape n S f) e
      broken (broken_never_hold (item_clauses shape n S f) e broken) broken

  items_hold :
      (n : ℕ) (S : List ℕ) (f : ℕ) (xs : List A) → ArrayFits shape n xs
      → BytesStand S f (array_bytes shape n xs) → AllHold (item_clauses shape n S f)
  items_hold zero S f xs fits stands = tt
  items_hold (suc n) S f [] fits stands = absurd (none_of_some n fits.0)
  items_hold (suc n) S f (x ∷ xs) fits stands =
      let both = parts_stand S (shape.encoded x) (array_bytes shape n xs) f stands in
      both_hold (shape.clauses S f) (item_clauses shape n S (f + size))
      (shape.holds S f x fits.1.0 both.0)
      (items_hold n S (f + size) xs (less (length xs) n fits.0, fits.1.1)
      (behind_first S f x (array_bytes shape n xs) both.1))

  pub array_again :
      (n : ℕ) (S : List ℕ) (f : ℕ) (xs ys : List A) → ArrayFits shape n xs
      → BytesStand S f (array_bytes shape n xs) → ArrayThere shape n S f ys → ys ≡ xs
  array_again zero S f [] [] fits stands there = refl
  array_again zero S f [] (y ∷ ys) fits stands there = absurd (some_of_none (length ys) there.0)
  array_again zero S f (x ∷ xs) ys fits stands there = absurd (some_of_none (length xs) fits.0)
  array_again (suc n) S f [] ys fits stands there = absurd (none_of_some n fits.0)
  array_again (suc n) S f (x ∷ xs) [] fits stands there = absurd (none_of_some n there.0)
  array_again (suc n) S f (x ∷ xs) (y ∷ ys) fits stands there =
      let both = parts_stand S (shape.encoded x) (array_bytes shape n xs) f stands in
      ap (λ a. a ∷ ys) (shape.again S f x y fits.1.0 both.0 there.1.0)
      ∙ ap (λ (others : List A). x ∷ others)
      (array_again n S (f + size) xs ys (less (length xs) n fits.0, fits.1.1)
      (behind_first S f x (array_bytes shape n xs) both.1)
      (less (length ys) n there.0, there.1.1))

  items_unbroken : (n : ℕ) (S : List ℕ) (f : ℕ) (xs : List A) → ArrayThere shape n S f xs
      → AllHold (item_clauses shape n S f)
  items_unbroken zero S f xs there = tt
  items_unbroken (suc n) S f [] there = absurd (none_of_some n there.0)
  items_unbroken (suc n) S f (x ∷ xs) there =
      both_hold (shape.clauses S f) (item_clauses shape n S (f + size))
      (shape.unbroken S f x there.1.0)
      (items_unbroken n S (f + size) xs (less (length xs) n there.0, there.1.1))

  pub array_holds : (n : ℕ) (S : List ℕ) (f : ℕ) (xs : List A) → ArrayFits shape n xs
      → BytesStand S f (array_bytes shape n xs) → AllHold (array_clauses shape n S f)
  array_holds n S f xs fits stands = items_are_whole n S f (items_hold n S f xs fits stands)

  pub array_unbroken : (n : ℕ) (S : List ℕ) (f : ℕ) (xs : List A) → ArrayThere shape n S f xs
      → AllHold (array_clauses shape n S f)
  array_unbroken n S f xs there = items_are_whole n S f (items_unbroken n S f xs there)
