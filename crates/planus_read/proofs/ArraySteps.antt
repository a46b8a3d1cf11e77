-- One item more of an array.
use Rattle.std.proofs.Common.{◌≡◌, ℕ, zero, suc, ◌+◌, ◌*◌, ◌<◌, List, [], ◌∷◌, ◌++◌, length}
use Rattle.std.proofs.Common.{take, drop, refl, sym, ap, subst, ◌∙◌, arith, append_assoc, inl, inr}
use Rattle.std.proofs.Common.{length-append, append-nil, drop-drop}
use Rattle.std.proofs.Math.Nat.{suc-mul}
use Rattle.std.proofs.Math.Seq.{take-append_seam, drop-append_seam}
use Rattle.std.proofs.lemmas.List.{length-take-le}
use Rattle.std.specs.List.{AllByRecursion}
use Rattle.planus_read.specs.declared.errors.ErrorKind.{ErrorKind}
use Rattle.planus_read.specs.Clauses.{Clause, AllHold, FirstBroken}
use Rattle.planus_read.specs.Plain.{Shape}
use Rattle.planus_read.specs.Stands.{ItemsStand}
use Rattle.planus_read.specs.lemmas.StructLaws.{both_hold}
use Rattle.planus_read.specs.Arrays.{all_encoded, array_bytes, item_clauses}

pub all_more : {A : Type 0} (P : A → Type 0) (xs : List A) (y : A) → AllByRecursion P xs → P y
    → AllByRecursion P (xs ++ y ∷ [])
all_more P [] y all one = (one, tt)
all_more P (x ∷ xs) y all one = (all.0, all_more P xs y all.1 one)

first_broken : (a b : List Clause) (e : ErrorKind) → FirstBroken a e → FirstBroken (a ++ b) e
first_broken [] b e broken = absurd broken
first_broken (one ∷ a) b e (inl here) = inl here
first_broken (one ∷ a) b e (inr later) = inr (later.0, first_broken a b e later.1)

later_broken : (a b : List Clause) (e : ErrorKind) → AllHold a → FirstBroken b e
    → FirstBroken (a ++ b) e
later_broken [] b e all broken = broken
later_broken (one ∷ a) b e all broken = inr (all.0, later_broken a b e all.1 broken)

both_held : (a b : List Clause) → AllHold (a ++ b) → AllHold a × AllHold b
both_held [] b all = (tt, all)
both_held (one ∷ a) b all = let more = both_held a b all.1 in ((all.0, more.0), more.1)

module _ {A : Type 0} {size alignment : ℕ} (shape : Shape A size alignment) where
  pub counted : (xs : List A) → length (all_encoded shape xs) ≡ length xs * size
  counted [] = omega arith
  counted (x ∷ xs) =
      length-append (shape.encoded x) (all_encoded shape xs)
      ∙ ap (λ m. m + length (all_encoded shape xs)) (shape.sized x)
      ∙ ap (λ m. size + m) (counted xs)
      ∙ (let e : size + length xs * size ≡ suc (length xs) * size = omega (arith, suc-mul (length xs) size) in e)

  pub all_are_array : (xs : List A) → all_encoded shape xs ≡ array_bytes shape (length xs) xs
  all_are_array [] = refl
  all_are_array (x ∷ xs) = ap (λ bytes. shape.encoded x ++ bytes) (all_are_array xs)

  pub array_put : (n : ℕ) (xs : List A) → length xs ≡ n → all_encoded shape xs ≡ array_bytes shape n xs
  array_put n xs long = all_are_array xs ∙ ap (λ m. array_bytes shape m xs) long

  encoded_more : (xs : List A) (y : A)
      → all_encoded shape (xs ++ y ∷ []) ≡ all_encoded shape xs ++ shape.encoded y
  encoded_more [] y = append-nil (shape.encoded y)
  encoded_more (x ∷ xs) y = ap (λ bytes. shape.encoded x ++ bytes) (encoded_more xs y)
      ∙ sym (append_assoc (shape.encoded x) (all_encoded shape xs) (shape.encoded y))

  pub there_more : (S : List ℕ) (f : ℕ) (xs : List A) (y : A)
      → ItemsStand (λ p x. shape.There S p x) f size xs → shape.There S (f + length xs * size) y
      → ItemsStand (λ p x. shape.There S p x) f size (xs ++ y ∷ [])
  there_more S f [] y all one =
      let e : f + 0 * size ≡ f = omega arith in
      (subst (λ p. shape.There S p y) e one, tt)
  there_more S f (x ∷ xs) y all one =
      let e : f + suc (length xs) * size ≡ f + size + length xs * size =
      omega (arith, suc-mul (length xs) size) in
      (all.0, there_more S (f + size) xs y all.1 (subst (λ p. shape.There S p y) e one))

  clauses_more : (i : ℕ) (S : List ℕ) (f : ℕ) → AllHold (item_clauses shape i S f)
      → AllHold (shape.clauses S (f + i * size)) → AllHold (item_clauses shape (suc i) S f)
  clauses_more zero S f all one =
      let e : f + 0 * size ≡ f = omega arith in
      both_hold (shape.clauses S f) [] (subst (λ p. AllHold (shape.clauses S p)) e one) tt
  clauses_more (suc i) S f all one =
      let both = both_held (shape.clauses S f) (item_clauses shape i S (f + size)) all in
      let e : f + suc i * size ≡ f + size + i * size = omega (arith, suc-mul i size) in
      both_hold (shape.clauses S f) (item_clauses shape (suc i) S (f + size)) both.0
      (clauses_more i S (f + size) both.1 (subst (λ p. AllHold (shape.clauses S p)) e one))

  pub one_more_holds : (i : ℕ) (S : List ℕ) (f : ℕ) → AllHold (item_clauses shape i S f)
      → AllHold (shape.clauses S (f + i * size)) → AllHold (item_clauses shape (i + 1) S f)
  one_more_holds i S f all one =
      let e : suc i ≡ i + 1 = omega arith in
      subst (λ n. AllHold (item_clauses shape n S f)) e (clauses_more i S f all one)

  pub broken_at : (i n : ℕ) (S : List ℕ) (f : ℕ) (e : ErrorKind) → i < n
      → AllHold (item_clauses shape i S f) → FirstBroken (shape.clauses S (f + i * size)) e
      → FirstBroken (item_clauses shape n S f) e
  broken_at i zero S f e less all broken = omega (arith, less)
  broken_at zero (suc n) S f e less all broken =
      let here : f + 0 * size ≡ f = omega arith in
      first_broken (shape.clauses S f) (item_clauses shape n S (f + size)) e
      (subst (λ p. FirstBroken (shape.clauses S p) e) here broken)
  broken_at (suc i) (suc n) S f e less all broken =
      let both = both_held (shape.clauses S f) (item_clauses shape i S (f + size)) all in
      let there : f + suc i * size ≡ f + size + i * size = omega (arith, suc-mul i size) in
      later_broken (shape.clauses S f) (item_clauses shape n S (f + size)) e both.0
      (broken_at i n S (f + size) e (omega (arith, less)) both.1
      (subst (λ p. FirstBroken (shape.clauses S p) e) there broken))

  module _ (items : List A) (i : ℕ) (item : A) (at : ℕ) (bytes old before field behind : List ℕ) where
    abbrev written : ℕ → List ℕ
    written n = all_encoded shape (take n items)

    module _ (at_is : at ≡ i * size) (so_far : bytes ≡ written i ++ drop (i * size) old)
        (before_is : before ≡ take at bytes) (behind_is : behind ≡ drop size (drop at bytes))
        (field_is : field ≡ shape.encoded item) (there : i < length items)
        (next : take (i + 1) items ≡ take i items ++ item ∷ []) where
      long : at ≡ length (written i)
      long = at_is ∙ sym (counted (take i items) ∙ ap (λ n. n * size) (length-take-le i items (omega (arith, there))))

      more : written (i + 1) ≡ written i ++ field
      more = ap (all_encoded shape) next ∙ encoded_more (take i items) item
          ∙ ap (λ b. written i ++ b) (sym field_is)

      before_all : before ≡ written i
      before_all = before_is ∙ ap (λ n. take n bytes) long ∙ ap (take (length (written i))) so_far
          ∙ take-append_seam (written i) (drop (i * size) old)

      behind_all : behind ≡ drop ((i + 1) * size) old
      behind_all =
          behind_is ∙ ap (drop size) (ap (λ n. drop n bytes) long ∙ ap (drop (length (written i))) so_far ∙ drop-append_seam (written i) (drop (i * size) old))
          ∙ drop-drop size (i * size) old ∙ ap (λ n. drop n old) (let e : i * size + size ≡ (i + 1) * size = omega arith in e)

      pub more_written : before ++ (field ++ behind) ≡ written (i + 1) ++ drop ((i + 1) * size) old
      more_written =
          ap (λ b. b ++ (field ++ behind)) before_all ∙ ap (λ b. written i ++ (field ++ b)) behind_all
          ∙ sym (append_assoc (written i) field (drop ((i + 1) * size) old))
          ∙ ap (λ b. b ++ drop ((i + 1) * size) old) (sym more)
