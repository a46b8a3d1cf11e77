-- The items of a vector, cut from their bytes.
use Rattle.std.proofs.Common.{◌≡◌, ℕ, zero, suc, ◌-◌, ◌*◌, ◌/◌, ◌%◌, ◌==◌, List, [], ◌∷◌, ◌++◌, length, map, take, drop}
use Rattle.std.proofs.Common.{refl, ap, ◌∙◌, arith, true}
use Rattle.std.specs.List.{AllByRecursion}
use Rattle.std.proofs.lemmas.Bool.{and_parts, eqb-true}
use Rattle.std.proofs.lemmas.List.{length-take-le, length-drop, take-append-drop}
use Rattle.std.proofs.Math.Nat.{mod-eq-sub-div-mul, div-mul-le_self}
use Rattle.planus_write.specs.Items.{plain_item}
use Rattle.planus_write.specs.Parts.{items_bytes}
use Rattle.planus.specs.Runs.{cut, items_of, fits_size, fits_items}

module _ (size : ℕ) where
  pub cut_count : (n : ℕ) (content : List ℕ) → length (cut size n content) ≡ n
  cut_count zero content = refl
  cut_count (suc n) content = ap suc (cut_count n (drop size content))

  left : (n : ℕ) (content : List ℕ) → length content ≡ suc n * size → length (drop size content) ≡ n * size
  left n content long = let less = length-drop size content in omega (arith, less, long)

  pub cut_sizes : (n : ℕ) (content : List ℕ) → length content ≡ n * size → AllByRecursion (λ item. length item ≡ size) (cut size n content)
  cut_sizes zero content long = tt
  cut_sizes (suc n) content long = (
    length-take-le size content (omega (arith, long)),
    cut_sizes n (drop size content) (left n content long),
  )

  pub cut_bytes : (n place : ℕ) (content : List ℕ) → length content ≡ n * size → items_bytes size place (map plain_item (cut size n content)) ≡ content
  cut_bytes zero place [] long = refl
  cut_bytes zero place (byte ∷ content) long = absurd (let no : suc (length content) ≡ 0 = omega (arith, long) in (cc))
  cut_bytes (suc n) place content long =
      ap (λ rest. take size content ++ rest) (cut_bytes n (place - size) (drop size content) (left n content long))
      ∙ take-append-drop size content

multiple_is : (size n : ℕ) → n % size ≡ 0 → n ≡ n / size * size
multiple_is size n even =
    let rest = mod-eq-sub-div-mul n size in let within = div-mul-le_self n size in omega (arith, rest, within, even)

module _ (alignment size : ℕ) (content : List ℕ) (fits : fits_items alignment size content ≡ true) where
  parts : (fits_size alignment size ≡ true) × ((length content % size == 0) ≡ true)
  parts = and_parts (fits_size alignment size) (length content % size == 0) fits

  pub size_fits : fits_size alignment size ≡ true
  size_fits = parts.0

  pub whole : length content ≡ length content / size * size
  whole = multiple_is size (length content) (eqb-true (length content % size) 0 parts.1)

  pub items_sizes : AllByRecursion (λ item. length item ≡ size) (items_of size content)
  items_sizes = cut_sizes size (length content / size) content whole

  pub items_count : length (items_of size content) ≡ length content / size
  items_count = cut_count size (length content / size) content

  pub items_are : (place : ℕ) → items_bytes size place (map plain_item (items_of size content)) ≡ content
  items_are place = cut_bytes size (length content / size) place content whole
