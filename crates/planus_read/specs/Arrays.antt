-- Arrays of a fixed size in structs: items of one fixed layout, one after another.
use Prim.Native.Nat.{zero, suc}
use Rattle.std.specs.Prelude.{◌≡◌, ℕ, ◌+◌, List, [], ◌∷◌, ◌++◌, length, replicate}
use Rattle.std.specs.List.{AllByRecursion}
use Rattle.planus_read.specs.declared.errors.ErrorKind.{ErrorKind}
use Rattle.planus_read.specs.Clauses.{Clause, AllHold, FirstBroken}
use Rattle.planus_read.specs.Plain.{Shape}
use Rattle.planus_read.specs.Stands.{ItemsStand}

-- one clause for several, if there are any
abbrev pub together : List Clause → Type 0 → (ErrorKind → Type 0) → List Clause
together [] holds errors = []
together (first ∷ rest) holds errors = record { holds = holds; errors = errors } ∷ []

module _ {A : Type 0} {size alignment : ℕ} (shape : Shape A size alignment) where
  -- the bytes of all items
  abbrev pub all_encoded : List A → List ℕ
  all_encoded [] = []
  all_encoded (x ∷ xs) = shape.encoded x ++ all_encoded xs

  -- the bytes of an array of n items
  abbrev pub array_bytes : ℕ → List A → List ℕ
  array_bytes zero xs = []
  array_bytes (suc n) [] = replicate size 0 ++ array_bytes n []
  array_bytes (suc n) (x ∷ xs) = shape.encoded x ++ array_bytes n xs

  -- the clauses of each item, in order
  abbrev pub item_clauses : ℕ → List ℕ → ℕ → List Clause
  item_clauses zero S f = []
  item_clauses (suc n) S f = shape.clauses S f ++ item_clauses n S (f + size)

  -- no clause of an item fails
  unfoldable pub ItemsHold : ℕ → List ℕ → ℕ → Type 0
  ItemsHold n S f = AllHold (item_clauses n S f)

  -- the error of the first clause of an item that fails
  unfoldable pub FirstItemBroken : ℕ → List ℕ → ℕ → ErrorKind → Type 0
  FirstItemBroken n S f e = FirstBroken (item_clauses n S f) e

  -- those of all items as one clause
  abbrev pub array_clauses : ℕ → List ℕ → ℕ → List Clause
  array_clauses n S f = together (item_clauses n S f) (ItemsHold n S f) (FirstItemBroken n S f)

  -- The format: an array is its items, without a count.
  abbrev pub ArrayThere : ℕ → List ℕ → ℕ → List A → Type 0
  ArrayThere n S f xs = (length xs ≡ n) × ItemsStand (λ p x. shape.There S p x) f size xs

  abbrev pub ArrayFits : ℕ → List A → Type 0
  ArrayFits n xs = (length xs ≡ n) × AllByRecursion shape.fits xs
