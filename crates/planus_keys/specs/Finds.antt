-- What a look-up by key returns.
use Rattle.std.specs.Prelude.{◌≡◌, ◌≢◌, ℕ, ◌≤◌, ◌<◌, ◌⊎◌, Option, Some, None, Result, Ok, Err, IsOkAnd, false}
use Rattle.std.specs.Prelude.{List, length, slice_index_or}
use Rattle.std.specs.List.Sorted.{IsSortedByKey}
use Rattle.std.specs.Ordering.{is_gt}
use Rattle.std.specs.declared.cmp.Ordering.{Ordering}
use Rattle.std.specs.declared.cmp.Ordering.TheVariants.{Less, Equal, Greater}

-- In n places the lesser come first, the greater last.
pub record IsPartition (order : ℕ → Ordering) (n : ℕ) : Type 0 where
  pub below : (i j : ℕ) → i ≤ j → j < n → order j ≡ Less → order i ≡ Less
  pub above : (i j : ℕ) → i ≤ j → j < n → order i ≡ Greater → order j ≡ Greater

-- n keys rise, in an order
abbrev pub KeysRise : {K : Type 0} → (K → K → Ordering) → (ℕ → K) → ℕ → Type 0
KeysRise cmp keys n = (i j : ℕ) → i ≤ j → j < n → is_gt (cmp (keys i) (keys j)) ≡ false

-- Rising keys compare so with any key.
abbrev pub RisingKeysPartition : {K : Type 0} → (K → K → Ordering) → Type 0
RisingKeysPartition {K} cmp =
    (keys : ℕ → K) (n : ℕ) (key : K) → KeysRise cmp keys n
    → IsPartition (λ i. cmp (keys i) key) n

-- The keys of pairs that are sorted by them rise.
abbrev pub SortedKeysRise : (X : Type 0) → {K : Type 0} → (K → K → Ordering) → Type 0
SortedKeysRise X {K} cmp =
    (pairs : List (K × X)) (other : K × X) → IsSortedByKey (λ (one : K × X). one.0) cmp pairs
    → KeysRise cmp (λ i. (slice_index_or pairs i other).0) (length pairs)

module _
    {V A K E : Type 0} (is_item : V → ℕ → Result A E → Type 0) (is_key : A → Result K E → Type 0)
  where
    -- the item at a position is read, and its key as this
    pub record IsKeyed (v : V) (i : ℕ) (item : A) (key : Result K E) : Type 0 where
      pub read : is_item v i (Ok item)
      pub has : is_key item key

    -- each of n items is read, and its key, as these
    abbrev pub HaveKeys : V → ℕ → (ℕ → K) → Type 0
    HaveKeys v n keys =
        (i : ℕ) (r : Result A E) → i < n → is_item v i r
        → IsOkAnd r (λ item. (key : Result K E) → is_key item key → key ≡ Ok (keys i))

    -- an item with the key, or none, which there is not where they are sorted, or an item's error
    abbrev pub Finds : (K → Ordering) → V → ℕ → Result (Option A) E → Type 0
    Finds order v n (Ok (Some item)) =
        (i : ℕ) × (i < n) × ((key : K) × IsKeyed v i item (Ok key) × (order key ≡ Equal))
    Finds order v n (Ok None) =
        (keys : ℕ → K) → HaveKeys v n keys → IsPartition (λ i. order (keys i)) n
        → (i : ℕ) → i < n → order (keys i) ≢ Equal
    Finds order v n (Err error) =
        (i : ℕ) × (i < n)
        × (is_item v i (Err error) ⊎ ((item : A) × IsKeyed v i item (Err error)))
