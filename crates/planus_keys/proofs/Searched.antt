-- The items that a binary search has passed.
use Rattle.std.proofs.Common.{◌≡◌, ◌≢◌, ℕ, ◌+◌, ◌≤◌, ◌<◌, Result, Ok, arith, subst, sym, ◌∙◌}
use Rattle.std.specs.declared.cmp.Ordering.{Ordering}
use Rattle.std.specs.declared.cmp.Ordering.TheVariants.{Less, Equal, Greater}
use Rattle.std.specs.Prelude.{⊤, IsOkAnd}
use Rattle.std.specs.Ordering.{MatchOrdering}
use Rattle.planus_keys.specs.Finds.{HaveKeys, IsPartition}

less_is : Less ≢ Equal
less_is e = subst (λ o. MatchOrdering o ⊤ ⊥ ⊥) e tt

greater_is : Greater ≢ Equal
greater_is e = subst (λ o. MatchOrdering o ⊥ ⊥ ⊤) e tt

-- how the key of a result compares
compares_as : {K E : Type 0} (order : K → Ordering) (other : K) (o : Ordering) (r : Result K E)
    → IsOkAnd r (λ key. order key ≡ o) → r ≡ Ok other → order other ≡ o
compares_as order other o r is same = subst (λ r. IsOkAnd r (λ key. order key ≡ o)) same is

module _
    {V A K E : Type 0} (is_item : V → ℕ → Result A E → Type 0) (is_key : A → Result K E → Type 0)
    (order : K → Ordering) (v : V) (n : ℕ)
  where
    -- All keys below low are lesser, all from high on greater.
    pub record Passed (low high : ℕ) : Type 0 where
      pub each :
          (keys : ℕ → K) → HaveKeys is_item is_key v n keys → IsPartition (λ i. order (keys i)) n
          → ((i : ℕ) → i < low → order (keys i) ≡ Less)
          × ((i : ℕ) → high ≤ i → i < n → order (keys i) ≡ Greater)

    pub passed_none : Passed 0 n
    passed_none = record {
      each = λ keys have parted. (λ i h. absurd (omega arith), λ i h k. absurd (omega arith));
    }

    pub passes_below : (low high middle : ℕ) (item : A) (key : K) → order key ≡ Less → middle < n
        → is_item v middle (Ok item) → is_key item (Ok key) → Passed low high
        → Passed (middle + 1) high
    passes_below low high middle item key is inside read has passed = record {
      each = λ keys have parted. (
        λ i h. parted.below i middle (omega arith) inside
            (compares_as order (keys middle) Less (Ok key) is
            (have middle (Ok item) inside read (Ok key) has)),
        (passed.each keys have parted).1,
      );
    }

    pub passes_above : (low high middle : ℕ) (item : A) (key : K) → order key ≡ Greater → middle < n
        → is_item v middle (Ok item) → is_key item (Ok key) → Passed low high
        → Passed low middle
    passes_above low high middle item key is inside read has passed = record {
      each = λ keys have parted. (
        (passed.each keys have parted).0,
        λ i h k. parted.above middle i h k
            (compares_as order (keys middle) Greater (Ok key) is
            (have middle (Ok item) inside read (Ok key) has)),
      );
    }

    pub none_is : (low high : ℕ) → high ≤ low → Passed low high → (keys : ℕ → K)
        → HaveKeys is_item is_key v n keys → IsPartition (λ i. order (keys i)) n
        → (i : ℕ) → i < n → order (keys i) ≢ Equal
    none_is low high over passed keys have parted i inside is =
        let both = passed.each keys have parted in
        let from : i < low → ⊥ = λ h. less_is (sym (both.0 i h) ∙ is) in
        greater_is (sym (both.1 i (omega arith) inside) ∙ is)
