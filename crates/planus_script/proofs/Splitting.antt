-- A list is cut at the first element that passes a test.
use Rattle.std.proofs.Common.{◌≡◌, ℕ, ◌<◌, ◌≤◌, ◌+◌, List, [], ◌∷◌, length, take, drop, Bool, true, false, cond, sym, subst, arith, Option, Some, None, refl, ap, ◌∙◌, ◌-◌}
use Rattle.std.proofs.lemmas.Grind.{common_steps}
use Rattle.std.specs.Prelude.{MatchOption, nat_lt}
use Rattle.std.specs.List.{slice_split, position, position_or_len}
use Rattle.std.proofs.lemmas.List.Splits.{slice_split_first, slice_split_none}
use Rattle.std.proofs.lemmas.List.Sums.{fails_before_first}
use Rattle.std.proofs.lemmas.Bool.Decides.{nat_tests}

abbrev pub PartsAt : (ℕ → Bool) → List ℕ → Option ℕ → Type 0
PartsAt p xs r = MatchOption r (slice_split p xs ≡ xs ∷ []) (λ i. (i < length xs) × (slice_split p xs ≡ take i xs ∷ slice_split p (drop (i + 1) xs)))

by_test : (p : ℕ → Bool) (xs : List ℕ) (b : Bool) → nat_lt (position_or_len p xs) (length xs) ≡ b → PartsAt p xs (cond b (Some (position_or_len p xs)) None)
by_test p xs true h =
    let below : position_or_len p xs < length xs = grind (arith, nat_tests, h) in
    (below, slice_split_first p xs 0 below)
by_test p xs false h =
    let history : length xs ≤ position_or_len p xs = grind (arith, nat_tests, h) in
    slice_split_none p xs (λ k d high. fails_before_first p xs k d (omega arith))

pub parts_at_position : (p : ℕ → Bool) (xs : List ℕ) (r : Option ℕ) → r ≡ position p xs → PartsAt p xs r
parts_at_position p xs r h = subst (λ o. PartsAt p xs o) (sym h) (by_test p xs (nat_lt (position_or_len p xs) (length xs)) refl)

pub parts_at_some : (p : ℕ → Bool) (xs : List ℕ) (i : ℕ) → Some i ≡ position p xs → slice_split p xs ≡ take i xs ∷ slice_split p (take (length xs - (i + 1)) (drop (i + 1) xs))
parts_at_some p xs i h =
    let parts : PartsAt p xs (Some i) = parts_at_position p xs (Some i) h in
    let whole : take (length xs - (i + 1)) (drop (i + 1) xs) ≡ drop (i + 1) xs = grind (arith, common_steps) in
    parts.1 ∙ ap (λ rest. take i xs ∷ slice_split p rest) (sym whole)
