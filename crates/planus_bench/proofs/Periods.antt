-- Lengths recur after the product of the alignments.
use Rattle.std.proofs.Common.{◌≡◌, ℕ, ◌+◌, ◌-◌, ◌*◌, ◌/◌, ◌%◌, ◌<◌, ◌≤◌, arith, subst, List, [], ◌∷◌}
use Rattle.std.specs.Int.{◌∣◌}
use Rattle.std.proofs.lemmas.Nat.{div-add-mod'}
use Rattle.std.proofs.lemmas.Nat.Gcd.{dvd_trans}
use Rattle.std.proofs.Math.Nat.{dvd-add, dvd-sub, mod-lt, dvd-mul_left, dvd-mul_right, mul-pos}
use Rattle.planus_back.specs.Promises.{Promise, Keep, CanBeKept}
use Rattle.planus_back.specs.Padding.{promise_of, CanPad}
use Rattle.planus_bench.specs.Pairs.{promises_of, period, AlignmentsAboveZero, DistancesWithin}

pub period_positive : (pairs : List (ℕ × ℕ)) → AlignmentsAboveZero pairs → 0 < period pairs
period_positive [] h = omega arith
period_positive (pair ∷ pairs) h = mul-pos h.0 (period_positive pairs h.1)

pub kept_back : (pairs : List (ℕ × ℕ)) (n l : ℕ) → DistancesWithin l pairs → period pairs ∣ n → Keep (promises_of pairs) (l + n) → Keep (promises_of pairs) l
kept_back [] n l r d k = tt
kept_back (pair ∷ pairs) n l r d k =
    let divides : pair.1 ∣ n = dvd_trans pair.1 (dvd-mul_right pair.1 (period pairs)) d in
    let reach : pair.0 ≤ l = r.0 in
    let e : ((l + n) - pair.0) - n ≡ l - pair.0 = omega (arith, reach) in (
      record { reaches = reach; aligns = subst (λ x. pair.1 ∣ x) e (dvd-sub pair.1 k.0.aligns divides) },
      kept_back pairs n l r.1 (dvd_trans (period pairs) (dvd-mul_left (period pairs) pair.1) d) k.1,
    )

pub within_later : (n m : ℕ) (pairs : List (ℕ × ℕ)) → n ≤ m → DistancesWithin n pairs → DistancesWithin m pairs
within_later n m [] le h = tt
within_later n m (pair ∷ pairs) le h = (omega (arith, h.0, le), within_later n m pairs le h.1)

pub kept_soon : (place alignment : ℕ) (pairs : List (ℕ × ℕ)) → 0 < alignment → AlignmentsAboveZero pairs → DistancesWithin place pairs
    → CanBeKept (promise_of place alignment ∷ promises_of pairs)
    → (l : ℕ) × (place ≤ l) × (l < place + alignment * period pairs) × Keep (promise_of place alignment ∷ promises_of pairs) l
kept_soon place alignment pairs positive above within (l, k) =
    let n : ℕ = alignment * period pairs in
    let npos : 0 < n = mul-pos positive (period_positive pairs above) in
    let reach : place ≤ l = k.0.reaches in
    let parts : (l - place) / n * n + (l - place) % n ≡ l - place = div-add-mod' (l - place) n in
    let small : (l - place) % n < n = mod-lt (l - place) npos in
    let first : ℕ = place + (l - place) % n in
    let rest : ℕ = (l - place) / n * n in
    let e : l ≡ first + rest = omega (arith, parts, reach) in
    let d : n ∣ rest = dvd-mul_left n ((l - place) / n) in
    let all = kept_back ((place, alignment) ∷ pairs) rest first (omega arith, within_later place first pairs (omega arith) within) d (subst (λ x. Keep (promise_of place alignment ∷ promises_of pairs) x) e k) in
    (first, omega arith, omega (arith, small), all)

pub pads_below : (len : ℕ) (promises : List Promise) (size alignment padding : ℕ) → 0 < alignment → CanPad len promises size alignment padding
    → CanPad len promises size alignment (padding % alignment)
pads_below len promises size alignment padding positive (l, k) =
    let r : ℕ = padding % alignment in
    let parts : padding / alignment * alignment + r ≡ padding = div-add-mod' padding alignment in
    let reach : len + padding + size ≤ l = k.0.reaches in
    let e : (l - (len + padding + size)) + padding / alignment * alignment ≡ l - (len + r + size) = omega (arith, reach, parts) in (
      l,
      (
        record {
          reaches = omega (arith, reach, parts);
          aligns = subst (λ x. alignment ∣ x) e (dvd-add alignment k.0.aligns (dvd-mul_left alignment (padding / alignment)));
        },
        k.1,
      ),
    )
