-- The number of ranges, and each range.
use Rattle.std.proofs.Common.{◌≡◌, ℕ, zero, suc, ◌+◌, ◌-◌, ◌*◌, ◌/◌, ◌<◌, ◌≤◌, min, Bool, true}
use Rattle.std.proofs.Common.{false}
use Rattle.std.proofs.Common.{nat_lt, nat_le, map, length, Option, Some, refl, ap, ◌∙◌, ⊎_elim, arith}
use Rattle.std.proofs.Common.{slice_get}
use Rattle.std.proofs.lemmas.Bool.{cases_lt, lt-ltb, le-ltb, le-leb, lt-leb}
use Rattle.std.proofs.lemmas.Grind.{div_ceil_times}
use Rattle.std.proofs.lemmas.List.FromFn.{length-map-range_with_len, get_or-map-range_with_len}
use Rattle.std.proofs.lemmas.Nat.{le-div}
use Rattle.std.proofs.lemmas.Option.{slice_get-get_or}
use Rattle.std.proofs.Math.Nat.{add-mul, mul-le-mul_left, mul_comm, div-mul-le_self}
use Rattle.std.specs.Int.{div_ceil}
use Rattle.std.specs.List.{filter, range_with_len}
use Rattle.planus_view.specs.Ranges.{ranges_where, chunk, chunks, rchunk, rchunks, exact_chunk}
use Rattle.planus_view.specs.Ranges.{chunks_exact, rchunks_exact, window, windows}

pub record HoldsBelow (holds : ℕ → Bool) (k : ℕ) : Type 0 where
  pub below : (i : ℕ) → i < k → holds i ≡ true
  pub above : (i : ℕ) → k ≤ i → holds i ≡ false

filter_holds :
    (holds : ℕ → Bool) (k : ℕ) → HoldsBelow holds k → (m a : ℕ)
    → filter holds (range_with_len a m) ≡ range_with_len a (min m (k - a))
filter_holds holds k h zero a = let e : min 0 (k - a) ≡ 0 = omega arith in rw e refl
filter_holds holds k h (suc m) a =
    ⊎_elim
    (λ (l : a < k).
    let e : min (suc m) (k - a) ≡ suc (min m (k - (a + 1))) = omega arith in
    rw (h.below a l, e, filter_holds holds k h m (a + 1)) refl)
    (λ (l : k ≤ a).
    let e : min (suc m) (k - a) ≡ 0 = omega arith in
    let z : min m (k - (a + 1)) ≡ 0 = omega arith in
    rw (h.above a l, e, filter_holds holds k h m (a + 1), z) refl)
    (cases_lt a k)

counted :
    (n k : ℕ) (holds : ℕ → Bool) (range : ℕ → ℕ × ℕ) → HoldsBelow holds k → k ≤ n
    → ranges_where n holds range ≡ map range (range_with_len 0 k)
counted n k holds range h l =
    let e : min n (k - 0) ≡ k = omega arith in
    ap (map range) (filter_holds holds k h n 0 ∙ ap (range_with_len 0) e)

count_of :
    (n k : ℕ) (holds : ℕ → Bool) (range : ℕ → ℕ × ℕ) → HoldsBelow holds k → k ≤ n
    → length (ranges_where n holds range) ≡ k
count_of n k holds range h l =
    ap length (counted n k holds range h l) ∙ length-map-range_with_len range 0 k

range_of :
    (n k : ℕ) (holds : ℕ → Bool) (range : ℕ → ℕ × ℕ) → HoldsBelow holds k → k ≤ n
    → (i : ℕ) → i < k → slice_get (ranges_where n holds range) i ≡ Some (range i)
range_of n k holds range h l i inside =
    ap (λ rs. slice_get rs i) (counted n k holds range h l)
    ∙ slice_get-get_or (map range (range_with_len 0 k)) i (0, 0)
    (omega (arith, length-map-range_with_len range 0 k))
    ∙ ap Some (get_or-map-range_with_len range 0 k i i (0, 0) inside (omega arith))

chunk_begins : (n c i : ℕ) → 0 < c → i < div_ceil n c → i * c < n
chunk_begins n c i p h =
    let t : (n ≤ div_ceil n c * c) × (div_ceil n c * c < n + c) = div_ceil_times n c p in
    let m : c * (i + 1) ≤ c * div_ceil n c = mul-le-mul_left c (omega arith) in
    omega (arith, t, m, mul_comm c (i + 1), mul_comm c (div_ceil n c), add-mul i 1 c)

chunk_past : (n c i : ℕ) → 0 < c → div_ceil n c ≤ i → n ≤ i * c
chunk_past n c i p h =
    let t : (n ≤ div_ceil n c * c) × (div_ceil n c * c < n + c) = div_ceil_times n c p in
    let m : c * div_ceil n c ≤ c * i = mul-le-mul_left c h in
    omega (arith, t, m, mul_comm c (div_ceil n c), mul_comm c i)

chunks_few : (n c : ℕ) → 0 < c → div_ceil n c ≤ n
chunks_few n c p =
    ⊎_elim (λ (k : n < div_ceil n c). absurd
    (let b : n * c < n = chunk_begins n c n p k in
    let m : n * 1 ≤ n * c = mul-le-mul_left n p in omega (arith, b, m)))
    (λ (k : div_ceil n c ≤ n). k) (cases_lt n (div_ceil n c))

chunks_hold : (n c : ℕ) → 0 < c → HoldsBelow (λ i. nat_lt (i * c) n) (div_ceil n c)
chunks_hold n c p = record {
  below = λ i h. lt-ltb (i * c) n (chunk_begins n c i p h);
  above = λ i h. le-ltb (i * c) n (chunk_past n c i p h);
}

exact_lies : (n c i : ℕ) → i < n / c → (i + 1) * c ≤ n
exact_lies n c i h =
    let m : c * (i + 1) ≤ c * (n / c) = mul-le-mul_left c (omega arith) in
    omega (arith, m, mul_comm c (i + 1), mul_comm c (n / c), div-mul-le_self n c)

exact_past : (n c i : ℕ) → 0 < c → n / c ≤ i → n < (i + 1) * c
exact_past n c i p h =
    ⊎_elim (λ (k : n < (i + 1) * c). k)
    (λ (k : (i + 1) * c ≤ n). absurd (let m : i + 1 ≤ n / c =
    le-div (i + 1) n c p k in omega arith))
    (cases_lt n ((i + 1) * c))

exact_few : (n c : ℕ) → 0 < c → n / c ≤ n
exact_few n c p =
    let m : (n / c) * 1 ≤ (n / c) * c = mul-le-mul_left (n / c) p in
    omega (arith, m, div-mul-le_self n c)

exact_hold : (n c : ℕ) → 0 < c → HoldsBelow (λ i. nat_le ((i + 1) * c) n) (n / c)
exact_hold n c p = record {
  below = λ i h. le-leb ((i + 1) * c) n (exact_lies n c i h);
  above = λ i h. lt-leb ((i + 1) * c) n (exact_past n c i p h);
}

windows_hold : (n c : ℕ) → HoldsBelow (λ i. nat_le (i + c) n) (n + 1 - c)
windows_hold n c = record {
  below = λ i h. le-leb (i + c) n (omega arith);
  above = λ i h. lt-leb (i + c) n (omega arith);
}

pub chunks_count : (n c : ℕ) → 0 < c → length (chunks n c) ≡ div_ceil n c
chunks_count n c p = count_of n (div_ceil n c) _ (chunk n c) (chunks_hold n c p) (chunks_few n c p)

pub rchunks_count : (n c : ℕ) → 0 < c → length (rchunks n c) ≡ div_ceil n c
rchunks_count n c p =
    count_of n (div_ceil n c) _ (rchunk n c) (chunks_hold n c p) (chunks_few n c p)

pub chunks_exact_count : (n c : ℕ) → 0 < c → length (chunks_exact n c) ≡ n / c
chunks_exact_count n c p =
    count_of n (n / c) _ (exact_chunk n c) (exact_hold n c p) (exact_few n c p)

pub rchunks_exact_count : (n c : ℕ) → 0 < c → length (rchunks_exact n c) ≡ n / c
rchunks_exact_count n c p =
    count_of n (n / c) _ (rchunk n c) (exact_hold n c p) (exact_few n c p)

pub windows_count : (n c : ℕ) → 0 < c → length (windows n c) ≡ n + 1 - c
windows_count n c p = count_of n (n + 1 - c) _ (window n c) (windows_hold n c) (omega arith)

pub chunks_at :
    (n c i : ℕ) → 0 < c → i < length (chunks n c)
    → (slice_get (chunks n c) i ≡ Some (chunk n c i)) × (i * c < n)
chunks_at n c i p h =
    let k : i < div_ceil n c = omega (arith, chunks_count n c p, h) in (
      range_of n (div_ceil n c) _ (chunk n c) (chunks_hold n c p) (chunks_few n c p) i k,
      chunk_begins n c i p k,
    )

pub rchunks_at :
    (n c i : ℕ) → 0 < c → i < length (rchunks n c)
    → (slice_get (rchunks n c) i ≡ Some (rchunk n c i)) × (i * c < n)
rchunks_at n c i p h =
    let k : i < div_ceil n c = omega (arith, rchunks_count n c p, h) in (
      range_of n (div_ceil n c) _ (rchunk n c) (chunks_hold n c p) (chunks_few n c p) i k,
      chunk_begins n c i p k,
    )

pub chunks_exact_at :
    (n c i : ℕ) → 0 < c → i < length (chunks_exact n c)
    → (slice_get (chunks_exact n c) i ≡ Some (exact_chunk n c i)) × ((i + 1) * c ≤ n)
chunks_exact_at n c i p h =
    let k : i < n / c = omega (arith, chunks_exact_count n c p, h) in (
      range_of n (n / c) _ (exact_chunk n c) (exact_hold n c p) (exact_few n c p) i k,
      exact_lies n c i k,
    )

pub rchunks_exact_at :
    (n c i : ℕ) → 0 < c → i < length (rchunks_exact n c)
    → (slice_get (rchunks_exact n c) i ≡ Some (rchunk n c i)) × ((i + 1) * c ≤ n)
rchunks_exact_at n c i p h =
    let k : i < n / c = omega (arith, rchunks_exact_count n c p, h) in (
      range_of n (n / c) _ (rchunk n c) (exact_hold n c p) (exact_few n c p) i k,
      exact_lies n c i k,
    )

pub windows_at :
    (n c i : ℕ) → 0 < c → i < length (windows n c)
    → (slice_get (windows n c) i ≡ Some (window n c i)) × (i + c ≤ n)
windows_at n c i p h =
    let k : i < n + 1 - c = omega (arith, windows_count n c p, h) in (
      range_of n (n + 1 - c) _ (window n c) (windows_hold n c) (omega arith) i k,
      omega arith,
    )

pub suc_times : (i c : ℕ) → (i + 1) * c ≡ i * c + c
suc_times i c = let e : 1 * c ≡ c = omega arith in add-mul i 1 c ∙ ap (λ k. i * c + k) e

exact_stands : (n c i : ℕ) → 0 < c → i ≤ n / c → i * c ≤ n
exact_stands n c i p h =
    let m : c * i ≤ c * (n / c) = mul-le-mul_left c h in
    omega (arith, m, mul_comm c i, mul_comm c (n / c), div-mul-le_self n c)

pub exact_most : (n c i : ℕ) → 0 < c → i ≤ length (chunks_exact n c) → i * c ≤ n
exact_most n c i p h = exact_stands n c i p (omega (arith, chunks_exact_count n c p, h))

pub rexact_most : (n c i : ℕ) → 0 < c → i ≤ length (rchunks_exact n c) → i * c ≤ n
rexact_most n c i p h = exact_stands n c i p (omega (arith, rchunks_exact_count n c p, h))

pub windows_most : (n c i : ℕ) → 0 < c → i ≤ length (windows n c) → i ≤ n
windows_most n c i p h = omega (arith, windows_count n c p, h)

-- a range, by its ends
pub same_range :
    (a b c d : ℕ) → a ≡ c → b ≡ d → ◌≡◌ {A = Option (ℕ × ℕ)} (Some (a, b)) (Some (c, d))
same_range a b c d e f = rw (e, f) refl

pub chunks_one : (n c i : ℕ) → 0 < c → i * c < n → i < length (chunks n c)
chunks_one n c i p h =
    ⊎_elim (λ (k : i < div_ceil n c). omega (arith, k, chunks_count n c p))
    (λ (k : div_ceil n c ≤ i). absurd (omega (arith, h, chunk_past n c i p k)))
    (cases_lt i (div_ceil n c))

pub rchunks_one : (n c i : ℕ) → 0 < c → i * c < n → i < length (rchunks n c)
rchunks_one n c i p h =
    omega (arith, chunks_one n c i p h, chunks_count n c p, rchunks_count n c p)

pub chunks_exact_one : (n c i : ℕ) → 0 < c → (i + 1) * c ≤ n → i < length (chunks_exact n c)
chunks_exact_one n c i p h =
    ⊎_elim (λ (k : i < n / c). omega (arith, k, chunks_exact_count n c p))
    (λ (k : n / c ≤ i). absurd (omega (arith, h, exact_past n c i p k))) (cases_lt i (n / c))

pub rchunks_exact_one : (n c i : ℕ) → 0 < c → (i + 1) * c ≤ n → i < length (rchunks_exact n c)
rchunks_exact_one n c i p h =
    omega (arith, chunks_exact_one n c i p h, chunks_exact_count n c p, rchunks_exact_count n c p)

pub windows_one : (n c i : ℕ) → 0 < c → i + c ≤ n → i < length (windows n c)
windows_one n c i p h = omega (arith, h, windows_count n c p)
