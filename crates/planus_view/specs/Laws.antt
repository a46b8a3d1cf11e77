-- Which ranges each kind has.
use Rattle.std.specs.Prelude.{◌≡◌, ℕ, ◌+◌, ◌-◌, ◌*◌, ◌<◌, ◌≤◌, ◌↔◌, ℤ, Bool, List, [], ◌∷◌, ◌++◌}
use Rattle.std.specs.Prelude.{length, take, drop, slice_get, Some, Result}
use Rattle.std.specs.Int.{Width}
use Rattle.planus_read.specs.declared.errors.ErrorKind.{ErrorKind}
use Rattle.planus_read.specs.Clauses.{Answer}
use Rattle.planus_read.specs.Reading.{NumberThere, SignedThere, TruthThere, text_reading}
use Rattle.planus_view.specs.Ranges.{chunk, chunks, rchunk, rchunks, exact_chunk, chunks_exact}
use Rattle.planus_view.specs.Ranges.{rchunks_exact, window, windows, remainder, ends}
use Rattle.planus_view.specs.Views.{View, IsSubView}

-- range i is there exactly where the condition holds
pub record AreRanges (R : List (ℕ × ℕ)) (Holds : ℕ → Type 0) (range : ℕ → ℕ × ℕ) : Type 0 where
  pub there : (i : ℕ) → Holds i → slice_get R i ≡ Some (range i)
  pub no_other : (i : ℕ) (r : ℕ × ℕ) → slice_get R i ≡ Some r → Holds i

-- each kind's condition of range i, and range i
pub record RangesOfTable (n c : ℕ) : Type 0 where
  pub chunks_are : AreRanges (chunks n c) (λ i. i * c < n) (chunk n c)
  pub rchunks_are : AreRanges (rchunks n c) (λ i. i * c < n) (rchunk n c)
  pub chunks_exact_are : AreRanges (chunks_exact n c) (λ i. (i + 1) * c ≤ n) (exact_chunk n c)
  pub rchunks_exact_are : AreRanges (rchunks_exact n c) (λ i. (i + 1) * c ≤ n) (rchunk n c)
  pub windows_are : AreRanges (windows n c) (λ i. i + c ≤ n) (window n c)
  pub exact_whole : length (chunks_exact n c) * c + remainder n c ≡ n
  pub rexact_whole : length (rchunks_exact n c) * c + remainder n c ≡ n

-- for each size above 0
abbrev pub TableHolds : Type 0
TableHolds = (n c : ℕ) → 0 < c → RangesOfTable n c

-- What steps from both ends leave adds up.
abbrev pub EndsAddUp : Type 0
EndsAddUp =
    (R : List (ℕ × ℕ)) (a b c d : ℕ) → ends (ends R a b) c d ≡ ends R (a + c) (b + d)

pub record StepsOfEnds (R : List (ℕ × ℕ)) (a b : ℕ) : Type 0 where
  pub all : ends R 0 0 ≡ R
  pub first :
      (range : ℕ × ℕ) (left : List (ℕ × ℕ)) → ends R a b ≡ range ∷ left
      → (slice_get R a ≡ Some range) × (left ≡ ends R (a + 1) b)
  pub last :
      (range : ℕ × ℕ) (left : List (ℕ × ℕ)) → ends R a b ≡ left ++ range ∷ []
      → (slice_get R (length R - (b + 1)) ≡ Some range) × (left ≡ ends R a (b + 1))
  pub dropped_front : (k : ℕ) → drop k (ends R a b) ≡ ends R (a + k) b
  pub dropped_back : (k : ℕ) → take (length (ends R a b) - k) (ends R a b) ≡ ends R a (b + k)

-- what steps from both ends leave, step by step
abbrev pub EndsStep : Type 0
EndsStep = (R : List (ℕ × ℕ)) (a b : ℕ) → StepsOfEnds R a b

pub record SameItems (S : List ℕ) (f : ℕ) (R : List ℕ) (g : ℕ) : Type 0 where
  pub numbers : (width : Width) (x : ℕ) → NumberThere S f width x ↔ NumberThere R g width x
  pub signed : (width : Width) (x : ℤ) → SignedThere S f width x ↔ SignedThere R g width x
  pub truths : (x : Bool) → TruthThere S f x ↔ TruthThere R g x
  pub texts :
      (r : Result (List ℕ) ErrorKind) → Answer (text_reading S f) r ↔ Answer (text_reading R g) r

-- A sub-view has the view's items at their positions.
abbrev pub ItemsOfSubViews : Type 0
ItemsOfSubViews =
    (stride : ℕ) (v u : View) (lo hi i : ℕ) → IsSubView stride v lo hi u
    → SameItems u.bytes (i * stride) v.bytes ((lo + i) * stride)
