-- How the definitions of remembered contents relate.
use Rattle.std.proofs.Common.{◌≡◌, ℕ, ◌+◌, ◌<◌, List, [], ◌∷◌, ◌++◌, length, get_or, Some, None, inl, inr, arith, refl, sym, ap, ◌∙◌, Bool, true, false, cond, Result, Ok, Err}
use Rattle.std.specs.Result.{OnOk}
use Rattle.std.specs.declared.alloc.AllocError.{AllocError}
use Rattle.std.proofs.lemmas.Grind.{common_steps}
use Rattle.std.proofs.lemmas.Bool.{cases_lt}
use Rattle.std.specs.Prelude.{◌↔◌, slice_index}
use Rattle.planus_back.specs.CacheKeys.{key_at}
use Rattle.planus_back.specs.Caches.{CacheView, Has, Fits, IsEmpty, Adds, IsBucketOf, FitsWhereItsKeyStands}
use Rattle.planus_back.specs.declared.bucket.Bucket.{Bucket}
use Rattle.planus_back.proofs.Caches.{key_at-front, Fits-front, Fits-empty, Has-stands}
use Rattle.planus_write.specs.Holding.{Holding, few, many, FindContents, Holds, HoldsNothing, HoldsMore, HoldingFits, FitsInFront}
use Rattle.planus_write.specs.inner.Sharing.{LooksIn, KeepsIf}

pub holding_fits-front : (contents_in : FindContents) (holding : Holding) (front bytes : List ℕ) → HoldingFits contents_in holding bytes → HoldingFits contents_in holding (front ++ bytes)
holding_fits-front contents_in (few distances) front bytes fits = λ i below. let x = fits i below in (x.0, key_at-front contents_in front bytes _ x.0 x.1)
holding_fits-front contents_in (many held) front bytes fits = Fits-front contents_in held front bytes fits

pub holds-stands : (contents_in : FindContents) (holding : Holding) (bytes : List ℕ) (distance : ℕ) → HoldingFits contents_in holding bytes → Holds holding distance
    → (contents : List ℕ) × (key_at contents_in bytes distance ≡ Some contents)
holds-stands contents_in (few distances) bytes distance fits x = let f = fits x.0 x.1 in (f.0, rw (← x.2) f.1)
holds-stands contents_in (many held) bytes distance fits x = Has-stands contents_in held bytes distance fits x

pub nothing-fits : (contents_in : FindContents) (holding : Holding) (bytes : List ℕ) → HoldsNothing holding → HoldingFits contents_in holding bytes
nothing-fits contents_in (few distances) bytes nothing = λ i below. absurd (nothing (get_or distances i 0) (i, below, refl))
nothing-fits contents_in (many held) bytes nothing = Fits-empty contents_in held bytes nothing

pub one_more : (distances : List ℕ) (distance : ℕ) → HoldsMore (few distances) distance (few (distances ++ distance ∷ []))
one_more distances distance other = (
  λ x. elim (cases_lt x.0 (length distances)) [
    | inl lt ↦ inl (x.0, lt, grind (arith, common_steps, lt, x.2))
    | inr le ↦ inr (grind (arith, common_steps, le, x.1, x.2))
  ],
  elim [
    | inl x ↦ (x.0, grind (arith, common_steps, x.1), grind (arith, common_steps, x.1, x.2))
    | inr e ↦ (length distances, grind (arith, common_steps), grind (arith, common_steps, e))
  ],
)

pub one_more-fits : (contents_in : FindContents) (distances bytes contents : List ℕ) (distance : ℕ) → HoldingFits contents_in (few distances) bytes
    → FitsInFront contents_in bytes contents distance (few (distances ++ distance ∷ []))
one_more-fits contents_in distances bytes contents distance fits front stands i below =
    elim (cases_lt i (length distances)) [
      | inl lt ↦ (let x = holding_fits-front contents_in (few distances) front bytes fits i lt in (x.0, grind (arith, common_steps, lt, x.1)))
      | inr le ↦ (contents, grind (arith, common_steps, le, below, stands))
    ]

pub cache_more-fits : (contents_in : FindContents) (old new : CacheView) (bucket : Bucket) (bytes contents : List ℕ) (distance : ℕ) → HoldingFits contents_in (many old) bytes
    → IsBucketOf old contents bucket → FitsWhereItsKeyStands contents_in old bucket distance new → FitsInFront contents_in bytes contents distance (many new)
cache_more-fits contents_in old new bucket bytes contents distance fits its more front stands =
    more contents its (front ++ bytes) (Fits-front contents_in old front bytes fits) stands

abbrev pub HasFirst : CacheView → List ℕ → ℕ → Type 0
HasFirst held distances n = (distance : ℕ) → Has held distance ↔ ((i : ℕ) × (i < n) × (slice_index distances i ≡ distance))

pub has-none : (held : CacheView) (distances : List ℕ) → IsEmpty held → HasFirst held distances 0
has-none held distances empty distance = (λ has. absurd (empty distance has), λ x. absurd (omega (arith, x.1)))

pub has-next : (old new : CacheView) (distances : List ℕ) (n : ℕ) → HasFirst old distances n → Adds old (slice_index distances n) new → HasFirst new distances (n + 1)
has-next old new distances n has adds distance = (
  λ x. elim ((adds distance).0 x) [
    | inl there ↦ (let i = (has distance).0 there in (i.0, omega (arith, i.1), i.2))
    | inr e ↦ (n, omega arith, sym e)
  ],
  λ x. elim (cases_lt x.0 n) [
    | inl lt ↦ (adds distance).1 (inl ((has distance).1 (x.0, lt, x.2)))
    | inr le ↦ (let same : x.0 ≡ n = omega (arith, le, x.1) in (adds distance).1 (inr (sym x.2 ∙ ap (λ i. slice_index distances i) same)))
  ],
)

pub spilled : (contents_in : FindContents) (distances bytes contents : List ℕ) (old new : CacheView) (bucket : Bucket) (distance : ℕ) → Fits contents_in old bytes
    → HasFirst old distances (length distances) → IsBucketOf old contents bucket → Adds old distance new → FitsWhereItsKeyStands contents_in old bucket distance new
    → KeepsIf true contents_in bytes contents distance (few distances) (many new)
spilled contents_in distances bytes contents old new bucket distance fits has its adds more = (
  λ other. (
    λ x. elim ((adds other).0 x) [ inl there ↦ inl ((has other).0 there) | inr e ↦ inr e ],
    elim [ inl x ↦ (adds other).1 (inl ((has other).1 x)) | inr e ↦ (adds other).1 (inr e) ],
  ),
  cache_more-fits contents_in old new bucket bytes contents distance fits its more,
)

pub spilled_if : (r : Result (Unit {0}) AllocError) (contents_in : FindContents) (distances bytes contents : List ℕ) (old new : CacheView) (bucket : Bucket) (distance : ℕ) → Fits contents_in old bytes
    → HasFirst old distances (length distances) → IsBucketOf old contents bucket → OnOk r (Adds old distance new) → OnOk r (FitsWhereItsKeyStands contents_in old bucket distance new)
    → OnOk r (KeepsIf true contents_in bytes contents distance (few distances) (many new))
spilled_if (Ok done) contents_in distances bytes contents old new bucket distance fits has its adds more = spilled contents_in distances bytes contents old new bucket distance fits has its adds more
spilled_if (Err error) contents_in distances bytes contents old new bucket distance fits has its adds more = tt

module _ (contents_in : FindContents) (bytes contents : List ℕ) (distance : ℕ) (held : CacheView) (distances : List ℕ) where
  abbrev pub held_if : Bool → Holding
  held_if is_many = cond is_many (many held) (few distances)

  pub kept_in_cache : (is_many : Bool) (bucket : Bucket) (new : CacheView) (r : Result (Unit {0}) AllocError) → LooksIn (held_if is_many) contents (Some bucket)
      → HoldingFits contents_in (held_if is_many) bytes → OnOk r (Adds held distance new) → OnOk r (FitsWhereItsKeyStands contents_in held bucket distance new)
      → OnOk r (KeepsIf true contents_in bytes contents distance (held_if is_many) (cond is_many (many new) (few distances)))
  kept_in_cache true bucket new (Ok done) looks fits adds more = (adds, cache_more-fits contents_in held new bucket bytes contents distance fits looks more)
  kept_in_cache true bucket new (Err error) looks fits adds more = tt
  kept_in_cache false bucket new r looks fits adds more = absurd (cc looks)

  pub kept_first : (is_many : Bool) (new : List ℕ) → LooksIn (held_if is_many) contents None → HoldingFits contents_in (held_if is_many) bytes → new ≡ distances ++ distance ∷ []
      → KeepsIf true contents_in bytes contents distance (held_if is_many) (cond is_many (many held) (few new))
  kept_first true new looks fits same = absurd looks
  kept_first false new looks fits same = rw same (one_more distances distance, one_more-fits contents_in distances bytes contents distance fits)

  pub first_fit : (is_many : Bool) → LooksIn (held_if is_many) contents None → HoldingFits contents_in (held_if is_many) bytes → HoldingFits contents_in (few distances) bytes
  first_fit true looks fits = absurd looks
  first_fit false looks fits = fits
