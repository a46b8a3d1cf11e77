-- How the definitions of caches relate.
use Rattle.std.proofs.Common.{◌≡◌, ℕ, ◌+◌, ◌-◌, ◌<◌, List, [], ◌∷◌, ◌++◌, ◌⊎◌, length, get_or, drop, Option, Some, None, inl, inr, arith, refl, sym, ap, subst, ◌∙◌, length-append, nat_eq, Result, Ok, Err}
use Rattle.std.proofs.lemmas.Grind.{common_steps}
use Rattle.std.proofs.lemmas.Bool.Decides.{leb_tells, eqb_tells}
use Rattle.std.proofs.lemmas.Bool.{cases_lt}
use Rattle.std.proofs.Math.Seq.{drop-append-add}
use Rattle.std.specs.Option.{option_to_list}
use Rattle.std.specs.Map.{lookup}
use Rattle.std.specs.Result.{OnOk}
use Rattle.std.specs.declared.alloc.AllocError.{AllocError}
use mathlib.Core.Logic.{◌≢◌}
use Rattle.planus_back.specs.CacheKeys.{key_at}
use Rattle.planus_back.specs.declared.bucket.Bucket.{Bucket}
use Rattle.planus_back.specs.Numbers.{number_of}
use Rattle.planus_back.specs.Caches.{CacheView, Has, Fits, bucket}
use Rattle.planus_back.specs.Caches.{IsEmpty, Adds, FitsWhereKeyStands, FitsWhereItsKeyStands, IsBucketOf, IsFound}
use Rattle.planus_back.specs.Buckets.{listed_at, distances_at, AddsAt, AreKeys, FoundAmong}
use Rattle.planus_back.proofs.Buckets.{found_last, found_before, keys_before, keys_last}

pub IsEmpty-nil : (s : CacheView) → s.last ≡ [] → s.earlier ≡ [] → IsEmpty s
unfolding Has
IsEmpty-nil s no_last no_earlier d h =
    let nil : bucket s h.0 ≡ [] = ap (λ last. distances_at last s.earlier h.0) no_last ∙ ap (λ earlier. distances_at [] earlier h.0) no_earlier in
    omega (arith, ap length nil, h.2)

abbrev HasIn : (ℕ → List ℕ) → ℕ → Type 0
HasIn lists d = (number i : ℕ) × (i < length (lists number)) × (get_or (lists number) i 0 ≡ d)

module _ (before after : ℕ → List ℕ) (h d : ℕ) (adds : AddsAt before h d after) where
  here : (q : ℕ) → h ≡ q → after q ≡ before h ++ d ∷ []
  here q e = elim (eqb_tells h q) [ inl w ↦ rw (adds q, w.0) refl | inr w ↦ absurd (w.1 e) ]

  elsewhere : (q : ℕ) → h ≢ q → after q ≡ before q
  elsewhere q apart = elim (eqb_tells h q) [ inl w ↦ absurd (apart w.1) | inr w ↦ rw (adds q, w.0) refl ]

  has_after : (o : ℕ) → HasIn after o → HasIn before o ⊎ (o ≡ d)
  has_after o (q, k, below, is) = elim (eqb_tells h q) [
    | inl w ↦ (
        let e : after q ≡ before h ++ d ∷ [] = here q w.1 in
        elim (cases_lt k (length (before h))) [
          | inl lt ↦ inl (h, k, lt, grind (arith, common_steps, e, lt, is))
          | inr le ↦ inr (grind (arith, common_steps, e, le, below, is))
        ]
        )
    | inr w ↦ inl (let e : after q ≡ before q = elsewhere q w.1 in (q, k, rw (← e) below, rw (← e) is))
  ]

  has_before : (o : ℕ) → HasIn before o → HasIn after o
  has_before o (q, k, below, is) = elim (eqb_tells h q) [
    | inl w ↦ (
        let e : after q ≡ before q ++ d ∷ [] = here q w.1 ∙ ap (λ x. before x ++ d ∷ []) w.1 in
        (q, k, grind (arith, common_steps, e, below), grind (arith, common_steps, e, below, is))
        )
    | inr w ↦ (let e : after q ≡ before q = elsewhere q w.1 in (q, k, rw e below, rw e is))
  ]

  has_it : HasIn after d
  has_it =
      let e : after h ≡ before h ++ d ∷ [] = here h refl in
      (h, length (before h), grind (arith, common_steps, e), grind (arith, common_steps, e))

  fits_after : (Stands : ℕ → ℕ → Type 0) → ((q k : ℕ) → k < length (before q) → Stands q (get_or (before q) k 0)) → Stands h d
      → (q k : ℕ) → k < length (after q) → Stands q (get_or (after q) k 0)
  fits_after Stands fits stands q k below = elim (eqb_tells h q) [
    | inl w ↦ (
        let e : after q ≡ before q ++ d ∷ [] = here q w.1 ∙ ap (λ x. before x ++ d ∷ []) w.1 in
        elim (cases_lt k (length (before q))) [
          | inl lt ↦ (let P : ℕ → Type 0 = Stands q in subst P (grind (arith, common_steps, e, lt)) (fits q k lt))
          | inr le ↦ (let P : ℕ → ℕ → Type 0 = Stands in subst (λ x. P x (get_or (after q) k 0)) w.1 (subst (P h) (grind (arith, common_steps, e, le, below)) stands))
        ]
        )
    | inr w ↦ (let e : after q ≡ before q = elsewhere q w.1 in rw e (fits q k (rw (← e) below)))
  ]

module _ (s t : CacheView) (h d : ℕ) (adds : AddsAt (bucket s) h d (bucket t)) where
  pub Adds-from : Adds s d t
  unfolding Has
  Adds-from o = (
    has_after (bucket s) (bucket t) h d adds o,
    elim [
      | inl x ↦ has_before (bucket s) (bucket t) h d adds o x
      | inr x ↦ (let P : ℕ → Type 0 = HasIn (bucket t) in subst P (sym x) (has_it (bucket s) (bucket t) h d adds))
    ],
  )

  pub Fits-from : (key_in : List ℕ → Option (List ℕ)) (key : List ℕ) → t.choice ≡ s.choice → number_of s.choice key ≡ h → FitsWhereKeyStands key_in s key d t
  unfolding Fits
  Fits-from key_in key same_choice belongs bytes fits stands = rw same_choice
      (fits_after (bucket s) (bucket t) h d adds (λ q x. (found : List ℕ) × (key_at key_in bytes x ≡ Some found) × (number_of s.choice found ≡ q)) fits (key, stands, belongs))

pub key_at-front : (key_in : List ℕ → Option (List ℕ)) (front bytes : List ℕ) (d : ℕ) (key : List ℕ) → key_at key_in bytes d ≡ Some key
    → key_at key_in (front ++ bytes) d ≡ Some key
key_at-front key_in front bytes d key h =
    let e : drop (length front + (length bytes - d)) (front ++ bytes) ≡ drop (length bytes - d) bytes = drop-append-add front bytes (length bytes - d) in
    grind (arith, common_steps, leb_tells, length-append, e, h)

pub Fits-front : (key_in : List ℕ → Option (List ℕ)) (s : CacheView) (front bytes : List ℕ) → Fits key_in s bytes → Fits key_in s (front ++ bytes)
unfolding Fits
Fits-front key_in s front bytes fits h k below = let x = fits h k below in (x.0, key_at-front key_in front bytes _ x.0 x.1, x.2)

pub Fits-empty : (key_in : List ℕ → Option (List ℕ)) (s : CacheView) (bytes : List ℕ) → IsEmpty s → Fits key_in s bytes
unfolding Fits Has
Fits-empty key_in s bytes empty h k below = absurd (empty (get_or (bucket s h) k 0) (h, k, below, refl))

pub found_in_bucket : (key_in : List ℕ → Option (List ℕ)) (s : CacheView) (bytes key : List ℕ) (r : Option ℕ) → Fits key_in s bytes
    → FoundAmong key_in (bucket s (number_of s.choice key)) bytes key r → IsFound key_in s bytes key r
unfolding Fits Has
found_in_bucket key_in s bytes key None fits none = λ d x stands.
    let f = fits x.0 x.1 x.2 in
    let at : key_at key_in bytes (get_or (bucket s x.0) x.1 0) ≡ Some key = rw x.3 stands in
    let same : f.0 ≡ key = grind (arith, at, f.1) in
    let h : x.0 ≡ number_of s.choice key = sym f.2 ∙ ap (number_of s.choice) same in
    none x.1 (rw (← h) x.2) (rw (← h) at)
found_in_bucket key_in s bytes key (Some d) fits found = ((number_of s.choice key, found.0.0, found.0.1, found.0.2), found.1)

pub insert_adds : (s t old : CacheView) (h d : ℕ) (r : Result (Unit {0}) AllocError) → s ≡ old → OnOk r (AddsAt (bucket s) h d (bucket t)) → OnOk r (Adds old d t)
insert_adds s t old h d (Ok x) e adds = rw (← e) (Adds-from s t h d adds)
insert_adds s t old h d (Err x) e adds = tt

pub insert_fits : (key_in : List ℕ → Option (List ℕ)) (s t old : CacheView) (b : Bucket) (d : ℕ) (r : Result (Unit {0}) AllocError) → s ≡ old → t.choice ≡ s.choice
    → OnOk r (AddsAt (bucket s) b.number d (bucket t)) → OnOk r (FitsWhereItsKeyStands key_in old b d t)
unfolding IsBucketOf
insert_fits key_in s t old b d (Ok x) e same_choice adds = λ key is. rw (← e) (Fits-from s t b.number d adds key_in key same_choice (ap (λ held. number_of held.choice key) e ∙ sym is))
insert_fits key_in s t old b d (Err x) e same_choice adds = tt

module _ (key_in : List ℕ → Option (List ℕ)) (old : CacheView) (b : Bucket) (bytes key : List ℕ) (its : IsBucketOf old key b) (fits : Fits key_in old bytes) where
  abbrev the_last : List ℕ
  the_last = option_to_list (lookup (nat_eq b.number) old.last)

  pub found_in_last : (o : Option ℕ) (d : ℕ) → o ≡ Some d → FoundAmong key_in the_last bytes key o → IsFound key_in old bytes key (Some d)
  unfolding IsBucketOf
  found_in_last o d is found =
      let there : FoundAmong key_in the_last bytes key (Some d) = subst (λ x. FoundAmong key_in the_last bytes key x) is found in
      found_in_bucket key_in old bytes key (Some d) fits (rw (← its) (found_last key_in bytes key (listed_at old.earlier b.number) the_last d there))

  pub found_in_earlier : (o r : Option ℕ) → o ≡ None → FoundAmong key_in the_last bytes key o → FoundAmong key_in (listed_at old.earlier b.number) bytes key r → IsFound key_in old bytes key r
  unfolding IsBucketOf
  found_in_earlier o r is none found =
      let nothing : FoundAmong key_in the_last bytes key None = subst (λ x. FoundAmong key_in the_last bytes key x) is none in
      found_in_bucket key_in old bytes key r fits (rw (← its) (found_before key_in bytes key (listed_at old.earlier b.number) the_last r nothing found))

  pub found_nowhere : (o : Option ℕ) → o ≡ None → FoundAmong key_in the_last bytes key o → old.earlier ≡ [] → IsFound key_in old bytes key None
  found_nowhere o is none empty = found_in_earlier o None is none (rw empty (λ i below. absurd (omega (arith, below))))

keys_in : (key_in : List ℕ → Option (List ℕ)) (s : CacheView) (bytes : List ℕ) (h : ℕ) → Fits key_in s bytes → AreKeys key_in (bucket s h) bytes
unfolding Fits
keys_in key_in s bytes h fits i below = let f = fits h i below in (f.0, f.1)

pub keys_in_last : (key_in : List ℕ → Option (List ℕ)) (s : CacheView) (bytes : List ℕ) (h : ℕ) → Fits key_in s bytes
    → AreKeys key_in (option_to_list (lookup (nat_eq h) s.last)) bytes
keys_in_last key_in s bytes h fits = keys_last key_in bytes (listed_at s.earlier h) _ (keys_in key_in s bytes h fits)

pub keys_in_earlier : (key_in : List ℕ → Option (List ℕ)) (s : CacheView) (bytes : List ℕ) (h : ℕ) → Fits key_in s bytes → AreKeys key_in (listed_at s.earlier h) bytes
keys_in_earlier key_in s bytes h fits = keys_before key_in bytes (listed_at s.earlier h) (option_to_list (lookup (nat_eq h) s.last)) (keys_in key_in s bytes h fits)

pub Has-stands : (key_in : List ℕ → Option (List ℕ)) (s : CacheView) (bytes : List ℕ) (d : ℕ) → Fits key_in s bytes → Has s d → (key : List ℕ) × (key_at key_in bytes d ≡ Some key)
unfolding Fits Has
Has-stands key_in s bytes d fits x = let f = fits x.0 x.1 x.2 in (f.0, rw (← x.3) f.1)
