-- What was seen is found after a write.
use Rattle.std.proofs.Common.{◌≡◌, ℕ, List, [], ◌∷◌, ◌++◌, Bool, true, false}
use Rattle.std.proofs.Common.{◌↔◌, ◌&&◌, refl, sym, ap, ◌∙◌, subst, Option, Some, None, inl, inr}
use Rattle.std.specs.Prelude.{if◌then◌else◌}
use Rattle.std.specs.Str.{bytes_eq}
use Rattle.std.proofs.lemmas.Slice.Eq.{bytes_eq-Decides}
use Rattle.planus_back.specs.CacheKeys.{key_at}
use Rattle.planus_back.proofs.Caches.{key_at-front}
use Rattle.planus_write.specs.Holding.{Holds, HoldsNothing, HoldsMore, FitsInFront}
use Rattle.planus_write.proofs.HeldContents.{holding_fits-front, holds-stands, nothing-fits}
use Rattle.planus_write.specs.Shared.{ContentsKind, texts, byte_lists, vtables, same_kind, Cached, distance_cached}
use Rattle.planus_write.specs.State.{State, FindsCached, holding_of, contents_in}

pub none_is_not_some : {A : Type 0} (x : A) → None ≡ Some x → ⊥
none_is_not_some x e = cc

true_is_not_false : true ≡ false → ⊥
true_is_not_false e = cc

same_both : (kind : ContentsKind) (b : Bool) → (same_kind kind kind && b) ≡ b
same_both texts b = refl
same_both byte_lists b = refl
same_both vtables b = refl

some_same : {A : Type 0} (x y : A) → Some x ≡ Some y → x ≡ y
some_same x y e = cc

module _ (old new : State) (front : List ℕ) (bytes_are : new.bytes ≡ front ++ old.bytes) (cached : List Cached) (kind : ContentsKind) (was : FindsCached old cached kind) where
  moved_on : (distance : ℕ) (bytes : List ℕ) → key_at (contents_in kind) old.bytes distance ≡ Some bytes → key_at (contents_in kind) new.bytes distance ≡ Some bytes
  moved_on distance bytes h = rw bytes_are (key_at-front (contents_in kind) front old.bytes distance bytes h)

  stood : (distance : ℕ) (bytes : List ℕ) → Holds (holding_of old.holdings kind) distance → key_at (contents_in kind) new.bytes distance ≡ Some bytes → key_at (contents_in kind) old.bytes distance ≡ Some bytes
  stood distance bytes has h =
      let stands = holds-stands (contents_in kind) (holding_of old.holdings kind) old.bytes distance was.fits has in
      stands.1 ∙ sym (moved_on distance stands.0 stands.1) ∙ h

  pub finds_still : holding_of new.holdings kind ≡ holding_of old.holdings kind → FindsCached new cached kind
  finds_still same = record {
    fits = rw (same, bytes_are) (holding_fits-front (contents_in kind) (holding_of old.holdings kind) front old.bytes was.fits);
    finds = λ bytes distance. (
      λ is_cached. let x = (was.finds bytes distance).0 is_cached in (rw same x.0, moved_on distance bytes x.1),
      λ x. let has : Holds (holding_of old.holdings kind) distance = rw (← same) x.0 in (was.finds bytes distance).1 (has, stood distance bytes has x.1),
    );
  }

module _ (old new : State) (front : List ℕ) (bytes_are : new.bytes ≡ front ++ old.bytes) (cached : List Cached) (kind : ContentsKind) (contents : List ℕ) (place : ℕ)
    (adds : HoldsMore (holding_of old.holdings kind) place (holding_of new.holdings kind))
    (fits : FitsInFront (contents_in kind) old.bytes contents place (holding_of new.holdings kind))
    (stands : key_at (contents_in kind) new.bytes place ≡ Some contents)
    (is_new : distance_cached cached (record { kind = kind; bytes = contents }) ≡ None)
    (was : FindsCached old cached kind) where
  abbrev added : List Cached
  added = record { contents = record { kind = kind; bytes = contents }; distance = place } ∷ cached

  was_new : (distance : ℕ) → distance_cached cached (record { kind = kind; bytes = contents }) ≡ Some distance → ⊥
  was_new distance e = none_is_not_some distance (sym is_new ∙ e)

  abbrev IsFoundAt : Option ℕ → List ℕ → ℕ → Type 0
  IsFoundAt answer bytes distance = (answer ≡ Some distance) ↔ (Holds (holding_of new.holdings kind) distance × (key_at (contents_in kind) new.bytes distance ≡ Some bytes))

  found_here : (bytes : List ℕ) (distance : ℕ) → contents ≡ bytes → IsFoundAt (Some place) bytes distance
  found_here bytes distance same = (
    λ e. let at : place ≡ distance = some_same place distance e in
        (subst (Holds (holding_of new.holdings kind)) at ((adds place).1 (inr refl)), subst (λ d. key_at (contents_in kind) new.bytes d ≡ Some bytes) at (stands ∙ ap Some same)),
    λ x. elim ((adds distance).0 x.0) as (λ _. Some place ≡ Some distance) [
      | inl has ↦ absurd (was_new distance (subst (λ b. distance_cached cached (record { kind = kind; bytes = b }) ≡ Some distance) (sym same)
          ((was.finds bytes distance).1 (has, stood old new front bytes_are cached kind was distance bytes has x.1))))
      | inr at ↦ ap Some (sym at)
    ],
  )

  found_before : (bytes : List ℕ) (distance : ℕ) → bytes_eq contents bytes ≡ false → IsFoundAt (distance_cached cached (record { kind = kind; bytes = bytes })) bytes distance
  found_before bytes distance other = (
    λ e. let x = (was.finds bytes distance).0 e in ((adds distance).1 (inl x.0), moved_on old new front bytes_are cached kind was distance bytes x.1),
    λ x. elim ((adds distance).0 x.0) as (λ _. distance_cached cached (record { kind = kind; bytes = bytes }) ≡ Some distance) [
      | inl has ↦ (was.finds bytes distance).1 (has, stood old new front bytes_are cached kind was distance bytes has x.1)
      | inr at ↦ (
          let there : key_at (contents_in kind) new.bytes place ≡ Some bytes = subst (λ d. key_at (contents_in kind) new.bytes d ≡ Some bytes) at x.1 in
          let same : contents ≡ bytes = some_same contents bytes (sym stands ∙ there) in
          let is : bytes_eq contents bytes ≡ true = (bytes_eq-Decides contents bytes).1 same in
          absurd (true_is_not_false (sym is ∙ other)))
    ],
  )

  finds_bytes : (bytes : List ℕ) (distance : ℕ) → IsFoundAt (distance_cached added (record { kind = kind; bytes = bytes })) bytes distance
  finds_bytes bytes distance = by_test (bytes_eq contents bytes) refl
    where
      by_test : (equal : Bool) → bytes_eq contents bytes ≡ equal → IsFoundAt (distance_cached added (record { kind = kind; bytes = bytes })) bytes distance
      by_test true e =
          subst (λ b. IsFoundAt (if b then Some place else distance_cached cached (record { kind = kind; bytes = bytes })) bytes distance) (sym (same_both kind (bytes_eq contents bytes) ∙ e))
          (found_here bytes distance ((bytes_eq-Decides contents bytes).0 e))
      by_test false e =
          subst (λ b. IsFoundAt (if b then Some place else distance_cached cached (record { kind = kind; bytes = bytes })) bytes distance) (sym (same_both kind (bytes_eq contents bytes) ∙ e))
          (found_before bytes distance e)

  pub finds_added : FindsCached new added kind
  finds_added = record {
    fits = rw bytes_are (fits front (rw bytes_are at stands));
    finds = finds_bytes;
  }

other_cached : (kind other : ContentsKind) (contents bytes : List ℕ) (place : ℕ) (cached : List Cached) → same_kind kind other ≡ false
    → distance_cached (record { contents = record { kind = kind; bytes = contents }; distance = place } ∷ cached) (record { kind = other; bytes = bytes }) ≡ distance_cached cached (record { kind = other; bytes = bytes })
other_cached kind other contents bytes place cached apart =
    ap (λ b. if b && bytes_eq contents bytes then Some place else distance_cached cached (record { kind = other; bytes = bytes })) apart

pub other_finds : (state : State) (kind other : ContentsKind) (contents : List ℕ) (place : ℕ) (cached : List Cached) → same_kind kind other ≡ false
    → FindsCached state cached other → FindsCached state (record { contents = record { kind = kind; bytes = contents }; distance = place } ∷ cached) other
other_finds state kind other contents place cached apart was = record {
  fits = was.fits;
  finds = λ bytes distance. let e = other_cached kind other contents bytes place cached apart in
      (λ h. (was.finds bytes distance).0 (sym e ∙ h), λ x. e ∙ (was.finds bytes distance).1 x);
}

pub finds_nothing : (state : State) (kind : ContentsKind) → HoldsNothing (holding_of state.holdings kind) → FindsCached state [] kind
finds_nothing state kind empty = record {
  fits = nothing-fits (contents_in kind) (holding_of state.holdings kind) state.bytes empty;
  finds = λ bytes distance. (λ e. absurd (none_is_not_some distance e), λ x. absurd (empty distance x.0));
}
