-- What a search of a vector's items says.
use Prim.Native.Nat.{zero, suc}
use Rattle.std.proofs.Common.{◌≡◌, ℕ, ◌+◌, ◌*◌, ◌<◌, ◌⊎◌, List, ◌∷◌, drop, length, get_or, drop-cons, add-one, sym, subst, ap, ◌∙◌, arith, refl, inl, inr, Ok}
use Rattle.planus_read.specs.Clauses.{Answer, AllHold, shown}
use Rattle.planus_read.specs.Reading.{vector_reading, vector_clauses, items_at, count_at}
use Rattle.planus_read.proofs.Reading.{vector_holds}
use Rattle.planus_view.specs.Views.{View}
use Rattle.planus_verify.specs.Soughts.{ItemFails, FirstFails, VectorFails, FieldEnds, FieldsEnd}
use Rattle.planus_verify.specs.declared.fault.FieldPlace.{FieldPlace}
use Rattle.planus_verify.specs.declared.schema.FieldShape.{FieldShape}
use Rattle.planus_verify.specs.declared.schema.ValueKind.{ValueKind}
use Rattle.planus_verify.proofs.Searches.{either}

module _ (begin : ℕ) (k : ValueKind) (S : List ℕ) (start f : ℕ) (view : View)
    (there : Answer (shown (λ items v. v ≡ record {
      bytes = drop items.position S;
      start = start + items.position;
      count = items.count;
    }) (vector_reading S f 4)) (Ok view)) where
  abbrev whole : View
  whole =
      record {
        bytes = drop (items_at S f) S;
        start = start + items_at S f;
        count = count_at S f;
      }

  items_there : AllHold (vector_clauses S f 4) × (view ≡ whole)
  items_there =
      let holds = vector_holds S f 4 there.0.position there.0.count there.1 in (
        holds.0,
        there.2 ∙ (ap (λ k. record {
          bytes = drop k S;
          start = start + k;
          count = there.0.count;
        }) holds.1 ∙ ap (λ n. record {
          bytes = drop (items_at S f) S;
          start = start + items_at S f;
          count = n;
        }) holds.2),
      )

  -- its first item begins there
  pub first_fails :
      (found i : ℕ) → found ≡ view.start → found ≡ begin → FirstFails k view.bytes view.count i
      → VectorFails begin k S start f i
  first_fails found i is begins fails = (
    items_there.0,
    ap (λ v. v.start) (sym items_there.1) ∙ sym is ∙ begins,
    subst (λ v. FirstFails k v.bytes v.count i) items_there.1 fails,
  )

  pub none_fails :
      ((j : ℕ) → j < view.count → ItemFails k view.bytes (j * 4) → ⊥) → (i : ℕ)
      → VectorFails begin k S start f i → ⊥
  none_fails none i h =
      let fails : FirstFails k view.bytes view.count i =
      subst (λ v. FirstFails k v.bytes v.count i) (sym items_there.1) h.2 in
      none i fails.0 fails.1

  pub begins_elsewhere :
      (found : ℕ) → found ≡ view.start → (found ≡ begin → ⊥) → (i : ℕ)
      → VectorFails begin k S start f i → ⊥
  begins_elsewhere found is elsewhere i h =
      elsewhere (is ∙ ap (λ v. v.start) items_there.1 ∙ h.1)

below : (j i : ℕ) → j < suc i → (j < i) ⊎ (j ≡ i)
below zero zero h = inr refl
below zero (suc i) h = inl (omega arith)
below (suc j) zero h = absurd (omega (arith, h))
below (suc j) (suc i) h =
    either (λ l. inl (omega (arith, l))) (λ e. inr (ap suc e)) (below j i (omega (arith, h)))

-- the items before one and this one can be read
pub none_so_far :
    (k : ValueKind) (S : List ℕ) (i : ℕ)
    → ((j : ℕ) → j < i → ItemFails k S (j * 4) → ⊥) → (ItemFails k S (i * 4) → ⊥)
    → (j : ℕ) → j < i + 1 → ItemFails k S (j * 4) → ⊥
none_so_far k S i before here j less fails =
    let l : j < suc i = omega (arith, less) in
    either (λ l. before j l fails)
    (λ e. here (subst (λ n. ItemFails k S (n * 4)) e fails)) (below j i l)

-- fields of a table, from the first to the one at i, none of which ends a trail
module _ (begin t : ℕ) (S V : List ℕ) (start : ℕ) (fields : List FieldShape) where
  abbrev End : List FieldShape → FieldPlace → Type 0
  End = FieldsEnd begin t S V start

  pub next_field :
      (i : ℕ) (d : FieldShape) → i < length fields
      → ((last : FieldPlace) → FieldEnds begin t S V start (get_or fields i d) last → ⊥)
      → ((last : FieldPlace) → End (drop i fields) last → End fields last)
      → ((last : FieldPlace) → End fields last → End (drop i fields) last)
      → ((last : FieldPlace) → End (drop (i + 1) fields) last → End fields last)
      × ((last : FieldPlace) → End fields last → End (drop (i + 1) fields) last)
  next_field i d below none there left =
      let next : drop i fields ≡ get_or fields i d ∷ drop (i + 1) fields =
      rw add-one (drop-cons fields i d below) in (
        λ last h. there last (subst (λ l. End l last) (sym next) (inr h)),
        λ last h.
            let here : End (get_or fields i d ∷ drop (i + 1) fields) last =
            subst (λ l. End l last) next (left last h) in
            either (λ e. absurd (none last e)) (λ rest. rest) here,
      )
