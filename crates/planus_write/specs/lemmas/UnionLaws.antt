-- The laws of unions and of vectors of them.
use Rattle.std.specs.Prelude.{◌≡◌, ℕ, ◌≤◌, List, [], ◌∷◌, length, map, Ok, Err, ◌⊎◌}
use Rattle.std.proofs.Common.{subst, sym, arith, ◌∙◌, inl, inr}
use Rattle.planus_write.specs.Parts.{union_entries, second_of, last_of}
use Rattle.planus_write.specs.State.{State}
use Rattle.planus_write.specs.Placing.{Outcome, then_does}
use Rattle.planus_write.specs.Preparing.{IsLawful, Answers, PreparesItems, WritesEntries, AllMay}
use Rattle.planus_write.specs.lemmas.Laws.{written_is_lawful, reached_still, entry_grows}
use Rattle.planus_write.specs.lemmas.ListLaws.{GrowsFrom, then_grows, entries_grow, items_grow}
use Rattle.planus_write.specs.lemmas.ListLaws.{may_still, ready_items, ready_is_given}
use Rattle.planus_write.specs.Unions.{union_reach, union_vector_reach, item_of, WritesUnionVector}
use Rattle.planus_write.specs.declared.errors.BuildError.{BuildError}
use Rattle.planus_write.specs.declared.errors.BuildError.TheVariants.{OutOfMemory}
use Rattle.planus_write.specs.declared.union_offset.UnionOffset.{UnionOffset}
use Rattle.planus_write.specs.declared.union_vector_offset.UnionVectorOffset.{UnionVectorOffset}

pub union_offset_is_lawful : {T : Type 0}
    → IsLawful {X = UnionOffset T} (λ union old. union_reach union ≤ length old.bytes) Answers
    union_reach
union_offset_is_lawful {T} = written_is_lawful (λ (union : UnionOffset T). union_reach union)

pub union_vector_offset_is_lawful : {T : Type 0}
    → IsLawful {X = UnionVectorOffset T}
    (λ vector old. union_vector_reach vector ≤ length old.bytes)
    Answers union_vector_reach
union_vector_offset_is_lawful {T} =
    written_is_lawful (λ (vector : UnionVectorOffset T). union_vector_reach vector)

module _ {X T : Type 0} (may : X → State → Type 0) (outcome : X → Outcome (UnionOffset T))
    (lawful : IsLawful may outcome union_reach) where
  abbrev does : List X → Outcome (List ℕ)
  does xs = then_does (PreparesItems outcome xs)
      (λ unions. WritesEntries (union_entries (map item_of unions)) [])

  does_grow : (xs : List X) (old : State) → AllMay may xs old → GrowsFrom old (does xs)
  does_grow xs old h =
      then_grows old (PreparesItems outcome xs)
      (λ unions. WritesEntries (union_entries (map item_of unions)) [])
      (items_grow may outcome union_reach lawful xs old h)
      (λ unions between done. entries_grow (union_entries (map item_of unions)) [] between)

  vector_grows : (xs : List X) (old : State) → AllMay may xs old
      → GrowsFrom {A = UnionVectorOffset T} old (WritesUnionVector outcome xs)
  vector_grows xs old h (Ok vector) new done = does_grow xs old h (Ok done.0) new done.1
  vector_grows xs old h (Err error) new done = does_grow xs old h (Err error) new done

  entries_reach : (unions : List (UnionOffset T)) (old : State) (got : List ℕ) (new : State)
      → WritesEntries (union_entries (map item_of unions)) [] old (Ok got) new
      → (second_of got ≤ length new.bytes) × (last_of got ≤ length new.bytes)
  entries_reach unions old got new h =
      let second = h.3 in
      let third = second.3 in
      let fourth = third.3 in
      let same : got ≡ h.0 ∷ second.0 ∷ third.0 ∷ fourth.0 ∷ [] = cc in
      let further =
      reached_still second.0 second.1 third.1 (entry_grows _ _ second.1 third.0 third.1 third.2)
      second.2.reached in
      let still = reached_still second.0 third.1 fourth.1
      (entry_grows _ _ third.1 fourth.0 fourth.1 fourth.2) further in
      subst (λ (all : List ℕ). (second_of all ≤ length new.bytes)
      × (last_of all ≤ length new.bytes)) (sym same)
      (subst (λ (state : State). (second.0 ≤ length state.bytes) × (fourth.0 ≤ length state.bytes))
      (sym fourth.3.1)
      (still, fourth.2.reached))

  pub union_vector_is_lawful : {Y : Type 0} (items_of : Y → List X)
      → IsLawful {X = Y} {A = UnionVectorOffset T} (λ y old. AllMay may (items_of y) old)
      (λ y old answer new. WritesUnionVector outcome (items_of y) old answer new) union_vector_reach
  union_vector_is_lawful {Y} items_of = record {
    grows = λ y old answer new h done. vector_grows (items_of y) old h answer new done;
    reaches = λ y old vector new h done.
        let reached = entries_reach done.1.0 done.1.1 done.0 new done.1.3 in
        let second = reached.0 in
        let last = reached.1 in
        let values = done.2 in
        let tags = done.3 in
        omega (arith, second, last, values, tags);
    stays = λ y old new grows h. may_still may outcome union_reach lawful (items_of y) old new grows
        h;
  }

pub ready_union_vector_is_put : {T : Type 0} (unions : List (UnionOffset T)) (old : State)
    (vector : UnionVectorOffset T) (new : State)
    → WritesUnionVector Answers unions old (Ok vector) new
    → (got : List ℕ) × WritesEntries (union_entries (map item_of unions)) [] old (Ok got) new
    × (vector.values.distance ≡ second_of got) × (vector.tags.distance ≡ last_of got)
ready_union_vector_is_put {T} unions old vector new h =
    let done = h.1 in
    let ready = ready_items unions done.2.1 done.0 done.1 done.2.3 in (
      h.0,
      subst
          (λ (state : State).
          WritesEntries (union_entries (map item_of unions)) [] state (Ok h.0) new)
          (ready.1 ∙ done.2.2)
          (subst
          (λ (all : List (UnionOffset T)).
          WritesEntries (union_entries (map item_of all)) [] done.1 (Ok h.0) new)
          ready.0 done.3),
      h.2,
      h.3,
    )

pub ready_union_vector_is_refused : (T : Type 0) (unions : List (UnionOffset T)) (old : State)
    (error : BuildError) (new : State)
    → WritesUnionVector {T = T} Answers unions old (Err error) new
    → (error ≡ OutOfMemory)
    ⊎ WritesEntries (union_entries (map item_of unions)) [] old (Err error) new
ready_union_vector_is_refused T unions old error new (inl (inl h)) = inl h.0
ready_union_vector_is_refused T unions old error new (inl (inr h)) =
    absurd (ready_is_given unions h.1 error new h.3)
ready_union_vector_is_refused T unions old error new (inr (all, mid, h, refused)) =
    let ready = ready_items unions h.1 all mid h.3 in
    inr
    (subst
    (λ (state : State).
    WritesEntries (union_entries (map item_of unions)) [] state (Err error) new)
    (ready.1 ∙ h.2)
    (subst
    (λ (items : List (UnionOffset T)).
    WritesEntries (union_entries (map item_of items)) [] mid (Err error) new)
    ready.0 refused))
