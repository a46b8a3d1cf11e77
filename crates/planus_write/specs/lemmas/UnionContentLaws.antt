-- The contents of unions and union vectors.
use Rattle.std.specs.Prelude.{◌≡◌, ℕ, ◌≤◌, List, [], ◌∷◌, length, map, Some, Ok}
use Rattle.std.specs.List.{AllByRecursion}
use Rattle.std.proofs.Common.{refl, subst, sym}
use Rattle.planus_read.specs.Values.{reference, union_vector}
use Rattle.planus_write.specs.Kept.{IsKept}
use Rattle.planus_write.specs.Parts.{entries_of, last_of}
use Rattle.planus_write.specs.History.{History}
use Rattle.planus_write.specs.Placing.{Outcome}
use Rattle.planus_write.specs.lemmas.Laws.{extends_on, reached_still}
use Rattle.planus_write.specs.lemmas.ListLaws.{all_grow, may_still}
use Rattle.planus_write.specs.Preparing.{AllMay, Answers, IsLawful, PreparesAll}
use Rattle.planus_write.specs.State.{State, IsHistoryOf}
use Rattle.planus_write.specs.Unions.{union_reach, item_of, WritesUnionVector}
use Rattle.planus_write.specs.declared.union_offset.UnionOffset.{UnionOffset}
use Rattle.planus_write.specs.declared.union_vector_offset.UnionVectorOffset.{UnionVectorOffset}
use Rattle.planus_write.specs.lemmas.PutEntries.{entries_put}
use Rattle.planus_write.specs.lemmas.StandingLaws.{values_are_kept}
use Rattle.planus_write.specs.Contents.{Content, named_at_both, UnionHolds, Comes, unions_hold}
use Rattle.planus_write.specs.Contents.{UnionsAre, as_unions, written_union, PreparesUnionItem}
use Rattle.planus_write.specs.Contents.{UnionVectorHolds}
use Rattle.planus_write.specs.lemmas.ContentLaws.{field_stays, stays_there, unions_stay}

module _ {X T : Type 0} {may : X → State → Type 0} {outcome : X → Outcome (UnionOffset T)}
    (lawful : IsLawful may outcome union_reach) (content : X → ℕ × Content)
    (prepares : PreparesUnionItem may outcome content) where
  abbrev Come : List X → List (UnionOffset T) → State → History → Type 0
  Come xs unions new after = UnionsAre after (as_unions (map content xs)) (map item_of unions)
      × AllByRecursion (λ union. union.1 ≤ length new.bytes) (map item_of unions)

  unions_come : (xs : List X) (old : State) (unions : List (UnionOffset T)) (new : State)
      (history : History)
      → AllMay may xs old → PreparesAll outcome xs old (Ok unions) new → IsHistoryOf old history
      → Comes history new (Come xs unions new)
  unions_come [] old unions new history mays done is_history =
      let same : [] ≡ unions = cc in
      stays_there history old new (Come [] unions new) done.1 is_history
      (subst (λ (unions : List (UnionOffset T)). Come [] unions new history) same (tt, tt))
  unions_come (x ∷ xs) old unions new history mays done is_history =
      let between = done.1 in
      let near = prepares.comes x old done.0 between history mays.0 done.2 is_history in
      let rest = may_still may outcome union_reach lawful xs old between
      (lawful.grows x old (Ok done.0) between mays.0 done.2) mays.1 in
      let far = unions_come xs between done.3.0 done.3.1 near.0 rest done.3.2 near.1 in
      let first = field_stays near.0 far.0 (content x).1 (reference (union_reach done.0)) far.2
      near.3.1 in
      let reached = reached_still (union_reach done.0) between done.3.1
      (all_grow may outcome union_reach lawful xs between rest (Ok done.3.0) done.3.1 done.3.2)
      (lawful.reaches x old done.0 between mays.0 done.2) in
      let same : done.0 ∷ done.3.0 ≡ unions = cc in (
        far.0,
        subst (λ (state : State). IsHistoryOf state far.0) (sym done.3.3.1) far.1,
        extends_on history near.0 far.0 near.2 far.2,
        subst (λ (unions : List (UnionOffset T)). Come (x ∷ xs) unions new far.0) same
            (subst (λ (state : State). Come (x ∷ xs) (done.0 ∷ done.3.0) state far.0)
            (sym done.3.3.1) ((near.3.0, first, far.3.0), (reached, far.3.1))),
      )

  pub vector_comes
      : (xs : List X) (old : State) (vector : UnionVectorOffset T) (new : State) (history : History)
      → AllMay may xs old → WritesUnionVector outcome xs old (Ok vector) new
      → IsHistoryOf old history
      → Comes history new
      (λ after. UnionVectorHolds after (Some (unions_hold (map content xs))) (Some vector))
  vector_comes xs old vector new history mays h is_history =
      let done = h.1 in
      let prepared = subst (λ (state : State). PreparesAll outcome xs state (Ok done.0) done.1)
      done.2.2 done.2.3 in
      let all = unions_come xs old done.0 done.1 history mays prepared is_history in
      let pairs = map item_of done.0 in
      let inside =
      subst (λ (bytes : List ℕ). AllByRecursion (λ union. union.1 ≤ length bytes) pairs)
      (sym all.1.bytes) all.3.1 in
      let placed =
      entries_put (entries_of (union_vector pairs)) [] done.1 h.0 new all.0 done.3 all.1 in
      let kept = values_are_kept done.1.settings (union_vector pairs) all.0 h.0 placed.0 inside
      all.1.kept placed.1 in
      let stands = subst
      (λ (d : ℕ). IsKept placed.0 (union_vector pairs) (named_at_both d vector.values.distance))
      (sym h.3)
      (subst (λ (d : ℕ). IsKept placed.0 (union_vector pairs) (named_at_both (last_of h.0) d))
      (sym h.2) kept.0) in
      let are = unions_stay all.0 placed.0 (as_unions (map content xs)) pairs kept.2 all.3.0 in (
        placed.0,
        placed.2,
        extends_on history all.0 placed.0 all.2 kept.2,
        (
          (vector.tags.distance, vector.values.distance, refl, (pairs, stands, are)),
          (vector.tags.distance, vector.values.distance, refl, (pairs, stands, are)),
        ),
      )

pub written_union_prepared : {T : Type 0} {may : UnionOffset T → State → Type 0}
    → PreparesUnionItem may Answers written_union
written_union_prepared {T} {may} = record {
  comes = λ union old prepared new history may done is_history.
      (let same : union ≡ prepared = cc in
      stays_there history old new
      (λ after. UnionHolds after (Some (written_union union)) (Some prepared)) done.1 is_history
      (subst (λ (found : UnionOffset T). UnionHolds history (Some (written_union union))
      (Some found))
      same
      (refl, refl)));
}

pub union_item_prepared_as : {X Y T : Type 0} {may : X → State → Type 0}
    {outcome : X → Outcome (UnionOffset T)} {content : X → ℕ × Content} (of : Y → X)
    → PreparesUnionItem may outcome content
    → PreparesUnionItem (λ y old. may (of y) old)
    (λ y old answer new. outcome (of y) old answer new)
    (λ y. content (of y))
union_item_prepared_as of lawful = record { comes = λ y. lawful.comes (of y) }
