-- Laws for the contents of optional unions and union vectors.
use Rattle.std.specs.Prelude.{◌≡◌, ℕ, List, [], ◌∷◌, map, Option, Some, None, Ok, ⊤}
use Rattle.std.proofs.Common.{refl, subst, ap}
use Rattle.planus_read.specs.Values.{tags, values as values_field}
use Rattle.planus_fields.specs.Fields.{MayIf, PreparesIf, LeftOutWhere}
use Rattle.planus_write.specs.History.{History}
use Rattle.planus_write.specs.Placing.{Outcome}
use Rattle.planus_write.specs.Preparing.{AllMay, Answers, IsLawful}
use Rattle.planus_write.specs.State.{State, IsHistoryOf}
use Rattle.planus_write.specs.Unions.{union_reach, WritesUnionVector}
use Rattle.planus_write.specs.declared.union_offset.UnionOffset.{UnionOffset}
use Rattle.planus_write.specs.declared.union_vector_offset.UnionVectorOffset.{UnionVectorOffset}
use Rattle.planus_write.specs.Contents.{Content, written_tags, written_values, UnionHolds, Comes}
use Rattle.planus_write.specs.Contents.{unions_hold, PreparesUnionItem}
use Rattle.planus_write.specs.Contents.{UnionVectorHolds}
use Rattle.planus_fields.specs.Contents.{union_if, union_vector_if}
use Rattle.planus_fields.specs.Contents.{any_unions_hold, PreparesUnion, PreparesUnionVector}
use Rattle.planus_write.specs.lemmas.ContentLaws.{stays_there}
use Rattle.planus_write.specs.lemmas.UnionContentLaws.{vector_comes}

module _ {X T : Type 0} {may : X → State → Type 0} {outcome : X → Outcome (UnionOffset T)}
    (lawful : IsLawful may outcome union_reach) (content : X → ℕ × Content)
    (prepares : PreparesUnionItem may outcome content) where
  pub unions_prepared : {Y : Type 0} (items : Y → List X)
      → PreparesUnionVector (λ y old. AllMay may (items y) old)
      (λ y old answer new. LeftOutWhere ⊥ (WritesUnionVector outcome (items y)) old answer new)
      (λ y. Some (unions_hold (map content (items y))))
  unions_prepared {Y} items = record { comes = comes }
    where
      comes : (y : Y) (old : State) (prepared : Option (UnionVectorOffset T)) (new : State)
          (history : History)
          → AllMay may (items y) old
          → LeftOutWhere ⊥ (WritesUnionVector outcome (items y)) old (Ok prepared) new
          → IsHistoryOf old history
          → Comes history new
          (λ after. UnionVectorHolds after (Some (unions_hold (map content (items y)))) prepared)
      comes y old None new history mays done is_history = elim done.0 [ ]
      comes y old (Some vector) new history mays done is_history =
          vector_comes lawful content prepares
          (items y) old vector new history mays done.1 is_history

  pub unions_or_none_prepared : {Y : Type 0} (items : Y → List X)
      → PreparesUnionVector (λ y old. AllMay may (items y) old)
      (λ y old answer new. LeftOutWhere (items y ≡ []) (WritesUnionVector outcome (items y)) old
      answer new)
      (λ y. any_unions_hold (map content (items y)))
  unions_or_none_prepared {Y} items = record {
    comes = λ y old prepared new history mays done is_history.
        comes (items y) old prepared new history mays done is_history;
  }
    where
      comes : (xs : List X) (old : State) (prepared : Option (UnionVectorOffset T)) (new : State)
          (history : History) → AllMay may xs old
          → LeftOutWhere (xs ≡ []) (WritesUnionVector outcome xs) old (Ok prepared) new
          → IsHistoryOf old history
          → Comes history new
          (λ after. UnionVectorHolds after (any_unions_hold (map content xs)) prepared)
      comes [] old None new history mays done is_history =
          stays_there history old new (λ after. ⊤) done.1 is_history tt
      comes [] old (Some vector) new history mays done is_history = absurd (done.0 refl)
      comes (x ∷ xs) old None new history mays done is_history = cc
      comes (x ∷ xs) old (Some vector) new history mays done is_history =
          vector_comes lawful content prepares
          (x ∷ xs) old vector new history mays done.1 is_history

pub optional_union_vector_prepared : {X T : Type 0} {may : X → State → Type 0}
    {outcome : X → Outcome (Option (UnionVectorOffset T))}
    {contents : X → Option (Content × Content)}
    → PreparesUnionVector may outcome contents
    → PreparesUnionVector (λ x old. MayIf may x old)
    (λ x old answer new. PreparesIf outcome x old answer new)
    (λ x. union_vector_if contents x)
optional_union_vector_prepared {X} {T} {may} {outcome} {contents} lawful =
    record { comes = prepared }
  where
    prepared : (x : Option X) (old : State) (prepared : Option (UnionVectorOffset T)) (new : State)
        (history : History)
        → MayIf may x old → PreparesIf outcome x old (Ok prepared) new → IsHistoryOf old history
        → Comes history new (λ after. UnionVectorHolds after (union_vector_if contents x) prepared)
    prepared None old None new history may done is_history =
        stays_there history old new (λ after. ⊤) done.1 is_history tt
    prepared None old (Some found) new history may done is_history = cc
    prepared (Some x) old found new history may done is_history =
        lawful.comes x old found new history may done is_history

pub union_vector_offset_prepared : {T : Type 0} {may : UnionVectorOffset T → State → Type 0}
    → PreparesUnionVector may
    (λ vector old answer new. LeftOutWhere ⊥ (Answers vector) old answer new)
    (λ vector. Some (written_tags vector.tags.distance, written_values vector.values.distance))
union_vector_offset_prepared {T} {may} = record { comes = comes }
  where
    comes : (vector : UnionVectorOffset T) (old : State) (prepared : Option (UnionVectorOffset T))
        (new : State)
        (history : History) → may vector old → LeftOutWhere ⊥ (Answers vector) old (Ok prepared) new
        → IsHistoryOf old history
        → Comes history new
        (λ after.
        UnionVectorHolds after
        (Some (written_tags vector.tags.distance, written_values vector.values.distance)) prepared)
    comes vector old None new history may done is_history = elim done.0 [ ]
    comes vector old (Some found) new history may done is_history =
        let same : found ≡ vector = cc in
        stays_there history old new
        (λ after. (tags found.tags.distance ≡ tags vector.tags.distance)
        × (values_field found.values.distance ≡ values_field vector.values.distance))
        done.1.1 is_history (
          ap (λ (vector : UnionVectorOffset T). tags vector.tags.distance) same,
          ap (λ (vector : UnionVectorOffset T). values_field vector.values.distance) same,
        )

pub always_union_prepared : {X T : Type 0} {may : X → State → Type 0}
    {outcome : X → Outcome (UnionOffset T)} {content : X → ℕ × Content}
    → PreparesUnionItem may outcome content
    → PreparesUnion may (λ x old answer new. LeftOutWhere ⊥ (outcome x) old answer new)
    (λ x. Some (content x))
always_union_prepared {X} {T} {may} {outcome} {content} lawful = record { comes = comes }
  where
    comes : (x : X) (old : State) (prepared : Option (UnionOffset T)) (new : State)
        (history : History)
        → may x old → LeftOutWhere ⊥ (outcome x) old (Ok prepared) new → IsHistoryOf old history
        → Comes history new (λ after. UnionHolds after (Some (content x)) prepared)
    comes x old None new history may done is_history = elim done.0 [ ]
    comes x old (Some union) new history may done is_history =
        lawful.comes x old union new history may done.1 is_history

pub optional_union_prepared : {X T : Type 0} {may : X → State → Type 0}
    {outcome : X → Outcome (Option (UnionOffset T))} {content : X → Option (ℕ × Content)}
    → PreparesUnion may outcome content
    → PreparesUnion (λ x old. MayIf may x old)
    (λ x old answer new. PreparesIf outcome x old answer new)
    (λ x. union_if content x)
optional_union_prepared {X} {T} {may} {outcome} {content} lawful = record { comes = prepared }
  where
    prepared : (x : Option X) (old : State) (prepared : Option (UnionOffset T)) (new : State)
        (history : History)
        → MayIf may x old → PreparesIf outcome x old (Ok prepared) new → IsHistoryOf old history
        → Comes history new (λ after. UnionHolds after (union_if content x) prepared)
    prepared None old None new history may done is_history =
        stays_there history old new (λ after. ⊤) done.1 is_history tt
    prepared None old (Some found) new history may done is_history = cc
    prepared (Some x) old found new history may done is_history =
        lawful.comes x old found new history may done is_history

pub never_union_prepared : {X T : Type 0} {may : X → State → Type 0}
    → PreparesUnion {X = X} {T = T} may (λ x old answer new. Answers None old answer new)
    (λ x. None)
never_union_prepared {X} {T} {may} = record {
  comes = λ x old prepared new history may done is_history.
      (let same : None ≡ prepared = cc in
      subst (λ (prepared : Option (UnionOffset T)). Comes history new
      (λ after. UnionHolds after None prepared)) same
      (stays_there history old new (λ after. ⊤) done.1 is_history tt));
}

pub union_prepared_as : {X Y T : Type 0} {may : X → State → Type 0}
    {outcome : X → Outcome (Option (UnionOffset T))} {content : X → Option (ℕ × Content)}
    (of : Y → X)
    → PreparesUnion may outcome content
    → PreparesUnion (λ y old. may (of y) old) (λ y old answer new. outcome (of y) old answer new)
    (λ y. content (of y))
union_prepared_as of lawful = record { comes = λ y. lawful.comes (of y) }

pub never_union_vector_prepared : {X T : Type 0} {may : X → State → Type 0}
    → PreparesUnionVector {X = X} {T = T} may (λ x old answer new. Answers None old answer new)
    (λ x. None)
never_union_vector_prepared {X} {T} {may} = record {
  comes = λ x old prepared new history may done is_history.
      (let same : None ≡ prepared = cc in
      subst (λ (prepared : Option (UnionVectorOffset T)). Comes history new
      (λ after. UnionVectorHolds after None prepared)) same
      (stays_there history old new (λ after. ⊤) done.1 is_history tt));
}

pub union_vector_prepared_as : {X Y T : Type 0} {may : X → State → Type 0}
    {outcome : X → Outcome (Option (UnionVectorOffset T))}
    {contents : X → Option (Content × Content)}
    (of : Y → X) → PreparesUnionVector may outcome contents
    → PreparesUnionVector (λ y old. may (of y) old)
    (λ y old answer new. outcome (of y) old answer new)
    (λ y. contents (of y))
union_vector_prepared_as of lawful = record { comes = λ y. lawful.comes (of y) }
