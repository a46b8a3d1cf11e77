-- Laws for fields that are prepared by value.
use Rattle.std.specs.Prelude.{◌≡◌, ℕ, ◌≤◌, max, List, [], ◌∷◌, ◌++◌, length, Option, Result, Ok}
use Rattle.std.specs.Prelude.{Err}
use Rattle.std.specs.List.{AllByRecursion}
use Rattle.std.proofs.Common.{refl, subst, sym, ap, ◌∙◌, append_assoc, arith, inl, inr}
use Rattle.std.proofs.lemmas.List.{append-nil}
use Rattle.planus_read.specs.Values.{Field}
use Rattle.planus_fields.specs.Contents.{PreparesOptional}
use Rattle.planus_fields.specs.Fields.{reach_if}
use Rattle.planus_write.specs.Contents.{Content}
use Rattle.planus_write.specs.Placing.{Outcome}
use Rattle.planus_write.specs.Preparing.{IsLawful}
use Rattle.planus_write.specs.State.{State, IsHistoryOf, Grows}
use Rattle.planus_write.specs.Tables.{IsFieldAfter, Declared, declared_of}
use Rattle.planus_write.specs.declared.errors.BuildError.{BuildError}
use Rattle.planus_write.specs.lemmas.Laws.{grows_on, extends_on, reached_still}
use Rattle.planus.specs.Contents.{FieldsAre, there_of, PreparesContents}
use Rattle.planus.specs.Preparing.{PreparesAs, PreparesBoth, FieldsInTurn, Turn, AreTaken, OneFails}
use Rattle.planus.specs.Preparing.{TakeTurns}
use Rattle.planus.specs.TableFields.{field_in, all_of}
use Rattle.planus.specs.TableRules.{Among}
use Rattle.planus.specs.lemmas.ContentLaws.{fields_stay, contents_both, only_field}
use Rattle.planus.specs.lemmas.PreparingLaws.{among_both, stand_both, entries_append}

pub max_itself : (n bound : ℕ) → n ≤ bound → max n n ≤ bound
max_itself n bound le = omega (arith, le)

pub pair_stands : (fields others : List (ℕ × Field)) (reach others_reach before : ℕ)
    → (reach ≤ before → AllByRecursion (λ entry. IsFieldAfter before entry.1) fields)
    → (others_reach ≤ before → AllByRecursion (λ entry. IsFieldAfter before entry.1) others)
    → max reach others_reach ≤ before
    → AllByRecursion (λ entry. IsFieldAfter before entry.1) (fields ++ others)
pair_stands fields others reach others_reach before first second reached =
    stand_both before fields others (first (omega (arith, reached)))
    (second (omega (arith, reached)))

pub pair_among : (fields others : List (ℕ × Field)) (all others_all : List Declared)
    → Among (declared_of fields) all → Among (declared_of others) others_all
    → Among (declared_of (fields ++ others)) (all ++ others_all)
pair_among fields others all others_all first second =
    subst (λ some. Among some (all ++ others_all)) (sym (entries_append fields others))
    (among_both (declared_of fields) (declared_of others) all others_all first second)

pub field_is_lawful : {X Y A B : Type 0} {may : X → State → Type 0}
    {outcome : X → Outcome (Option A)} {reach : A → ℕ} (of : Y → X) (value : B → Option A)
    → IsLawful may outcome (reach_if reach)
    → IsLawful (λ y old. may (of y) old)
    (λ y old answer new. PreparesAs value (outcome (of y)) old answer new)
    (λ prepared. reach_if reach (value prepared))
field_is_lawful {X} {Y} {A} {B} {may} {outcome} {reach} of value lawful = record {
  grows = grows;
  reaches = λ y old prepared new may done.
      lawful.reaches (of y) old (value prepared) new may done;
  stays = λ y. lawful.stays (of y);
}
  where
    grows : (y : Y) (old : State) (answer : Result B BuildError) (new : State) → may (of y) old
        → PreparesAs value (outcome (of y)) old answer new → Grows old new
    grows y old (Ok prepared) new may done =
        lawful.grows (of y) old (Ok (value prepared)) new may done
    grows y old (Err error) new may done = lawful.grows (of y) old (Err error) new may done

pub field_has_contents : {X Y A B : Type 0} {may : X → State → Type 0}
    {outcome : X → Outcome (Option A)} {content : X → Option Content} {field : A → Field}
    (of : Y → X) (value : B → Option A) (slot : ℕ) → PreparesOptional may outcome content field
    → PreparesContents (λ y old. may (of y) old)
    (λ y old answer new. PreparesAs value (outcome (of y)) old answer new)
    (λ y. (slot, content (of y)) ∷ []) (λ prepared. field_in slot field (value prepared))
field_has_contents {X} {Y} {A} {B} {may} {outcome} {content} {field} of value slot
    prepares = record {
      comes = λ y old prepared new history may done is_history.
          let near = prepares.comes (of y) old (value prepared) new history may done is_history in (
            near.0,
            near.1,
            near.2,
            only_field near.0 slot (content (of y)) field (value prepared) near.3,
          );
    }

module _ {X Y A B : Type 0} {may : X → State → Type 0} {others_may : Y → State → Type 0}
    {outcome : X → Outcome A} {others : Y → Outcome B} {reach : A → ℕ} {others_reach : B → ℕ}
    (first : IsLawful may outcome reach) (second : IsLawful others_may others others_reach) where
  both_grow : (x : X) (y : Y) (old : State) (answer : Result (A × B) BuildError) (new : State)
      → may x old → others_may y old → PreparesBoth (outcome x) (others y) old answer new
      → Grows old new
  both_grow x y old (Ok prepared) new may also done =
      let near = first.grows x old (Ok done.0) done.1 may done.2 in
      let far = second.grows y done.1 (Ok done.3.0) done.3.1
      (second.stays y old done.1 near also) done.3.2 in
      grows_on old done.1 new near
      (subst (λ state. Grows done.1 state) (sym done.3.3.1) far)
  both_grow x y old (Err error) new may also (inl refused) =
      first.grows x old (Err error) new may refused
  both_grow x y old (Err error) new may also (inr (a, between, done, inl refused)) =
      let near = first.grows x old (Ok a) between may done in
      grows_on old between new near
      (second.grows y between (Err error) new (second.stays y old between near also) refused)
  both_grow x y old (Err error) new may also (inr (a, between, done, inr answered)) =
      absurd (let same = answered.3.0 in cc)

  pub both_are_lawful
      : IsLawful {X = X × Y} {A = A × B} (λ both old. may both.0 old × others_may both.1 old)
      (λ both old answer new. PreparesBoth (outcome both.0) (others both.1) old answer new)
      (λ prepared. max (reach prepared.0) (others_reach prepared.1))
  both_are_lawful = record {
    grows = λ both old answer new may done.
        both_grow both.0 both.1 old answer new may.0 may.1 done;
    reaches = λ both old prepared new may done.
        let near = first.grows both.0 old (Ok done.0) done.1 may.0 done.2 in
        let also = second.stays both.1 old done.1 near may.1 in
        let far = second.grows both.1 done.1 (Ok done.3.0) done.3.1 also done.3.2 in
        let one = reached_still (reach done.0) done.1 done.3.1 far
        (first.reaches both.0 old done.0 done.1 may.0 done.2) in
        let two = second.reaches both.1 done.1 done.3.0 done.3.1 also done.3.2 in
        let same : prepared ≡ (done.0, done.3.0) = let h = done.3.3.0 in cc in
        subst (λ state. max (reach prepared.0) (others_reach prepared.1) ≤ length state.bytes)
        (sym done.3.3.1)
        (subst (λ prepared.
        max (reach prepared.0) (others_reach prepared.1) ≤ length done.3.1.bytes)
        (sym same) (omega (arith, one, two)));
    stays = λ both old new grows may. (
      first.stays both.0 old new grows may.0,
      second.stays both.1 old new grows may.1,
    );
  }

  pub both_have_contents : {contents : X → List (ℕ × Option Content)}
      {others_contents : Y → List (ℕ × Option Content)} {there : A → List (ℕ × Field)}
      {others_there : B → List (ℕ × Field)} → PreparesContents may outcome contents there
      → PreparesContents others_may others others_contents others_there
      → PreparesContents {X = X × Y} {A = A × B}
      (λ both old. may both.0 old × others_may both.1 old)
      (λ both old answer new. PreparesBoth (outcome both.0) (others both.1) old answer new)
      (λ both. contents both.0 ++ others_contents both.1)
      (λ prepared. there prepared.0 ++ others_there prepared.1)
  both_have_contents {contents} {others_contents} {there} {others_there} holds
      others_hold = record {
        comes = λ both old prepared new history may done is_history.
            let near = holds.comes both.0 old done.0 done.1 history may.0 done.2 is_history in
            let grown = first.grows both.0 old (Ok done.0) done.1 may.0 done.2 in
            let far = others_hold.comes both.1 done.1 done.3.0 done.3.1 near.0
            (second.stays both.1 old done.1 grown may.1) done.3.2 near.1 in
            let same : prepared ≡ (done.0, done.3.0) = let h = done.3.3.0 in cc in (
              far.0,
              subst (λ state. IsHistoryOf state far.0) (sym done.3.3.1) far.1,
              extends_on history near.0 far.0 near.2 far.2,
              subst
                  (λ prepared. FieldsAre far.0
                  (there_of (contents both.0 ++ others_contents both.1))
                  (there prepared.0 ++ others_there prepared.1))
                  (sym same)
                  (contents_both far.0 (contents both.0) (others_contents both.1) (there done.0)
                  (others_there done.3.0)
                  (fields_stay near.0 far.0 (there_of (contents both.0)) (there done.0) far.2
                  near.3)
                  far.3),
            );
      }

pub all_both :
    (fields others : FieldsInTurn) → all_of (fields ++ others) ≡ all_of fields ++ all_of others
all_both [] others = refl
all_both (one ∷ fields) others =
    ap (λ rest. one ++ rest) (all_both fields others)
    ∙ sym (append_assoc one (all_of fields) (all_of others))

pub both_taken :
    (turns more : List Turn) (old between new : State) (fields others : FieldsInTurn)
    → AreTaken turns old fields between → AreTaken more between others new
    → AreTaken (turns ++ more) old (fields ++ others) new
both_taken [] more old between new fields others first second =
    subst (λ (state : State). AreTaken more state (fields ++ others) new) first.1
    (subst (λ (some : FieldsInTurn). AreTaken more between (some ++ others) new) (sym first.0)
    second)
both_taken (turn ∷ turns) more old between new fields others first second = (
  first.0,
  first.1,
  first.2,
  (
    first.3.0 ++ others,
    ap (λ (some : FieldsInTurn). some ++ others) first.3.1,
    both_taken turns more first.1 between new first.3.0 others first.3.2 second,
  ),
)

pub first_fails :
    (turns more : List Turn) (old : State) (error : BuildError) (new : State)
    → OneFails turns old error new → OneFails (turns ++ more) old error new
first_fails [] more old error new h = absurd h
first_fails (turn ∷ turns) more old error new (inl refused) = inl refused
first_fails (turn ∷ turns) more old error new (inr (value, between, done, later)) =
    inr (value, between, done, first_fails turns more between error new later)

pub second_fails :
    (turns more : List Turn) (old between : State) (fields : FieldsInTurn) (error : BuildError)
    (new : State) → AreTaken turns old fields between → OneFails more between error new
    → OneFails (turns ++ more) old error new
second_fails [] more old between fields error new taken h =
    subst (λ (state : State). OneFails more state error new) taken.1 h
second_fails (turn ∷ turns) more old between fields error new taken h =
    inr (
      taken.0,
      taken.1,
      taken.2,
      second_fails turns more taken.1 between taken.3.0 error new taken.3.2 h,
    )

pub field_takes_turn :
    {X Y A B : Type 0} (outcome : X → Outcome (Option A)) (of : Y → X) (value : B → Option A)
    (slot : ℕ) (field : A → Field)
    → TakeTurns (λ y old answer new. PreparesAs value (outcome (of y)) old answer new)
    (λ y. record { Prepared = A; outcome = outcome (of y); slot = slot; as_field = field } ∷ [])
    (λ prepared. field_in slot field (value prepared))
field_takes_turn {X} {Y} {A} {B} outcome of value slot field = record {
  prepared = λ y old b new done. (
    field_in slot field (value b) ∷ [],
    (value b, new, done, ([], refl, (refl, refl))),
    append-nil (field_in slot field (value b)),
  );
  failed = λ y old error new refused. inl refused;
}

module _ {X Y A B : Type 0} {outcome : X → Outcome A} {others : Y → Outcome B}
    {turns : X → List Turn} {others_turns : Y → List Turn} {there : A → List (ℕ × Field)}
    {others_there : B → List (ℕ × Field)} (first : TakeTurns outcome turns there)
    (second : TakeTurns others others_turns others_there) where
  both_fail :
      (both : X × Y) (old : State) (error : BuildError) (new : State)
      → PreparesBoth (outcome both.0) (others both.1) old (Err error) new
      → OneFails (turns both.0 ++ others_turns both.1) old error new
  both_fail both old error new (inl refused) =
      first_fails (turns both.0) (others_turns both.1) old error new
      (first.failed both.0 old error new refused)
  both_fail both old error new (inr (a, between, done, inl refused)) =
      let near = first.prepared both.0 old a between done in
      second_fails (turns both.0) (others_turns both.1) old between near.0 error new near.1
      (second.failed both.1 between error new refused)
  both_fail both old error new (inr (a, between, done, inr answered)) =
      absurd (let same = answered.3.0 in cc)

  pub both_take_turns
      : TakeTurns {X = X × Y} {A = A × B}
      (λ both old answer new. PreparesBoth (outcome both.0) (others both.1) old answer new)
      (λ both. turns both.0 ++ others_turns both.1)
      (λ prepared. there prepared.0 ++ others_there prepared.1)
  both_take_turns = record {
    prepared = λ both old prepared new done.
        let near = first.prepared both.0 old done.0 done.1 done.2 in
        let far = second.prepared both.1 done.1 done.3.0 done.3.1 done.3.2 in
        let same : prepared ≡ (done.0, done.3.0) = let h = done.3.3.0 in cc in (
          near.0 ++ far.0,
          subst
              (λ (state : State).
              AreTaken (turns both.0 ++ others_turns both.1) old (near.0 ++ far.0) state)
              (sym done.3.3.1)
              (both_taken (turns both.0) (others_turns both.1) old done.1 done.3.1 near.0 far.0
              near.1 far.1),
          subst
              (λ (p : A × B). all_of (near.0 ++ far.0) ≡ there p.0 ++ others_there p.1)
              (sym same)
              (all_both near.0 far.0 ∙ ap (λ fields. fields ++ all_of far.0) near.2
              ∙ ap (λ fields. there done.0 ++ fields) far.2),
        );
    failed = λ both old error new refused. both_fail both old error new refused;
  }
