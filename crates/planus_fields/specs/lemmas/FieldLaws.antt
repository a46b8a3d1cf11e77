-- Laws for optional fields.
use Rattle.std.specs.Prelude.{◌≡◌, ℕ, ◌≤◌, Option, Some, None, Result, Ok, Err, length, ⊤}
use Rattle.std.proofs.Common.{subst, sym, arith}
use Rattle.planus_write.specs.State.{State, Grows}
use Rattle.planus_write.specs.Placing.{Outcome}
use Rattle.planus_write.specs.Preparing.{IsLawful, Answers}
use Rattle.planus_write.specs.lemmas.Laws.{unchanged_grows}
use Rattle.planus_write.specs.declared.errors.BuildError.{BuildError}
use Rattle.planus_fields.specs.Fields.{reach_if, LeftOutWhere, PreparesIf, MayIf}

pub left_out_is_lawful : {X A : Type 0} {may : X → State → Type 0} {outcome : X → Outcome A}
    {reach : A → ℕ}
    (Absent : X → Type 0) → IsLawful may outcome reach
    → IsLawful may (λ x old answer new. LeftOutWhere (Absent x) (outcome x) old answer new)
    (reach_if reach)
left_out_is_lawful {X} {A} {may} {outcome} {reach} Absent lawful =
    record { grows = grows; reaches = reaches; stays = lawful.stays }
  where
    grows : (x : X) (old : State) (answer : Result (Option A) BuildError) (new : State) → may x old
        → LeftOutWhere (Absent x) (outcome x) old answer new → Grows old new
    grows x old (Ok None) new may done = unchanged_grows old new done.1
    grows x old (Ok (Some a)) new may done = lawful.grows x old (Ok a) new may done.1
    grows x old (Err error) new may done = lawful.grows x old (Err error) new may done.1

    reaches : (x : X) (old : State) (answer : Option A) (new : State) → may x old
        → LeftOutWhere (Absent x) (outcome x) old (Ok answer) new
        → reach_if reach answer ≤ length new.bytes
    reaches x old None new may done = omega arith
    reaches x old (Some a) new may done = lawful.reaches x old a new may done.1

pub left_out_always_is_lawful : {X A : Type 0} {reach : A → ℕ}
    → IsLawful {X = X} (λ x old. ⊤) (λ x old answer new. Answers None old answer new)
    (reach_if reach)
left_out_always_is_lawful {X} {A} {reach} =
    record {
      grows = λ x old answer new may done. unchanged_grows old new done.1;
      reaches = λ x old answer new may done.
          (let same : answer ≡ None = cc in
          subst (λ (answer : Option A). reach_if reach answer ≤ length new.bytes) (sym same)
          (omega arith));
      stays = λ x old new grows may. tt;
    }

pub optional_is_lawful : {X A : Type 0} {may : X → State → Type 0}
    {outcome : X → Outcome (Option A)} {reach : A → ℕ}
    → IsLawful may outcome (reach_if reach)
    → IsLawful (MayIf may) (λ x old answer new. PreparesIf outcome x old answer new)
    (reach_if reach)
optional_is_lawful {X} {A} {may} {outcome} {reach} lawful =
    record { grows = grows; reaches = reaches; stays = stays }
  where
    grows : (x : Option X) (old : State) (answer : Result (Option A) BuildError) (new : State)
        → MayIf may x old → PreparesIf outcome x old answer new → Grows old new
    grows None old answer new may done = unchanged_grows old new done.1
    grows (Some x) old answer new may done = lawful.grows x old answer new may done

    reaches : (x : Option X) (old : State) (answer : Option A) (new : State) → MayIf may x old
        → PreparesIf outcome x old (Ok answer) new → reach_if reach answer ≤ length new.bytes
    reaches None old answer new may done =
        let same : answer ≡ None = cc in
        subst (λ (answer : Option A). reach_if reach answer ≤ length new.bytes) (sym same)
        (omega arith)
    reaches (Some x) old answer new may done = lawful.reaches x old answer new may done

    stays : (x : Option X) (old new : State) → Grows old new → MayIf may x old → MayIf may x new
    stays None old new grows may = tt
    stays (Some x) old new grows may = lawful.stays x old new grows may
