-- Laws for the contents of optional fields.
use Rattle.std.specs.Prelude.{◌≡◌, Bool, true, false, Option, Some, None, Ok, ⊤, List, []}
use Rattle.std.specs.Prelude.{◌∷◌}
use Rattle.std.specs.Bool.{Decides}
use Rattle.std.proofs.Common.{refl, subst, sym}
use Rattle.planus_read.specs.Values.{Field}
use Rattle.planus_fields.specs.Fields.{MayIf, PreparesIf, LeftOutWhere}
use Rattle.planus_write.specs.History.{History}
use Rattle.planus_write.specs.Placing.{Outcome}
use Rattle.planus_write.specs.Preparing.{Answers}
use Rattle.planus_write.specs.State.{State, IsHistoryOf}
use Rattle.planus_write.specs.Contents.{Content, Comes, PreparesContent}
use Rattle.planus_fields.specs.Contents.{HoldsIf, unless, holds_if, PreparesOptional, is_empty}
use Rattle.planus_write.specs.lemmas.ContentLaws.{stays_there}

pub left_out_prepared : {X A : Type 0} {may : X → State → Type 0} {outcome : X → Outcome A}
    {content : X → Content} {field : A → Field} (is_default : X → Bool) (Default : X → Type 0)
    → ((x : X) → Decides (is_default x) (Default x)) → PreparesContent may outcome content field
    → PreparesOptional may (λ x old answer new. LeftOutWhere (Default x) (outcome x) old answer new)
    (λ x. unless (is_default x) (Some (content x))) field
left_out_prepared {X} {A} {may} {outcome} {content} {field} is_default Default decides lawful =
    record { comes = comes }
  where
    holds : (x : X) (prepared : Option A) (new : State) (history : History) (b : Bool)
        → is_default x ≡ b
        → Comes history new (λ after. HoldsIf after (unless b (Some (content x))) field prepared)
        → Comes history new
        (λ after. HoldsIf after (unless (is_default x) (Some (content x))) field prepared)
    holds x prepared new history b is there =
        subst (λ (b : Bool). Comes history new
        (λ after. HoldsIf after (unless b (Some (content x))) field prepared))
        (sym is) there

    written : (x : X) (old : State) (found : A) (new : State) (history : History) (b : Bool)
        → may x old
        → is_default x ≡ b → (Default x → ⊥) → outcome x old (Ok found) new
        → IsHistoryOf old history
        → Comes history new
        (λ after. HoldsIf after (unless (is_default x) (Some (content x))) field (Some found))
    written x old found new history false may is other done is_history =
        holds x (Some found) new history false is
        (lawful.comes x old found new history may done is_history)
    written x old found new history true may is other done is_history =
        absurd (other ((decides x).0 is))

    comes : (x : X) (old : State) (prepared : Option A) (new : State) (history : History)
        → may x old
        → LeftOutWhere (Default x) (outcome x) old (Ok prepared) new → IsHistoryOf old history
        → Comes history new
        (λ after. HoldsIf after (unless (is_default x) (Some (content x))) field prepared)
    comes x old None new history may done is_history =
        holds x None new history true ((decides x).1 done.0)
        (stays_there history old new (λ after. ⊤) done.1 is_history tt)
    comes x old (Some found) new history may done is_history =
        written x old found new history (is_default x) may refl done.0 done.1 is_history

pub always_prepared : {X A : Type 0} {may : X → State → Type 0} {outcome : X → Outcome A}
    {content : X → Content} {field : A → Field} → PreparesContent may outcome content field
    → PreparesOptional may (λ x old answer new. LeftOutWhere ⊥ (outcome x) old answer new)
    (λ x. Some (content x)) field
always_prepared lawful =
    left_out_prepared (λ x. false) (λ x. ⊥) (λ x. ((λ same. cc), (λ none. absurd none))) lawful

pub never_prepared : {X A : Type 0} {may : X → State → Type 0} {field : A → Field}
    → PreparesOptional {X = X} may (λ x old answer new. Answers None old answer new) (λ x. None)
    field
never_prepared {X} {A} {may} {field} = record {
  comes = λ x old prepared new history may done is_history.
      (let same : None ≡ prepared = cc in
      subst (λ (prepared : Option A). Comes history new
      (λ after. HoldsIf after None field prepared))
      same
      (stays_there history old new (λ after. ⊤) done.1 is_history tt));
}

pub optional_prepared : {X A : Type 0} {may : X → State → Type 0} {outcome : X → Outcome (Option A)}
    {content : X → Option Content} {field : A → Field} → PreparesOptional may outcome content field
    → PreparesOptional (λ x old. MayIf may x old)
    (λ x old answer new. PreparesIf outcome x old answer new)
    (λ x. holds_if content x) field
optional_prepared {X} {A} {may} {outcome} {content} {field} lawful = record { comes = prepared }
  where
    prepared : (x : Option X) (old : State) (prepared : Option A) (new : State) (history : History)
        → MayIf may x old → PreparesIf outcome x old (Ok prepared) new → IsHistoryOf old history
        → Comes history new (λ after. HoldsIf after (holds_if content x) field prepared)
    prepared None old None new history may done is_history =
        stays_there history old new (λ after. ⊤) done.1 is_history tt
    prepared None old (Some found) new history may done is_history = cc
    prepared (Some x) old found new history may done is_history =
        lawful.comes x old found new history may done is_history

pub prepared_as : {X Y A : Type 0} {may : X → State → Type 0} {outcome : X → Outcome (Option A)}
    {content : X → Option Content} {field : A → Field} (of : Y → X)
    → PreparesOptional may outcome content field
    → PreparesOptional (λ y old. may (of y) old) (λ y old answer new. outcome (of y) old answer new)
    (λ y. content (of y)) field
prepared_as of lawful = record { comes = λ y. lawful.comes (of y) }

pub empty_decides : {A : Type 0} (xs : List A) → Decides (is_empty xs) (xs ≡ [])
empty_decides [] = ((λ h. refl), (λ h. refl))
empty_decides (x ∷ xs) = ((λ h. cc), (λ h. cc))
