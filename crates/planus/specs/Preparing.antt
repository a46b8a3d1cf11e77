-- How the fields of a table are prepared and written.
use Rattle.std.specs.Prelude.{◌≡◌, ◌⊎◌, ℕ, List, [], ◌∷◌, ◌++◌, Option, Ok, Err}
use Rattle.planus_read.specs.Values.{Field}
use Rattle.planus_write.specs.Placing.{Outcome, then_does}
use Rattle.planus_write.specs.Preparing.{Answers}
use Rattle.planus.specs.TableFields.{all_of, field_in}
use Rattle.planus_write.specs.Tables.{body_bytes, declared_of}
use Rattle.planus_write.specs.TableWriting.{AnswersTable}
use Rattle.planus_write.specs.State.{State}
use Rattle.planus_write.specs.declared.errors.BuildError.{BuildError}
use Rattle.planus_write.specs.declared.offset.Offset.{Offset}

-- the table of these fields was written at the distance, or there is an error
abbrev pub AnswersFields : {T : Type 0} → List (ℕ × Field) → Outcome (Offset T)
AnswersFields fields = AnswersTable (declared_of fields) (λ place. body_bytes place fields)

-- the same for fields one by one, each present or not
abbrev pub WritesFields : {T : Type 0} → List (List (ℕ × Field)) → Outcome (Offset T)
WritesFields fields = AnswersFields (all_of fields)

-- The same result, in a struct of which `of` is the inside.
abbrev pub PreparesAs : {A B : Type 0} → (B → A) → Outcome A → Outcome B
PreparesAs of prepares old (Ok prepared) new = prepares old (Ok (of prepared)) new
PreparesAs of prepares old (Err error) new = prepares old (Err error) new

-- two are prepared in order, and both returned
abbrev pub PreparesBoth : {A B : Type 0} → Outcome A → Outcome B → Outcome (A × B)
PreparesBoth first second =
    then_does first (λ a. then_does second (λ b. Answers (a, b)))

-- what is prepared of fields, each present or not, in the order written
abbrev pub FieldsInTurn : Type 0
FieldsInTurn = List (List (ℕ × Field))

-- The fields are prepared in turn, after none and before none, and the table of those present is
-- written; the first failure ends it. This is opaque, so that long lists of fields are compared and
-- not computed.
unfoldable pub WritesInTurn :
    {T : Type 0} → (FieldsInTurn → FieldsInTurn → Outcome FieldsInTurn) → Outcome (Offset T)
WritesInTurn in_turn = then_does (in_turn [] []) WritesFields

-- One field is prepared, and then others that take what it was prepared to. This is opaque for the
-- same reason.
unfoldable pub next_turn : {A B : Type 0} → Outcome A → (A → Outcome B) → Outcome B
next_turn one others = then_does one others

-- after these fields, others are prepared, and all are returned
abbrev pub PreparesAfter : Type 1
PreparesAfter = FieldsInTurn → Outcome FieldsInTurn

-- How one field is prepared, by its slot.
pub record Turn : Type 1 where
  pub Prepared : Type 0
  pub outcome : Outcome (Option Prepared)
  pub slot : ℕ
  pub as_field : Prepared → Field

-- the turns one after another, and then others
abbrev pub take_turns : List Turn → PreparesAfter → PreparesAfter
take_turns [] others before = others before
take_turns (turn ∷ turns) others before =
    next_turn turn.outcome
    (λ value. take_turns turns others (before ++ field_in turn.slot turn.as_field value ∷ []))

-- All turns were taken, and prepared these.
abbrev pub AreTaken : List Turn → State → FieldsInTurn → State → Type 0
AreTaken [] old fields new = (fields ≡ []) × (new ≡ old)
AreTaken (turn ∷ turns) old fields new =
    (value : Option turn.Prepared) × (between : State) × turn.outcome old (Ok value) between
    × ((rest : FieldsInTurn) × (fields ≡ field_in turn.slot turn.as_field value ∷ rest)
    × AreTaken turns between rest new)

-- A turn failed, after those before it.
abbrev pub OneFails : List Turn → State → BuildError → State → Type 0
OneFails [] old error new = ⊥
OneFails (turn ∷ turns) old error new =
    turn.outcome old (Err error) new
    ⊎ ((value : Option turn.Prepared) × (between : State) × turn.outcome old (Ok value) between
    × OneFails turns between error new)

-- Fields that are prepared together are prepared in turn.
pub record TakeTurns {X A : Type 0} (outcome : X → Outcome A) (turns : X → List Turn)
    (there : A → List (ℕ × Field)) : Type 0 where
  pub prepared :
      (x : X) (old : State) (a : A) (new : State) → outcome x old (Ok a) new
      → (fields : FieldsInTurn) × AreTaken (turns x) old fields new × (all_of fields ≡ there a)
  pub failed :
      (x : X) (old : State) (error : BuildError) (new : State) → outcome x old (Err error) new
      → OneFails (turns x) old error new
