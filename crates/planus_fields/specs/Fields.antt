-- Optional fields.
use Rattle.std.specs.Prelude.{◌≡◌, ℕ, Option, Some, None, Ok, Err, ⊤}
use Rattle.planus_write.specs.State.{State}
use Rattle.planus_write.specs.Placing.{Outcome}
use Rattle.planus_write.specs.Preparing.{Answers}

-- the distance that it refers to, 0 if absent
abbrev pub reach_if : {A : Type 0} → (A → ℕ) → Option A → ℕ
reach_if reach None = 0
reach_if reach (Some a) = reach a

-- left out where this holds, else prepared
abbrev pub LeftOutWhere : {A : Type 0} → Type 0 → Outcome A → Outcome (Option A)
LeftOutWhere {A} Absent prepare old (Ok None) new = Absent × (new ≡ old)
LeftOutWhere {A} Absent prepare old (Ok (Some a)) new = (Absent → ⊥) × prepare old (Ok a) new
LeftOutWhere {A} Absent prepare old (Err error) new = (Absent → ⊥) × prepare old (Err error) new

-- the field is always written
abbrev pub AlwaysWritten : {A : Type 0} → Outcome A → Outcome (Option A)
AlwaysWritten prepare = LeftOutWhere ⊥ prepare

-- if absent, nothing is prepared
abbrev pub PreparesIf : {X A : Type 0} → (X → Outcome (Option A)) → Option X → Outcome (Option A)
PreparesIf prepare None = Answers None
PreparesIf prepare (Some x) = prepare x

-- an absent field needs no precondition
abbrev pub MayIf : {X : Type 0} → (X → State → Type 0) → Option X → State → Type 0
MayIf may None old = ⊤
MayIf may (Some x) old = may x old
