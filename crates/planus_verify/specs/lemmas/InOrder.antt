-- One step after the other.
use Rattle.std.proofs.Common.{◌≡◌, ℕ, List, [], ◌∷◌, ◌++◌, refl, subst, inl, inr, Result, Ok, Err}
use Rattle.planus_verify.specs.Steps.{Step, Tests, Enters}
use Rattle.planus_verify.specs.Walks.{DoesTable, NoTable, StepDoes, InOrder}
use Rattle.planus_verify.specs.declared.fault.Fault.{Fault}

pub last_step :
    (W : DoesTable) (step : Step) (left : ℕ) (r : Result ℕ Fault) → StepDoes W step left r
    → InOrder W (step ∷ []) left r
last_step W step left (Ok next) h = inl (next, h, refl)
last_step W step left (Err found) h = inr (found, h, refl)

-- after steps that pass, others
pub then_more :
    (W : DoesTable) (steps more : List Step) (left next : ℕ) (r : Result ℕ Fault)
    → InOrder W steps left (Ok next) → InOrder W more next r → InOrder W (steps ++ more) left r
then_more W [] more left next r passed h =
    subst (λ n. InOrder W more n r) (let e : Ok next ≡ Ok left = passed in cc) h
then_more W (step ∷ steps) more left next r (inl (n, first, rest)) h =
    inl (n, first, then_more W steps more n next r rest h)
then_more W (step ∷ steps) more left next r (inr (found, first, e)) h =
    absurd (let f : Ok next ≡ Err found = e in cc)

-- after a fault, none
pub stops_there :
    (W : DoesTable) (steps more : List Step) (left : ℕ) (found : Fault)
    → InOrder W steps left (Err found) → InOrder W (steps ++ more) left (Err found)
stops_there W [] more left found h = absurd (let e : Err found ≡ Ok left = h in cc)
stops_there W (step ∷ steps) more left found (inl (n, first, rest)) =
    inl (n, first, stops_there W steps more n found rest)
stops_there W (step ∷ steps) more left found (inr (other, first, e)) = inr (other, first, e)

tests_alone :
    (W : DoesTable) (step : Step) (left : ℕ) (r : Result ℕ Fault) → StepDoes NoTable step left r
    → StepDoes W step left r
tests_alone W (Tests here clauses) left r h = h
tests_alone W (Enters t S V start) left r h = absurd h

-- steps that enter no table
pub no_tables :
    (W : DoesTable) (steps : List Step) (left : ℕ) (r : Result ℕ Fault)
    → InOrder NoTable steps left r → InOrder W steps left r
no_tables W [] left r h = h
no_tables W (step ∷ steps) left r (inl (next, first, rest)) =
    inl (next, tests_alone W step left (Ok next) first, no_tables W steps next r rest)
no_tables W (step ∷ steps) left r (inr (found, first, e)) =
    inr (found, tests_alone W step left (Err found) first, e)
