-- What passes is verified and counted; what is verified is refused by a limit alone.
use Prim.Native.Nat.{zero, suc}
use Rattle.std.proofs.Common.{◌≡◌, ℕ, ◌+◌, ◌<◌, ◌⊎◌, List, [], ◌∷◌, sym, subst, arith, inl, inr, Result, Ok, Err}
use Rattle.planus_read.specs.Clauses.{Clause, AllHold, FirstBroken}
use Rattle.planus_read.specs.declared.errors.ErrorKind.{ErrorKind}
use Rattle.planus_verify.specs.Schemas.{Shapes}
use Rattle.planus_verify.specs.Steps.{Step, Tests, Enters, table_steps}
use Rattle.planus_verify.specs.Verified.{OfTable, OfTables, StepHolds, StepsHold, Verified}
use Rattle.planus_verify.specs.Verified.{step_tables, steps_tables, tables_in}
use Rattle.planus_verify.specs.Walks.{DoesTable, StepDoes, InOrder, Walks}
use Rattle.planus_verify.specs.declared.fault.Fault.{Fault}
use Rattle.planus_verify.specs.declared.fault.Fault.TheVariants as fault

pub broken : (clauses : List Clause) (e : ErrorKind) → FirstBroken clauses e → AllHold clauses → ⊥
broken [] e fails all = fails
broken (first ∷ rest) e (inl (not, error)) all = not all.0
broken (first ∷ rest) e (inr (holds, later)) all = broken rest e later all.1

not_both : {A : Type 0} (rest : ℕ) (found : Fault) → Ok rest ≡ Err found → A
not_both rest found e = absurd (let f : Ok rest ≡ Err found = e in cc)

module _ (W : DoesTable) (Holds : OfTable)
    (passes : (t : ℕ) (S V : List ℕ) (start left rest : ℕ) → W t S V start left (Ok rest)
    → Holds t S V start) where
  step_passes : (step : Step) (left rest : ℕ) → StepDoes W step left (Ok rest) → StepHolds Holds step
  step_passes (Tests here clauses) left rest h = h.0
  step_passes (Enters t S V start) left rest h = passes t S V start left rest h

  steps_pass :
      (steps : List Step) (left rest : ℕ) → InOrder W steps left (Ok rest) → StepsHold Holds steps
  steps_pass [] left rest h = tt
  steps_pass (step ∷ steps) left rest (inl (next, first, more)) =
      (step_passes step left next first, steps_pass steps next rest more)
  steps_pass (step ∷ steps) left rest (inr (found, first, e)) = not_both rest found e

pub walks_pass :
    (schema : Shapes) (n t : ℕ) (S V : List ℕ) (start left rest : ℕ)
    → Walks schema n t S V start left (Ok rest) → Verified schema n t S V start
walks_pass schema zero t S V start left rest h = not_both rest fault.TooDeep h
walks_pass schema (suc n) t S V start zero rest h = not_both rest fault.TooMany h
walks_pass schema (suc n) t S V start (suc left) rest h =
    steps_pass (Walks schema n) (Verified schema n) (walks_pass schema n)
    (table_steps schema t S V start) left rest h

module _ (W : DoesTable) (Holds : OfTable) (tables : OfTables)
    (counts : (t : ℕ) (S V : List ℕ) (start left rest : ℕ) → W t S V start left (Ok rest)
    → Holds t S V start → left ≡ rest + tables t S V start) where
  step_counts :
      (step : Step) (left rest : ℕ) → StepDoes W step left (Ok rest) → StepHolds Holds step
      → left ≡ rest + step_tables tables step
  step_counts (Tests here clauses) left rest h holds = let e = h.1 in omega (arith, e)
  step_counts (Enters t S V start) left rest h holds = counts t S V start left rest h holds

  steps_count :
      (steps : List Step) (left rest : ℕ) → InOrder W steps left (Ok rest) → StepsHold Holds steps
      → left ≡ rest + steps_tables tables steps
  steps_count [] left rest h holds =
      let e : rest ≡ left = (let f : Ok rest ≡ Ok left = h in cc) in omega (arith, e)
  steps_count (step ∷ steps) left rest (inl (next, first, more)) holds =
      let one = step_counts step left next first holds.0 in
      let others = steps_count steps next rest more holds.1 in omega (arith, one, others)
  steps_count (step ∷ steps) left rest (inr (found, first, e)) holds = not_both rest found e

  module _ (Deep : Type 0)
      (limits : (t : ℕ) (S V : List ℕ) (start left : ℕ) (found : Fault)
      → W t S V start left (Err found) → Holds t S V start
      → ((found ≡ fault.TooDeep) × Deep)
      ⊎ ((found ≡ fault.TooMany) × (left < tables t S V start))) where
    step_limits :
        (step : Step) (left : ℕ) (found : Fault) → StepDoes W step left (Err found)
        → StepHolds Holds step
        → ((found ≡ fault.TooDeep) × Deep)
        ⊎ ((found ≡ fault.TooMany) × (left < step_tables tables step))
    step_limits (Tests here clauses) left found h holds = absurd (broken clauses h.0 h.1 holds)
    step_limits (Enters t S V start) left found h holds = limits t S V start left found h holds

    wider :
        (left next count more : ℕ) (found : Fault) → left ≡ next + count
        → ((found ≡ fault.TooDeep) × Deep) ⊎ ((found ≡ fault.TooMany) × (next < more))
        → ((found ≡ fault.TooDeep) × Deep) ⊎ ((found ≡ fault.TooMany) × (left < count + more))
    wider left next count more found e (inl deep) = inl deep
    wider left next count more found e (inr many) =
        inr (many.0, let less = many.1 in omega (arith, e, less))

    before :
        (left count more : ℕ) (found : Fault)
        → ((found ≡ fault.TooDeep) × Deep) ⊎ ((found ≡ fault.TooMany) × (left < count))
        → ((found ≡ fault.TooDeep) × Deep) ⊎ ((found ≡ fault.TooMany) × (left < count + more))
    before left count more found (inl deep) = inl deep
    before left count more found (inr many) =
        inr (many.0, let less = many.1 in omega (arith, less))

    steps_limit :
        (steps : List Step) (left : ℕ) (found : Fault) → InOrder W steps left (Err found)
        → StepsHold Holds steps
        → ((found ≡ fault.TooDeep) × Deep)
        ⊎ ((found ≡ fault.TooMany) × (left < steps_tables tables steps))
    steps_limit [] left found h holds = not_both left found (sym h)
    steps_limit (step ∷ steps) left found (inl (next, first, more)) holds =
        wider left next (step_tables tables step) (steps_tables tables steps) found
        (step_counts step left next first holds.0) (steps_limit steps next found more holds.1)
    steps_limit (step ∷ steps) left found (inr (other, first, e)) holds =
        let same : other ≡ found = (let f : Err found ≡ Err other = e in cc) in
        before left (step_tables tables step) (steps_tables tables steps) found
        (step_limits step left found (subst (λ f. StepDoes W step left (Err f)) same first)
        holds.0)

pub walks_count :
    (schema : Shapes) (n m t : ℕ) (S V : List ℕ) (start left rest : ℕ)
    → Walks schema n t S V start left (Ok rest) → Verified schema m t S V start
    → left ≡ rest + tables_in schema m t S V start
walks_count schema n zero t S V start left rest h holds = absurd holds
walks_count schema zero (suc m) t S V start left rest h holds = not_both rest fault.TooDeep h
walks_count schema (suc n) (suc m) t S V start zero rest h holds = not_both rest fault.TooMany h
walks_count schema (suc n) (suc m) t S V start (suc left) rest h holds =
    let e = steps_count (Walks schema n) (Verified schema m) (tables_in schema m)
    (walks_count schema n m) (table_steps schema t S V start) left rest h holds in
    omega (arith, e)

one_more :
    (n m left count : ℕ) (found : Fault)
    → ((found ≡ fault.TooDeep) × (n < m)) ⊎ ((found ≡ fault.TooMany) × (left < count))
    → ((found ≡ fault.TooDeep) × (suc n < suc m)) ⊎ ((found ≡ fault.TooMany) × (suc left < 1 + count))
one_more n m left count found (inl deep) = inl (deep.0, let less = deep.1 in omega (arith, less))
one_more n m left count found (inr many) = inr (many.0, let less = many.1 in omega (arith, less))

err_is : (found other : Fault) → ◌≡◌ {A = Result ℕ Fault} (Err found) (Err other) → found ≡ other
err_is found other e = let f : Err found ≡ Err other = e in cc

pub walks_limit :
    (schema : Shapes) (n m t : ℕ) (S V : List ℕ) (start left : ℕ) (found : Fault)
    → Walks schema n t S V start left (Err found) → Verified schema m t S V start
    → ((found ≡ fault.TooDeep) × (n < m))
    ⊎ ((found ≡ fault.TooMany) × (left < tables_in schema m t S V start))
walks_limit schema n zero t S V start left found h holds = absurd holds
walks_limit schema zero (suc m) t S V start left found h holds =
    inl (err_is found fault.TooDeep h, omega arith)
walks_limit schema (suc n) (suc m) t S V start zero found h holds =
    inr (err_is found fault.TooMany h, omega arith)
walks_limit schema (suc n) (suc m) t S V start (suc left) found h holds =
    one_more n m left (steps_tables (tables_in schema m) (table_steps schema t S V start)) found
    (steps_limit (Walks schema n) (Verified schema m) (tables_in schema m)
    (walks_count schema n m) (n < m) (walks_limit schema n m) (table_steps schema t S V start)
    left found h holds)
