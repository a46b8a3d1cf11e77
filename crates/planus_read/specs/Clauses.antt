-- A reader's result: a value, or an error.
use Rattle.std.specs.Prelude.{◌≡◌, List, [], ◌∷◌, ◌⊎◌, ⊤, Result, Ok, Err}
use Rattle.planus_read.specs.declared.errors.ErrorKind.{ErrorKind}

pub record Clause : Type 1 where
  pub holds : Type 0
  pub errors : ErrorKind → Type 0

abbrev pub clause : Type 0 → ErrorKind → Clause
clause holds error = record { holds = holds; errors = λ e. e ≡ error }

-- no clause fails
abbrev pub AllHold : List Clause → Type 0
AllHold [] = ⊤
AllHold (first ∷ rest) = first.holds × AllHold rest

-- the error of the first clause that fails
abbrev pub FirstBroken : List Clause → ErrorKind → Type 0
FirstBroken [] e = ⊥
FirstBroken (first ∷ rest) e =
    ((first.holds → ⊥) × first.errors e) ⊎ (first.holds × FirstBroken rest e)

-- which values are encoded, and the clauses tested, in order
pub record Reading (A : Type 0) : Type 1 where
  pub There : A → Type 0
  pub clauses : List Clause

-- the encoded value, or the first error
abbrev pub Answer : {A : Type 0} → Reading A → Result A ErrorKind → Type 0
Answer reading (Ok x) = reading.There x
Answer reading (Err e) = FirstBroken reading.clauses e

-- the same with a result that shows the value
abbrev pub shown : {A B : Type 0} → (A → B → Type 0) → Reading A → Reading B
shown {A} Shows reading =
    record { There = λ shows. (x : A) × reading.There x × Shows x shows; clauses = reading.clauses }
