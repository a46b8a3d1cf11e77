-- What a search for a place answers.
use Rattle.std.specs.Prelude.{◌≡◌, ℕ, ◌+◌, ◌≤◌, ◌<◌, List, [], ◌∷◌, ◌++◌, length, reverse}
use Rattle.std.specs.Prelude.{Result, Ok, Err, ⊤}
use Rattle.planus_verify.specs.Schemas.{Shapes}
use Rattle.planus_verify.specs.Steps.{Step, fields_steps}
use Rattle.planus_verify.specs.Trails.{EntersAfter, FieldRefers, FieldsRefer, Leads, OfPlace}
use Rattle.planus_verify.specs.Verified.{OfTable, steps_tables, tables_in}
use Rattle.planus_verify.specs.declared.fault.Fault.TheVariants as fault
use Rattle.planus_verify.specs.declared.fault.FieldPlace.{FieldPlace}
use Rattle.planus_verify.specs.declared.schema.FieldShape.{FieldShape}
use Rattle.planus_verify.specs.declared.search_end.SearchEnd.{SearchEnd}
use Rattle.planus_verify.specs.declared.search_end.SearchEnd.TheVariants.{Found, TooMany, NoMemory}

-- Of the trails that are wanted, and so many tables that may be reached: there is none, and so many
-- more tables may be reached; or there is one, which is returned in reverse if memory is there; or
-- the tables are too many.
abbrev pub AnswersSearch : (List FieldPlace → Type 0) → ℕ → ℕ → Result ℕ SearchEnd → Type 0
AnswersSearch IsWanted tables left (Ok rest) =
    ((trail : List FieldPlace) → IsWanted trail → ⊥) × (left ≤ rest + tables)
AnswersSearch IsWanted tables left (Err (Found trail)) = IsWanted (reverse trail.items)
AnswersSearch IsWanted tables left (Err TooMany) = left < tables
AnswersSearch IsWanted tables left (Err NoMemory) = (trail : List FieldPlace) × IsWanted trail

-- The trail begins at this table, and has at most n places.
abbrev pub LeadsWithin : Shapes → OfPlace → ℕ → List FieldPlace → OfTable
LeadsWithin schema Ends n trail t S V start =
    Leads schema Ends trail t S V start × (length trail ≤ n)

-- Its first place refers to a table, at which the rest begins.
abbrev pub Through :
    Shapes → OfPlace → ℕ → OfPlace → List FieldPlace → Type 0
Through schema Ends n RefersTo [] = ⊥
Through schema Ends n RefersTo (first ∷ rest) =
    (index : ℕ) × (object : List ℕ) × (slots : List ℕ) × (begin : ℕ)
    × RefersTo first index object slots begin
    × LeadsWithin schema Ends n rest index object slots begin

abbrev pub SearchesTable :
    Shapes → OfPlace → ℕ → ℕ → List ℕ → List ℕ → ℕ → ℕ → Result ℕ SearchEnd → Type 0
SearchesTable schema Ends n t S V start =
    AnswersSearch (λ trail. LeadsWithin schema Ends n trail t S V start)
    (tables_in schema n t S V start)

-- all references in some steps
abbrev pub SearchesSteps :
    Shapes → OfPlace → ℕ → List Step → ℕ → Result ℕ SearchEnd → Type 0
SearchesSteps schema Ends n steps =
    AnswersSearch (Through schema Ends n (λ at. EntersAfter (fault.Field at) steps))
    (steps_tables (tables_in schema n) steps)

-- those of a field, by its steps
abbrev pub SearchesField :
    Shapes → OfPlace → ℕ → List Step → ℕ → Result ℕ SearchEnd → Type 0
SearchesField schema Ends n steps =
    AnswersSearch (Through schema Ends n (FieldRefers steps))
    (steps_tables (tables_in schema n) steps)

-- those of some fields of the table t
abbrev pub SearchesFields :
    Shapes → OfPlace → ℕ → ℕ → List ℕ → List ℕ → ℕ → List FieldShape → ℕ → Result ℕ SearchEnd
    → Type 0
SearchesFields schema Ends n t S V start fields =
    AnswersSearch (Through schema Ends n (FieldsRefer schema.variants t S V start fields))
    (steps_tables (tables_in schema n) (fields_steps schema.variants t S V start fields))

-- a place after those of a trail in reverse
abbrev pub Puts : List FieldPlace → FieldPlace → SearchEnd → Type 0
Puts places place (Found trail) = trail.items ≡ places ++ place ∷ []
Puts places place TooMany = ⊥
Puts places place NoMemory = ⊤

-- the same of what was found, if anything
abbrev pub Extends : FieldPlace → Result ℕ SearchEnd → Result ℕ SearchEnd → Type 0
Extends place (Ok left) result = result ≡ Ok left
Extends place (Err TooMany) result = result ≡ Err TooMany
Extends place (Err NoMemory) result = result ≡ Err NoMemory
Extends place (Err (Found trail)) (Ok left) = ⊥
Extends place (Err (Found trail)) (Err end) = Puts trail.items place end
