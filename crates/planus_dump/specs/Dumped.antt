-- The result of a dump, by the events of the table at 0.
use Rattle.std.specs.Prelude.{◌≡◌, ◌≢◌, ℕ, ◌<◌, ◌≤◌, List, [], ◌∷◌, ◌++◌, length, map, codes, ⊤}
use Rattle.std.specs.Prelude.{Result, Ok, Err, Vec, String, true, false}
use Rattle.std.specs.String.{string_bytes}
use Rattle.std.specs.declared.alloc.Global.{Global}
use Rattle.planus_dump.specs.Events.{Event, line, faulty, deep, float, events}
use Rattle.planus_dump.specs.Floats.{PrintsFloat}
use Rattle.planus_dump.specs.Lines.{value_line}
use Rattle.planus_dump.specs.Schemas.{is_good}
use Rattle.planus_dump.specs.declared.schemas.Schema.{Schema}
use Rattle.planus_dump.specs.declared.dumps.DumpError.{DumpError}
use Rattle.planus_dump.specs.declared.dumps.DumpError.TheVariants.{OutOfMemory, BadSchema}
use Rattle.planus_dump.specs.declared.dumps.DumpError.TheVariants.{TooDeep, TooManyLines}

-- the greatest depth of a table, the root having depth 1
abbrev pub greatest_depth : ℕ
greatest_depth = 64

-- the events of the table at 0, with the path `root`
abbrev pub events_of : Schema → List ℕ → List Event
events_of schema bytes = events schema greatest_depth schema.root bytes 0 (codes "root")

-- an event's own line, or a path and the text of a float
abbrev pub Shows : Event → List ℕ → Type 0
Shows (line l) shown = shown ≡ l
Shows (faulty l) shown = shown ≡ l
Shows deep shown = ⊥
Shows (float path number) shown =
    (text : List ℕ) × (shown ≡ value_line path text) × PrintsFloat number text

-- one line after the other
abbrev pub AreShown : List Event → List (List ℕ) → Type 0
AreShown [] [] = ⊤
AreShown [] (l ∷ lines) = ⊥
AreShown (e ∷ es) [] = ⊥
AreShown (e ∷ es) (l ∷ lines) = Shows e l × AreShown es lines

-- the first events have these lines
pub record Begin (es : List Event) (lines : List (List ℕ)) (rest : List Event) : Type 0 where
  pub front : List Event
  pub split : es ≡ front ++ rest
  pub shown : AreShown front lines

-- The lines, if they fit the budget and no table is too deep; else the error that comes first. Out
-- of memory is allowed unless the budget is 0.
abbrev pub AnswersEvents : List Event → ℕ → Result (Vec (String Global) Global) DumpError → Type 0
AnswersEvents es budget (Ok lines) =
    Begin es (map string_bytes lines.items) [] × (length lines.items ≤ budget)
AnswersEvents es budget (Err TooDeep) =
    (lines : List (List ℕ)) × (rest : List Event) × Begin es lines (deep ∷ rest)
    × (length lines ≤ budget)
AnswersEvents es budget (Err TooManyLines) =
    (lines : List (List ℕ)) × (next : Event) × (rest : List Event)
    × Begin es lines (next ∷ rest) × (next ≢ deep) × (length lines ≡ budget)
AnswersEvents es budget (Err BadSchema) = ⊥
AnswersEvents es budget (Err OutOfMemory) = 0 < budget

-- `BadSchema` exactly for a bad schema, else the result for the events.
abbrev pub Dumped : Schema → List ℕ → ℕ → Result (Vec (String Global) Global) DumpError → Type 0
Dumped schema bytes budget (Err BadSchema) = is_good schema ≡ false
Dumped schema bytes budget result =
    (is_good schema ≡ true) × AnswersEvents (events_of schema bytes) budget result
