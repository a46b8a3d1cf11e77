-- What stands in the text of a graph, as it is read line by line.
use Rattle.std.specs.Prelude.{◌≡◌, ℕ, Bool, ◌==◌, ◌&&◌, not, List, [], ◌∷◌, ◌++◌, codes, map}
use Rattle.std.specs.Prelude.{if◌then◌else◌, nat_eq, drop, length}
use Rattle.std.specs.List.{flat_map, list_all, starts_with}
use Rattle.planus_schema.specs.declared.schema.Declared.{Declared}
use Rattle.planus_schema.specs.declared.schema.Schema.{Schema}
use Rattle.planus_dot.specs.Rows.{RowV, rows_of}
use Rattle.planus_dot.specs.Edges.{Edge, edge_of, all_edges}
use Rattle.planus_dot.specs.Graphs.{graph_text}

-- a node, or an edge
pub data Statement : Type 0 where
  node : List ℕ → Statement
  edge : Edge → Statement

-- the lines of a text, the first of which begins so
abbrev pub lines_from : List ℕ → List ℕ → List (List ℕ)
lines_from line [] = line ∷ []
lines_from line (b ∷ bs) = if b == 10 then line ∷ lines_from [] bs else lines_from (line ++ b ∷ []) bs

-- what is before the first quote, and what is after it
pub record Quoted : Type 0 where
  pub name : List ℕ
  pub rest : List ℕ

abbrev pub quoted_from : List ℕ → List ℕ → Quoted
quoted_from name [] = record { name = name; rest = [] }
quoted_from name (b ∷ bs) =
    if b == 34 then record { name = name; rest = bs } else quoted_from (name ++ b ∷ []) bs

abbrev pub quoted : List ℕ → Quoted
quoted bytes = quoted_from [] bytes

-- what follows this beginning
abbrev pub after : List ℕ → List ℕ → List ℕ
after start bytes = drop (length start) bytes

abbrev pub arrow : List ℕ
arrow = codes " -> \""

abbrev pub label : List ℕ
label = codes " [label=\""

abbrev pub edge_read : List ℕ → Quoted → List Statement
edge_read from to = edge (edge_of from (quoted (after label to.rest)).name to.name) ∷ []

-- after a name in quotes an arrow and another name, or else the node's label
abbrev pub statement_read : Quoted → List Statement
statement_read q = if starts_with nat_eq q.rest arrow
    then edge_read q.name (quoted (after arrow q.rest)) else node q.name ∷ []

-- the line of a node or an edge begins with a name in quotes
abbrev pub statement_in : List ℕ → List Statement
statement_in line = if starts_with nat_eq line (codes "  \"")
    then statement_read (quoted (drop 3 line)) else []

-- the nodes and edges of a text, in order
unfoldable pub statements_in : List ℕ → List Statement
statements_in text = flat_map statement_in (lines_from [] text)

abbrev pub no_quote : ℕ → Bool
no_quote b = not (b == 34)

abbrev pub no_feed : ℕ → Bool
no_feed b = not (b == 10)

-- as each name of a schema's text is
abbrev pub is_plain : List ℕ → Bool
is_plain name = list_all no_quote name && list_all no_feed name

abbrev pub has_plain_name : RowV → Bool
has_plain_name row = is_plain row.name

-- of a declaration and of its rows
abbrev pub has_plain_names : Declared → Bool
has_plain_names d = is_plain d.name.items && list_all has_plain_name (rows_of d.body)

-- a node for each declaration
abbrev pub nodes_of : List Declared → List Statement
nodes_of ds = map (λ d. node d.name.items) ds

-- In the text stand a node for each declaration, by its full name, and then an edge for each
-- reference, in order, and nothing else.
abbrev pub IsRead : Schema → Type 0
IsRead schema = statements_in (graph_text schema)
    ≡ nodes_of schema.declarations.items ++ map edge (all_edges schema.declarations.items)
