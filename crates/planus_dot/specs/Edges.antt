-- The edges of a graph: references from a row of a declaration to a declaration.
use Rattle.std.specs.Prelude.{ℕ, List, [], ◌∷◌, ◌++◌, codes, Option, Some, None}
use Rattle.std.specs.List.{flat_map}
use Rattle.planus_schema.specs.declared.schema.Declared.{Declared}
use Rattle.planus_dot.specs.Rows.{RowV, rows_of, declared_at}

-- from a declaration to another, both by their full names; the label is the name of the row
pub record Edge : Type 0 where
  pub from : List ℕ
  pub label : List ℕ
  pub to : List ℕ

abbrev pub edge_of : List ℕ → List ℕ → List ℕ → Edge
edge_of from label to = record { from = from; label = label; to = to }

abbrev pub edge_to : List ℕ → List ℕ → Option Declared → List Edge
edge_to from label None = []
edge_to from label (Some d) = edge_of from label d.name.items ∷ []

-- one where the row refers to a declaration, or else none
abbrev pub row_edges : List Declared → List ℕ → RowV → List Edge
row_edges ds from row = edge_to from row.name (declared_at ds row.target)

abbrev pub rows_edges : List Declared → List ℕ → List RowV → List Edge
rows_edges ds from rows = flat_map (row_edges ds from) rows

abbrev pub body_edges : List Declared → Declared → List Edge
body_edges ds d = rows_edges ds d.name.items (rows_of d.body)

-- in the order of the declarations, and of their rows
abbrev pub all_edges : List Declared → List Edge
all_edges ds = flat_map (body_edges ds) ds

-- without its line feed
unfoldable pub edge_line : Edge → List ℕ
edge_line e = codes "  \"" ++ (e.from ++ (codes "\" -> \"" ++ (e.to ++ (codes "\" [label=\""
    ++ (e.label ++ codes "\"];")))))

abbrev pub edges_text : List Edge → List ℕ
edges_text es = flat_map (λ e. edge_line e ++ 10 ∷ []) es
