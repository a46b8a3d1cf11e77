-- The nodes of a graph: a declaration with its rows.
use Rattle.std.specs.Prelude.{ℕ, List, [], ◌∷◌, ◌++◌, codes, Option, Some, None}
use Rattle.std.specs.List.{flat_map}
use Rattle.planus_schema.specs.declared.schema.Body.{Body}
use Rattle.planus_schema.specs.declared.schema.Body.TheVariants as body
use Rattle.planus_schema.specs.declared.schema.Declared.{Declared}
use Rattle.planus_schema.specs.declared.schema.FieldType.{FieldType}
use Rattle.planus_dot.specs.Rows.{RowV, rows_of}
use Rattle.planus_dot.specs.Types.{scalar_name, type_text}

abbrev pub word_of : Body → List ℕ
word_of (body.Table t) = codes "table "
word_of (body.Struct s) = codes "struct "
word_of (body.Enum e) = codes "enum "
word_of (body.Union u) = codes "union "

-- the integer type of an enum
abbrev pub integer_of : Body → List ℕ
integer_of (body.Table t) = []
integer_of (body.Struct s) = []
integer_of (body.Enum e) = codes ": " ++ scalar_name e.scalar
integer_of (body.Union u) = []

abbrev pub kind_text : List Declared → Option FieldType → Option ℕ → List ℕ
kind_text ds None count = []
kind_text ds (Some kind) count = codes ": " ++ type_text ds kind count

-- a line of a label, at its left
abbrev pub row_text : List Declared → RowV → List ℕ
row_text ds row = row.name ++ (kind_text ds row.kind row.count ++ codes "\\l")

abbrev pub rows_text : List Declared → List RowV → List ℕ
rows_text ds rows = flat_map (row_text ds) rows

abbrev pub title_text : Declared → List ℕ
title_text d = word_of d.body ++ (d.name.items ++ integer_of d.body)

-- the fields of a record of Graphviz: its title, and its rows
unfoldable pub label_text : List Declared → Declared → List ℕ
label_text ds d = title_text d ++ 124 ∷ rows_text ds (rows_of d.body)

-- without its line feed
unfoldable pub node_line : List Declared → Declared → List ℕ
node_line ds d = codes "  \"" ++ (d.name.items ++ (codes "\" [label=\"" ++ (label_text ds d
    ++ codes "\"];")))

abbrev pub nodes_text : List Declared → List ℕ
nodes_text ds = flat_map (λ d. node_line ds d ++ 10 ∷ []) ds
