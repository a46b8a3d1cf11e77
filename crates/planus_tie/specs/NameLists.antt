-- The names of a schema's tables and fields.
use Rattle.std.specs.Prelude.{ℕ, ◌+◌, ◌&&◌, Bool, List, [], ◌∷◌, ◌++◌, map, length, codes, decimal}
use Rattle.std.specs.List.{flat_map}
use Rattle.planus_schema.specs.declared.schema.Body.{Body}
use Rattle.planus_schema.specs.declared.schema.Body.TheVariants as body
use Rattle.planus_schema.specs.declared.schema.Declared.{Declared}
use Rattle.planus_schema.specs.Plans.{LineV, line_of}
use Rattle.planus_schema.specs.declared.plan.Line.{Line}
use Rattle.planus_tie.specs.Ranks.{rank_in}
use Rattle.planus_tie.specs.Reading.{after, begins, body_of}
use Rattle.planus_tie.specs.Shapes.{comma_of, list_text}
use Rattle.planus_tie.specs.Wanted.{read_slot, type_of}
use Rattle.planus_tie.specs.declared.naming.Naming.{Naming}

abbrev pub table_in : ℕ → Body → List ℕ
table_in i (body.Table one) = i ∷ []
table_in i b = []

-- the indices of the tables among these declarations, from an index on
abbrev pub tables_from : ℕ → List Declared → List ℕ
tables_from i [] = []
tables_from i (d ∷ ds) = table_in i d.body ++ tables_from (i + 1) ds

abbrev pub marked_text : List ℕ → ℕ → List ℕ
marked_text mark number = mark ++ decimal number

-- a name that is the last of an entry, with what follows
abbrev pub quoted_text : List ℕ → List ℕ → List ℕ → List ℕ
quoted_text mark name comma = mark ++ (name ++ (codes "\"}" ++ comma))

-- a table's index and its name
abbrev pub table_name_text : Naming → List ℕ → List ℕ → ℕ → List ℕ
table_name_text n ranks comma i = marked_text (codes "TableName{index:") (rank_in ranks i)
    ++ quoted_text (codes ",table:\"") (type_of n i) comma

-- the index of a field's table, and the field's slot
abbrev pub field_head_text : List ℕ → LineV → List ℕ
field_head_text ranks l = marked_text (codes "FieldName{table:") (rank_in ranks l.table)
    ++ marked_text (codes ",slot:") (read_slot l.field)

-- these and its name in the schema
abbrev pub field_name_text : List ℕ → List ℕ → LineV → List ℕ
field_name_text ranks comma l = field_head_text ranks l
    ++ quoted_text (codes ",field:\"") l.field.name.items comma

abbrev pub table_name_texts : Naming → List ℕ → List ℕ → List ℕ → List ℕ
table_name_texts n ranks comma tables = flat_map (table_name_text n ranks comma) tables

abbrev pub field_name_texts : List ℕ → List ℕ → List Line → List ℕ
field_name_texts ranks comma ls = flat_map (λ l. field_name_text ranks comma (line_of l)) ls

abbrev pub table_names_list : Naming → List ℕ → List ℕ → List ℕ
table_names_list n ranks tables =
    list_text (length tables) (table_name_texts n ranks (comma_of (length tables)) tables)

abbrev pub field_names_list : List ℕ → List Line → List ℕ
field_names_list ranks ls =
    list_text (length ls) (field_name_texts ranks (comma_of (length ls)) ls)

-- each list stands at the first place of its name

abbrev pub has_table_names : Naming → List ℕ → List ℕ → Bool
has_table_names n ranks text =
    begins (after (codes "pub const TABLE_NAMES:[TableName<'static>;") text)
    (table_names_list n ranks (tables_from 0 n.declared.now))

abbrev pub has_field_names : List ℕ → List Line → List ℕ → Bool
has_field_names ranks ls text =
    begins (after (codes "pub const FIELD_NAMES:[FieldName<'static>;") text)
    (field_names_list ranks ls)

-- the names have these lists
abbrev pub has_names : List ℕ → Bool
has_names text = begins (body_of (codes "fn names()->") text)
    (codes "Names{tables:&TABLE_NAMES,fields:&FIELD_NAMES}}")

abbrev pub is_names_text : Naming → List ℕ → List Line → List ℕ → Bool
is_names_text n ranks ls text =
    has_table_names n ranks text && has_field_names ranks ls text && has_names text
