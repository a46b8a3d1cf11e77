-- When a text is the schema as a value, with its names.
use Rattle.std.specs.Prelude.{◌≡◌, ℕ, Bool, true, ◌&&◌, List}
use Rattle.planus_schema.specs.declared.plan.Line.{Line}
use Rattle.planus_tie.specs.Bare.{bare}
use Rattle.planus_tie.specs.NameLists.{is_names_text}
use Rattle.planus_tie.specs.Shapes.{AreLines, has_fields, has_ranges, has_tagged, has_schema}
use Rattle.planus_tie.specs.declared.naming.Naming.{Naming}

abbrev pub is_schema_text : Naming → List ℕ → List Line → List ℕ → Bool
is_schema_text n ranks ls text = has_fields n.declared.now ranks ls text
    && has_ranges n.declared.now text && has_tagged n.declared.now ranks text
    && has_schema text && is_names_text n ranks ls text

-- The text has the fields, the tables and the unions' members of these declarations, in order, and
-- the names of the tables and of the fields.
pub record IsSchemaTied (n : Naming) (ranks text : List ℕ) : Type 0 where
  pub lines : List Line
  pub are : AreLines n.declared.now 0 n.declared.now lines
  pub tied : is_schema_text n ranks lines (bare text) ≡ true
