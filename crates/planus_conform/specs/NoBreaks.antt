-- Schemas from one of which to the other nothing breaks.
use Rattle.std.specs.Prelude.{◌≡◌, List, [], ◌∷◌, Bool, true, false}
use Rattle.std.specs.List.{list_all, Contains}
use Rattle.planus_schema.specs.declared.schema.Body.{Body}
use Rattle.planus_schema.specs.declared.schema.Body.TheVariants as body
use Rattle.planus_schema.specs.declared.schema.Declared.{Declared}
use Rattle.planus_schema.specs.declared.schema.Schema.{Schema}
use Rattle.planus_schema.specs.declared.schema.StructField.{StructField}
use Rattle.planus_schema.specs.declared.schema.TableField.{TableField}
use Rattle.planus_resolve.specs.Sound.{IsSound}
use Rattle.planus_conform.specs.declared.breaks.Way.{Way}
use Rattle.planus_conform.specs.Breaks.{breaks_of}

abbrev pub has_fields : List StructField → Bool
has_fields [] = false
has_fields (f ∷ fs) = true

-- a struct has a field: one without takes no byte, and the next field has its distance
abbrev pub is_filled : Body → Bool
is_filled (body.Struct s) = has_fields s.fields.items
is_filled b = true

abbrev pub are_filled : Schema → Bool
are_filled schema = list_all (λ d. is_filled d.body) schema.declarations.items

-- No change is reported where nothing changed.
abbrev pub UnchangedBreaksNothing : Type 0
UnchangedBreaksNothing =
    (way : Way) (schema : Schema) → IsSound schema → are_filled schema ≡ true
    → breaks_of way [] schema schema ≡ []

-- ---- added fields

-- a table keeps each field, anything else is the same
abbrev pub GrowsTo : Body → Body → Type 0
GrowsTo (body.Table t) (body.Table u) =
    (f : TableField) → Contains t.fields.items f → Contains u.fields.items f
GrowsTo b c = b ≡ c

-- each declaration keeps its name and its place, others follow
abbrev pub GrowAllTo : List Declared → List Declared → Type 0
GrowAllTo [] more = Unit {0}
GrowAllTo (d ∷ ds) [] = ⊥
GrowAllTo (d ∷ ds) (e ∷ es) =
    (d.name.items ≡ e.name.items) × GrowsTo d.body e.body × GrowAllTo ds es

-- The new schema has more fields of tables, and more declarations after the old ones.
pub record HasGrown (old new : Schema) : Type 0 where
  pub declarations : GrowAllTo old.declarations.items new.declarations.items
  pub root : old.statements.root ≡ new.statements.root
  pub identifier : old.statements.identifier ≡ new.statements.identifier

-- No added field is reported.
abbrev pub AddedFieldsBreakNothing : Type 0
AddedFieldsBreakNothing =
    (way : Way) (old new : Schema) → IsSound old → IsSound new → are_filled old ≡ true
    → HasGrown old new → breaks_of way [] old new ≡ []
