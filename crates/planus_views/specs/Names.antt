-- The names of a schema.
use Rattle.std.specs.Prelude.{ℕ, ◌==◌, ◌&&◌, List, [], ◌∷◌, ◌++◌, map, codes, decimal}
use Rattle.std.specs.Prelude.{Option, Some, None, if◌then◌else◌}
use Rattle.std.specs.Str.{bytes_eq}
use Rattle.planus_verify.specs.declared.fault.FieldPlace.{FieldPlace}
use Rattle.planus_views.specs.declared.names.FieldName.{FieldName}
use Rattle.planus_views.specs.declared.names.Names.{Names}
use Rattle.planus_views.specs.declared.names.TableName.{TableName}

pub record NamesV : Type 0 where
  pub tables : List TableName
  pub fields : List FieldName

abbrev pub names_of : Names → NamesV
names_of names = record { tables = names.tables.now; fields = names.fields.now }

-- The same without references: the name of each table after its index, and that of each field after
-- the index of its table and its slot.
pub record NameTexts : Type 0 where
  pub tables : List (ℕ × List ℕ)
  pub fields : List (ℕ × ℕ × List ℕ)

abbrev pub table_text : TableName → ℕ × List ℕ
table_text one = (one.index, one.table.now)

abbrev pub field_text : FieldName → ℕ × ℕ × List ℕ
field_text one = (one.table, one.slot, one.field.now)

abbrev pub name_texts : NamesV → NameTexts
name_texts names = record
    { tables = map table_text names.tables; fields = map field_text names.fields }

-- the index of the first table of this name
abbrev pub table_named : List TableName → List ℕ → Option ℕ
table_named [] name = None
table_named (one ∷ rest) name =
    if bytes_eq one.table.now name then Some one.index else table_named rest name

-- the slot of the first field of this name of a table
abbrev pub slot_named : List FieldName → ℕ → List ℕ → Option ℕ
slot_named [] t name = None
slot_named (one ∷ rest) t name = if (one.table == t) && bytes_eq one.field.now name
    then Some one.slot else slot_named rest t name

-- the name of the field in a slot of a table
abbrev pub field_named : List FieldName → ℕ → ℕ → List ℕ
field_named [] t slot = []
field_named (one ∷ rest) t slot = if (one.table == t) && (one.slot == slot)
    then one.field.now else field_named rest t slot

abbrev pub item_text : Option ℕ → List ℕ
item_text None = []
item_text (Some i) = codes "[" ++ (decimal i ++ codes "]")

-- a field's name, and the index of an item
abbrev pub step_text : NamesV → FieldPlace → List ℕ
step_text names place =
    field_named names.fields place.table place.slot ++ item_text place.item

abbrev pub further_text : NamesV → FieldPlace → List ℕ
further_text names place = codes "." ++ step_text names place

abbrev pub further_texts : NamesV → List FieldPlace → List ℕ
further_texts names [] = []
further_texts names (place ∷ rest) = further_text names place ++ further_texts names rest

-- as `crew[3].name`
abbrev pub trail_text : NamesV → List FieldPlace → List ℕ
trail_text names [] = []
trail_text names (first ∷ rest) = step_text names first ++ further_texts names rest
