-- The rows of a declaration: fields, values of an enum, members of a union.
use Rattle.std.specs.Prelude.{ℕ, false, List, map, Option, Some, None, slice_get}
use Rattle.std.specs.Option.{option_or}
use Rattle.planus_schema.specs.declared.schema.Base.{Base}
use Rattle.planus_schema.specs.declared.schema.Base.TheVariants as base
use Rattle.planus_schema.specs.declared.schema.Body.{Body}
use Rattle.planus_schema.specs.declared.schema.Body.TheVariants as body
use Rattle.planus_schema.specs.declared.schema.Declared.{Declared}
use Rattle.planus_schema.specs.declared.schema.EnumValue.{EnumValue}
use Rattle.planus_schema.specs.declared.schema.FieldType.{FieldType}
use Rattle.planus_schema.specs.declared.schema.StructField.{StructField}
use Rattle.planus_schema.specs.declared.schema.TableField.{TableField}
use Rattle.planus_schema.specs.declared.schema.UnionMember.{UnionMember}
use Rattle.planus_dot.specs.declared.row.Row.{Row}

-- `kind`: a value of an enum has none; `count`: how many items an array of that type has; `target`:
-- the index of the declaration that it refers to
pub record RowV : Type 0 where
  pub name : List ℕ
  pub kind : Option FieldType
  pub count : Option ℕ
  pub target : Option ℕ

abbrev pub row_view : Row → RowV
row_view row =
    record { name = row.name.now; kind = row.kind; count = row.count; target = row.target }

-- the declaration that a type names
abbrev pub target_of : Base → Option ℕ
target_of (base.Scalar s) = None
target_of base.Text = None
target_of (base.Enum i) = Some i
target_of (base.Struct i) = Some i
target_of (base.Table i) = Some i
target_of (base.Union i) = Some i

-- a buffer in a byte vector refers to its root's table
abbrev pub table_row : TableField → RowV
table_row f = record {
  name = f.name.items;
  kind = Some f.kind;
  count = None;
  target = option_or f.nested (target_of f.kind.base);
}

abbrev pub struct_row : StructField → RowV
struct_row f = record {
  name = f.name.items;
  kind = Some (record { vector = false; base = f.base });
  count = f.count;
  target = target_of f.base;
}

abbrev pub value_row : EnumValue → RowV
value_row v = record { name = v.name.items; kind = None; count = None; target = None }

abbrev pub member_row : UnionMember → RowV
member_row m = record {
  name = m.name.items;
  kind = Some (record { vector = false; base = m.base });
  count = None;
  target = target_of m.base;
}

abbrev pub rows_of : Body → List RowV
rows_of (body.Table t) = map table_row t.fields.items
rows_of (body.Struct s) = map struct_row s.fields.items
rows_of (body.Enum e) = map value_row e.values.items
rows_of (body.Union u) = map member_row u.members.items

abbrev pub declared_at : List Declared → Option ℕ → Option Declared
declared_at ds None = None
declared_at ds (Some i) = slice_get ds i
