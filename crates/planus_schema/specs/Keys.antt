-- Which fields are keys, by which vectors of tables are sorted.
use Rattle.std.specs.Prelude.{Bool, false, ◌&&◌, not, List}
use Rattle.std.specs.List.{list_any}
use Rattle.planus_schema.specs.declared.schema.Body.{Body}
use Rattle.planus_schema.specs.declared.schema.Body.TheVariants as body
use Rattle.planus_schema.specs.declared.schema.Declared.{Declared}
use Rattle.planus_schema.specs.declared.schema.TableField.{TableField}

-- code has nothing of a deprecated field
abbrev pub is_key : TableField → Bool
is_key f = f.key && not f.deprecated

abbrev pub has_key : Body → Bool
has_key (body.Table one) = list_any is_key one.fields.items
has_key b = false

-- one of the tables has a key
abbrev pub have_key : List Declared → Bool
have_key ds = list_any (λ d. has_key d.body) ds
