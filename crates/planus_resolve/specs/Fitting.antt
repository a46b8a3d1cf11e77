-- The types that may stand where a name is that refers to none.
use Rattle.std.specs.Prelude.{ℕ, nat_lt, Bool, true, false, Option, Some, None}
use Rattle.planus_schema.specs.declared.schema.Base.{Base}
use Rattle.planus_schema.specs.declared.schema.Base.TheVariants as base
use Rattle.planus_resolve.specs.declared.expected.Expected.{Expected}
use Rattle.planus_resolve.specs.declared.expected.Expected.TheVariants as expected
use Rattle.planus_resolve.specs.Names.{HeadV, is_set, table_in, base_of_item}

-- in the struct of this index: a scalar, or an enum or a struct that is declared before it
abbrev pub fits_in_struct : ℕ → Base → Bool
fits_in_struct index (base.Scalar s) = true
fits_in_struct index base.Text = false
fits_in_struct index (base.Enum i) = nat_lt i index
fits_in_struct index (base.Struct i) = nat_lt i index
fits_in_struct index (base.Table i) = false
fits_in_struct index (base.Union i) = false

-- a table or a struct
abbrev pub is_record : Base → Bool
is_record (base.Scalar s) = false
is_record base.Text = false
is_record (base.Enum i) = false
is_record (base.Struct i) = true
is_record (base.Table i) = true
is_record (base.Union i) = false

-- what a member of a union may be: a table, a struct or a string
abbrev pub is_member : Base → Bool
is_member (base.Scalar s) = false
is_member base.Text = true
is_member (base.Enum i) = false
is_member (base.Struct i) = true
is_member (base.Table i) = true
is_member (base.Union i) = false

abbrev pub fits : Expected → Base → Bool
fits expected.AnyType b = true
fits (expected.InStruct index) b = fits_in_struct index b
fits expected.Table b = is_set (table_in (Some b))
fits expected.Record b = is_record b
fits expected.Member b = is_member b

-- this is a type, and it may stand there
abbrev pub is_fit : Expected → Option Base → Bool
is_fit e None = false
is_fit e (Some b) = fits e b

-- a declaration of this index may stand there
abbrev pub head_fits : Expected → ℕ → HeadV → Bool
head_fits e index h = is_fit e (base_of_item h.declaration.item index)
