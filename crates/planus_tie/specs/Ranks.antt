-- What is known of declarations by those before them.
use Rattle.std.specs.Prelude.{ℕ, ◌+◌, Bool, true, false, ◌&&◌, not, List, [], ◌∷◌, ◌++◌, if◌then◌else◌}
use Rattle.std.specs.Prelude.{unwrap_or, slice_get}
use Rattle.std.specs.List.{list_all}
use Rattle.planus_schema.specs.declared.schema.Base.{Base}
use Rattle.planus_schema.specs.declared.schema.Base.TheVariants as base
use Rattle.planus_schema.specs.declared.schema.Body.{Body}
use Rattle.planus_schema.specs.declared.schema.Body.TheVariants as body
use Rattle.planus_schema.specs.declared.schema.Declared.{Declared}
use Rattle.planus_schema.specs.declared.schema.StructField.{StructField}
use Rattle.planus_schema.specs.declared.schema.TableField.{TableField}

abbrev pub is_table : Body → Bool
is_table (body.Table one) = true
is_table b = false

abbrev pub is_union_body : Body → Bool
is_union_body (body.Union one) = true
is_union_body b = false

-- after so many tables and unions
abbrev pub rank_by : ℕ → ℕ → Body → ℕ
rank_by tables unions (body.Union one) = unions
rank_by tables unions b = tables

abbrev pub ranks_from : ℕ → ℕ → List Declared → List ℕ
ranks_from tables unions [] = []
ranks_from tables unions (d ∷ ds) = rank_by tables unions d.body
    ∷ ranks_from (if is_table d.body then tables + 1 else tables)
    (if is_union_body d.body then unions + 1 else unions) ds

-- of each declaration how many tables are before it, and of a union how many unions
abbrev pub ranks_of : List Declared → List ℕ
ranks_of ds = ranks_from 0 0 ds

abbrev pub rank_in : List ℕ → ℕ → ℕ
rank_in ranks i = unwrap_or (slice_get ranks i) 0

-- any bytes of its size are a value of this type, where `totals` says it of the declarations
abbrev pub is_total : List Bool → Base → Bool
is_total totals (base.Scalar s) = true
is_total totals (base.Enum i) = unwrap_or (slice_get totals i) false
is_total totals (base.Struct i) = unwrap_or (slice_get totals i) false
is_total totals b = false

abbrev pub is_value : Base → Bool
is_value (base.Enum i) = true
is_value (base.Struct i) = true
is_value b = false

-- a number or a struct whose bytes may be no value of its type
abbrev pub is_judged : List Bool → TableField → Bool
is_judged totals f =
    is_value f.kind.base && not f.kind.vector && not (is_total totals f.kind.base)

abbrev pub are_total : List Bool → List StructField → Bool
are_total totals fs = list_all (λ f. is_total totals f.base) fs

abbrev pub is_total_body : List Bool → Body → Bool
is_total_body totals (body.Enum one) = one.flags
is_total_body totals (body.Struct one) = are_total totals one.fields.items
is_total_body totals b = false

-- a struct holds only what is declared before it
abbrev pub totals_from : List Bool → List Declared → List Bool
totals_from totals [] = totals
totals_from totals (d ∷ ds) = totals_from (totals ++ is_total_body totals d.body ∷ []) ds

-- of each declaration whether any bytes are a value
abbrev pub totals_of : List Declared → List Bool
totals_of ds = totals_from [] ds
